-- `aht::count_active` meets its contract: the definition counts the bins that pass a test.
-- Assumes nothing.
use Rattle.std.proofs.Common.{◌≡◌, ◌∙◌, sym, rules}
use Rattle.std.specs.Prelude.{count_by}
use Rattle.std.proofs.lemmas.List.Sums.{count_by-le-length}
use Rattle.aht.specs.Aht.{is_active}
use Rattle.aht.proofs.Laws.{count_is}
use Rattle.aht.proofs.count_active.Goals as goal

pub returns : goal.returns
returns c =
    let a = c.args in
    let e : c.count.result ≡ count_by (is_active a.mode) a.hebap.now = search rules in
    (e ∙ sym (count_is a.mode a.hebap.now), rw e (count_by-le-length (is_active a.mode) a.hebap.now))
