-- `blocks::allocate_block` meets its contract: what every block is tested for first, then the cases of the definition, in its order.
-- Assumes nothing.
use mathlib.Core.Path.{ap, ◌∙◌}
use Rattle.std.specs.Prelude.{Err}
use Rattle.std.proofs.lemmas.Result.{err_from_is_err_and}
use Rattle.refusal.specs.Refusals.{outcome_of}
use Rattle.refusal.proofs.Laws.{ran_is}
use Rattle.blocks.specs.Block.{asked}
use Rattle.blocks.proofs.Cases.{block_stops}
use Rattle.blocks.proofs.allocate_block.Goals as goal

pub returns-in_err-shared : goal.returns-in_err-shared
returns-in_err-shared c =
    let a = c.args in
    let p = err_from_is_err_and c.from_residual.result c.from_residual.ensures.1 in
    ran_is (ap (λ r. outcome_of r) (p.1 ∙ ap (λ r. Err r) p.2)) c.zero_rows.ensures
    ∙ block_stops a.state a.fscod (asked a.present.now a.high.now a.exponents.now a.ranges.now) a.hearing.now a.log_add.now c.in_err-shared.ensures
