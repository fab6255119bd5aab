-- `walks::Walk::codes` meets its contract: what the rest of the codes makes of the state so far stays the same from turn to turn.
-- Assumes nothing.
use Rattle.std.proofs.Common.{refl, sym, ◌∙◌, arith}
use Rattle.std.proofs.lemmas.Result.{err_from_is_err_and}
use Rattle.walks.specs.Walk.{state, going}
use Rattle.walks.proofs.Laws.{walk_on_lem, walk_ends, walk_empty}
use Rattle.walks.proofs.Walk.codes.Goals as goal

pub returns-in_err-mantissa : goal.returns-in_err-mantissa
returns-in_err-mantissa c =
    let l = c.loop-b in
    let e = err_from_is_err_and c.from_residual.result c.from_residual.ensures.1 in
    rw (e.1, e.2)
    (walk_ends c.args.bap.now l.b-index (state l.self.place l.self.groups) _ (omega arith) c.in_err-mantissa.ensures refl ∙ l.invariant)

pub loop-b-preserved : goal.loop-b-preserved
loop-b-preserved c =
    let l = c.loop-b in
    walk_on_lem c.args.bap.now l.b-index (state l.self.place l.self.groups) _ (omega arith) c.in_ok-mantissa.ensures refl
    ∙ l.invariant

pub returns : goal.returns
returns c =
    let l = c.loop-b in
    sym (walk_empty c.args.bap.now l.b-index (going (state l.self.place l.self.groups)) (omega arith)) ∙ l.invariant
