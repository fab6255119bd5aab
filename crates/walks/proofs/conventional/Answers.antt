-- `walks::conventional` meets its contract: 6 comes first, and else the walk over the codes of the range.
-- Assumes nothing.
use Rattle.std.proofs.Common.{ap, sym, ◌∙◌}
use Rattle.std.proofs.lemmas.Slice.{between_is}
use Rattle.walks.specs.Walk.{state, going, walk_codes}
use Rattle.walks.proofs.Laws.{walk_unfit, walk_fit}
use Rattle.walks.proofs.conventional.Goals as goal

pub returns-then-is_unfit : goal.returns-then-is_unfit
returns-then-is_unfit c =
    let a = c.args in
    rw c.at.ensures (walk_unfit a.frame.now a.place a.bap.now a.start.0 a.end.0 a.groups (sym c.is_unfit.ensures ∙ c.if-is_unfit.true))

pub returns : goal.returns
returns c =
    let a = c.args in
    c.codes-answer.ensures
    ∙ ap (λ bs. walk_codes bs (going (state a.place a.groups))) (between_is a.bap.now a.start.0 a.end.0)
    ∙ walk_fit a.frame.now a.place a.bap.now a.start.0 a.end.0 a.groups (sym c.is_unfit.ensures ∙ c.if-is_unfit.false)
