-- `frame::fit` meets its contract: its tests are those of the definition, in the same order.
-- Assumes nothing.
use mathlib.Core.Path.{◌∙◌, sym, ap}
use Rattle.frame.specs.Tail.{fit_of, behind}
use Rattle.frame.proofs.fit.Goals as goal

pub returns-then-is_unfit : goal.returns-then-is_unfit
unfolding fit_of
returns-then-is_unfit c = rw (c.at.ensures, sym c.is_unfit.ensures ∙ c.if-is_unfit.true)

pub returns-then-passes : goal.returns-then-passes
unfolding fit_of
returns-then-passes c =
    rw (c.at-then-passes.ensures, sym c.is_unfit.ensures ∙ c.if-is_unfit.false, sym c.passes.ensures ∙ c.if-passes.true)

pub returns-then-passes-2 : goal.returns-then-passes-2
unfolding fit_of
returns-then-passes-2 c =
    rw (c.at-then-passes-2.ensures, sym c.is_unfit.ensures ∙ c.if-is_unfit.false, sym c.passes.ensures ∙ c.if-passes.false, ← (c.bits_behind-n.ensures ∙ ap behind c.has_aux.ensures), sym c.passes-2.ensures ∙ c.if-passes-2.true)

pub returns : goal.returns
unfolding fit_of
returns c =
    rw (sym c.is_unfit.ensures ∙ c.if-is_unfit.false, sym c.passes.ensures ∙ c.if-passes.false, ← (c.bits_behind-n.ensures ∙ ap behind c.has_aux.ensures), sym c.passes-2.ensures ∙ c.if-passes-2.false)
