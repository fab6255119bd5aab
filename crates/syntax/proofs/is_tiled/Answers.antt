-- `syntax::is_tiled` meets its contract. The invariant: nothing is off just where the first k elements follow each other, and they end at bit at.
-- Assumes nothing.
use mathlib.Core.Path.{◌∙◌, sym}
use borrow.Author.Tests.{eq-eqb, ne_eqb}
use native.Mathlib.Omega.{arith}
use Rattle.syntax.proofs.Tiled.{follows_zero, end_zero, end_next, off_next, ends_at, breaks_at}
use Rattle.syntax.proofs.is_tiled.Goals as goal

pub loop-k-init : goal.loop-k-init
loop-k-init c = (sym (follows_zero _), sym (end_zero _))

pub loop-k-preserved : goal.loop-k-preserved
loop-k-preserved c =
    (off_next _ c.loop-k.k c.loop-k.off c.loop-k.at c.loop-k.invariant.0 c.loop-k.invariant.1, sym (end_next _ _))

pub returns-then-off-eq0 : goal.returns-then-off-eq0
returns-then-off-eq0 c =
    ends_at _ _ _ c.loop-k.k _ (omega arith) (sym c.loop-k.invariant.0 ∙ eq-eqb _ _ c.if-off-eq0.true) c.loop-k.invariant.1

pub returns-else-off-eq0 : goal.returns-else-off-eq0
returns-else-off-eq0 c =
    ne_eqb _ _ c.if-off-eq0.false ∙ breaks_at _ _ _ c.loop-k.k (omega arith) (sym c.loop-k.invariant.0 ∙ ne_eqb _ _ c.if-off-eq0.false)
