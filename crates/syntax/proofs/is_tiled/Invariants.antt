-- `syntax::is_tiled` meets its contract. The invariant: nothing is off just where the first k elements follow each other, and they end at bit at.
-- Assumes nothing.
use mathlib.Core.Path.{◌≡◌}
use lib.Dec.{eqb}
use Rattle.syntax.specs.Tiling.{follows, end_at}
use Rattle.syntax.proofs.is_tiled.Given as goal

abbrev pub invariant-loop-k : goal.invariant-loop-k
invariant-loop-k l = (eqb l.off 0 ≡ follows l.log l.k) × (l.at ≡ end_at l.log l.k)
