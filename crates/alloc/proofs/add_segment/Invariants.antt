-- `alloc::add_segment` meets its contract: the bands of a segment that there are get its step added.
-- Assumes nothing.
use Prim.Native.Nat.{min}
use mathlib.Core.Path.{◌≡◌}
use Rattle.alloc.specs.Clauses.{add_segment}
use Rattle.alloc.proofs.add_segment.Given as goal

abbrev pub invariant-loop-k : goal.invariant-loop-k
invariant-loop-k l =
    l.mask ≡ add_segment l.delta (min l.a 50) l.k l.initial.mask
