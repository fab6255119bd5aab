-- `alloc::deltas` meets its contract: each turn adds one segment.
-- Assumes nothing.
use mathlib.Core.Path.{◌≡◌}
use Rattle.alloc.specs.Clauses.{deltas_of, segment_end}
use Rattle.alloc.proofs.deltas.Given as goal

abbrev pub invariant-loop-n : goal.invariant-loop-n
invariant-loop-n l =
    (l.mask ≡ deltas_of l.d.offset l.d.len l.d.ba l.initial.mask l.n) × (l.band ≡ segment_end l.d.offset l.d.len l.n)
