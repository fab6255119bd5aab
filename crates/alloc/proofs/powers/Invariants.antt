-- `alloc::powers` meets its contract: each turn fills one bin's place.
-- Assumes nothing.
use mathlib.Core.Path.{◌≡◌}
use Rattle.alloc.specs.Clauses.{powers_of}
use Rattle.alloc.proofs.powers.Given as goal

abbrev pub invariant-loop-i : goal.invariant-loop-i
invariant-loop-i l = l.psd ≡ powers_of l.exp l.fn.bins.start.0 l.i
