-- `alloc::band_sum` meets its contract: each turn adds one bin's power.
-- Assumes nothing.
use Prim.Native.Nat.{ℕ, ◌-◌}
use mathlib.Core.Path.{◌≡◌}
use lib.ListN.{get_or}
use lib.IntN.{pos}
use Rattle.alloc.specs.Clauses.{band_sum}
use Rattle.alloc.proofs.band_sum.Given as goal

abbrev pub invariant-loop-j : goal.invariant-loop-j
invariant-loop-j l = l.acc ≡ band_sum l.latab (λ (k : ℕ). get_or l.psd k (pos 0)) l.lo (l.j - 1 - l.lo)
