-- `alloc::band_powers` meets its contract: each turn fills one band's place.
-- Assumes nothing.
use Prim.Native.Nat.{ℕ}
use mathlib.Core.Path.{◌≡◌}
use lib.ListN.{get_or}
use lib.IntN.{pos}
use Rattle.alloc.specs.Clauses.{band_powers}
use Rattle.alloc.proofs.band_powers.Given as goal

abbrev pub invariant-loop-k : goal.invariant-loop-k
invariant-loop-k l =
    l.out ≡ band_powers l.latab (λ (j : ℕ). get_or l.psd j (pos 0)) l.bins.start.0 l.bins.end.0 l.k
