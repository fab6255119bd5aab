-- `alloc::baps` meets its contract: each turn fills the places of one band's bins.
-- Assumes nothing.
use Prim.Native.Nat.{ℕ, min, max}
use mathlib.Core.Path.{◌≡◌}
use lib.ListN.{get_or}
use lib.IntN.{pos}
use Rattle.tables.specs.Bands.{band_start}
use Rattle.alloc.specs.Clauses.{baps_of}
use Rattle.alloc.proofs.baps.Given as goal

-- the bins before band k are filled
abbrev pub invariant-loop-k : goal.invariant-loop-k
invariant-loop-k l =
    l.out
    ≡ baps_of l.baptab (λ (j : ℕ). get_or l.psd j (pos 0)) (λ (j : ℕ). get_or l.mask j (pos 0)) l.snr l.floor l.bins.start.0
    (min (max (band_start l.k) l.bins.start.0) l.bins.end.0)
