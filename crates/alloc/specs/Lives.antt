-- In which interval every quantity of a channel lives, for any exponents and any LOG_ADD of bytes and any HEARING of 16 bits: so no sum
-- or difference of the clauses leaves an i32. `lives` (proofs/Lives.antt) shows it.
-- Assumes nothing.
use Rattle.std.specs.Prelude.{ℕ, List, ℤ}
use Rattle.tables.specs.Bands.{band_of}
use Rattle.tables.specs.declared.Delta.{Delta}
use Rattle.alloc.specs.declared.Carried.{Carried}
use Rattle.alloc.specs.declared.Curve.{Curve}
use Rattle.alloc.specs.declared.Levels.{Levels}
use Rattle.alloc.specs.Clauses.{powers_of, band_powers, deltas_of, mask_step}
use Rattle.alloc.specs.Excite.{leak_at}
use Rattle.alloc.specs.Ranges.{Powers, BandPowers, Kept, Masks, ShiftedMasks, Cut}
use Rattle.alloc.specs.Channel.{of, stop_of, masks_from}

-- a channel's masks after its segments
abbrev pub shifted_of : List ℕ → List ℕ → List ℕ → ℕ → ℕ → Curve → Carried → Levels → Delta → List ℤ
shifted_of exp latab hearing start end c s v d =
    deltas_of d.offset d.len d.ba (masks_from (powers_of exp start end) latab hearing start end c s v.knee v.fscod) d.count

-- 6.2.2.2 the powers of the bins; 6.2.2.3 those of the bands; 6.2.2.4 leaks, compensation and excitation after every band; 6.2.2.5 the
-- masks; 6.2.2.6 the masks after the segments; 6.2.2.7 the masks cut
pub record Lives (exp latab hearing : List ℕ) (start end : ℕ) (c : Curve) (s : Carried) (v : Levels) (d : Delta) : Type 0 where
  pub powers : Powers (powers_of exp start end)
  pub bands : BandPowers (band_powers latab (of (powers_of exp start end)) start end (stop_of end))
  pub kept : (n : ℕ) → Kept (leak_at c (band_of start) (stop_of end) (of (band_powers latab (of (powers_of exp start end)) start end (stop_of end))) s n)
  pub masks : Masks (masks_from (powers_of exp start end) latab hearing start end c s v.knee v.fscod)
  pub shifted : ShiftedMasks (shifted_of exp latab hearing start end c s v d)
  pub cut : (k : ℕ) → Cut (mask_step (of (shifted_of exp latab hearing start end c s v d) k) v.snr v.floor)
