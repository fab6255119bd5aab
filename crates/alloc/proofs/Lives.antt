-- Every quantity of a channel lives in its interval, where the parameters live in theirs (`curve_tame`, `levels_level`, `start_kept` and
-- `delta_sized` of ParamLaws: those that codes decode to do).
-- Assumes nothing.
use Prim.Native.Nat.{ℕ, ◌<◌, ◌≤◌}
use mathlib.Core.List.{List}
use native.Mathlib.Omega.{arith}
use lib.ListN.{get_or}
use lib.IntN.{ℤ}
use Rattle.tables.specs.Numbers.{Each}
use Rattle.tables.specs.Bands.{band_of}
use Rattle.tables.specs.declared.Delta.{Delta}
use Rattle.tables.proofs.Signed.{widen}
use Rattle.alloc.specs.declared.Carried.{Carried}
use Rattle.alloc.specs.declared.Curve.{Curve}
use Rattle.alloc.specs.declared.Levels.{Levels}
use Rattle.alloc.specs.Clauses.{powers_of, band_powers}
use Rattle.alloc.specs.Excite.{excite_of}
use Rattle.alloc.specs.Ranges.{Tame, Kept, Level, Segments}
use Rattle.alloc.specs.Channel.{of, stop_of, masks_from}
use Rattle.alloc.specs.Lives.{shifted_of, Lives}
use Rattle.alloc.proofs.RangeLaws.{powers_each, band_powers_each, leak_at_kept, excite_each, masks_each, deltas_each, mask_step_within}

module _ (exp latab hearing : List ℕ) (start end : ℕ) (c : Curve) (s : Carried) (v : Levels) (d : Delta) where
  -- the powers of the bands
  power : List ℤ
  power = band_powers latab (of (powers_of exp start end)) start end (stop_of end)

  module _ (h : start < end) (l : end ≤ 253) (e : (k : ℕ) → get_or exp k 0 < 256) (t : (k : ℕ) → get_or latab k 0 < 256)
      (u : (k : ℕ) → get_or hearing k 0 < 65536) (tame : Tame c) (keeps : Kept s) (level : Level v) (sized : Segments d) where
    bands_live : Each 65536 131072 power
    unfolding power
    bands_live = band_powers_each latab (powers_of exp start end) start end h l t (powers_each exp start end (λ k p q. e k))

    masks_live : Each 524288 524288 (masks_from (powers_of exp start end) latab hearing start end c s v.knee v.fscod)
    unfolding masks_from power
    masks_live =
        masks_each (excite_of c (band_of start) (stop_of end) (of power) s (stop_of end)) power v.knee hearing v.fscod (band_of start) (stop_of end)
        (excite_each c (band_of start) (stop_of end) (stop_of end) (of power) s tame bands_live.at keeps)
        (record { at = λ k. widen 131072 131072 (bands_live.at k) (omega arith) (omega arith) }) level.knee u

    shifted_live : Each 1048576 1048576 (shifted_of exp latab hearing start end c s v d)
    shifted_live =
        let r = deltas_each d.offset d.len d.ba _ d.count sized.ba.at masks_live in
        record { at = λ k. widen 1048576 1048576 (r.at k) (omega (arith, sized.count)) (omega (arith, sized.count)) }

    pub lives : Lives exp latab hearing start end c s v d
    unfolding power
    lives =
        record {
          powers = powers_each exp start end (λ k p q. e k);
          bands = bands_live;
          kept = λ n. leak_at_kept c (band_of start) (stop_of end) (of power) s n tame bands_live.at keeps;
          masks = masks_live;
          shifted = shifted_live;
          cut = λ k. widen 2048 16384 (mask_step_within (of (shifted_of exp latab hearing start end c s v d) k) v.snr v.floor level.floor) (omega arith) (omega arith);
        }
