-- TS 6.2.2: the pointers of one channel, from its exponents and its decoded parameters.
-- Assumes nothing.
use Rattle.std.specs.Prelude.{ℕ, ◌+◌, ◌-◌, List, get_or, ℤ, pos}
use Rattle.alloc.specs.declared.Carried.{Carried}
use Rattle.alloc.specs.declared.Curve.{Curve}
use Rattle.alloc.specs.declared.Levels.{Levels}
use Rattle.tables.specs.declared.Delta.{Delta}
use Rattle.tables.specs.Bands.{band_of}
use Rattle.alloc.specs.Clauses.{powers_of, band_powers, masks_of, deltas_of, baps_of}
use Rattle.alloc.specs.Excite.{excite_of}

-- the numbers of a list, by place
abbrev pub of : List ℤ → ℕ → ℤ
of l j = get_or l j (pos 0)

-- the band after the last
unfoldable pub stop_of : ℕ → ℕ
stop_of end = band_of (end - 1) + 1

-- 6.2.2.3 to 6.2.2.5: the masks of a channel whose bins have the powers psd
unfoldable pub masks_from : List ℤ → List ℕ → List ℕ → ℕ → ℕ → Curve → Carried → ℤ → ℕ → List ℤ
masks_from psd latab hearing start end c s knee fscod =
    masks_of (of (excite_of c (band_of start) (stop_of end) (of power) s (stop_of end))) (of power) knee hearing fscod (band_of start) (stop_of end)
  where
    power : List ℤ
    power = band_powers latab (of psd) start end (stop_of end)

-- the pointers of a channel
unfoldable pub pointers_of : List ℕ → List ℕ → List ℕ → List ℕ → ℕ → ℕ → Curve → Carried → Levels → Delta → List ℕ
pointers_of exp latab hearing baptab start end c s v d =
    baps_of baptab (of psd) (of (deltas_of d.offset d.len d.ba (masks_from psd latab hearing start end c s v.knee v.fscod) d.count)) v.snr v.floor start end
  where
    psd : List ℤ
    psd = powers_of exp start end
