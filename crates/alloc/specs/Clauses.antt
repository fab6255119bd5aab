-- TS 6.2.2, bit allocation of one channel, clause by clause.
-- Assumes nothing.
use Rattle.std.specs.Prelude.{ℕ, ◌+◌, ◌-◌, ◌*◌, ◌/◌, min, suc, max, ◌%◌, zero, List, get_or, ℤ, pos, ◌-ℤ◌, ◌+ℤ◌, nat_abs, Bool, cond, ltb}
use Rattle.std.specs.Int.Signed.{shr_z, lt_z}
use Rattle.tables.specs.Numbers.{up, max_z, eq_z}
use Rattle.alloc.specs.Table.{table, inside, blend}
use Rattle.tables.specs.Bands.{band_start, band_of}

-- 6.2.2.2: the power of a bin
unfoldable pub psd_of : ℕ → ℤ
psd_of e = pos 3072 -ℤ pos (128 * e)

-- the powers of the bins from start to end, and 0 elsewhere
unfoldable pub powers_of : List ℕ → ℕ → ℕ → List ℤ
powers_of exp start end = table 256 (inside start end (pos 0) (λ i. psd_of (get_or exp i 0)))

-- 6.2.2.3: the larger of two powers, and what the table adds for their distance
unfoldable pub logadd : List ℕ → ℤ → ℤ → ℤ
logadd latab a b = max_z a b +ℤ pos (get_or latab (min (nat_abs (a -ℤ b) / 2) 255) 0)

-- the power of a band whose first bin is lo, with n bins more: psd is the powers of the bins
unfoldable pub band_sum : List ℕ → (ℕ → ℤ) → ℕ → ℕ → ℤ
band_sum latab psd lo zero = psd lo
band_sum latab psd lo (suc n) = logadd latab (band_sum latab psd lo n) (psd (lo + suc n))

-- the power of band k in a channel that has the bins from start to end
unfoldable pub band_power : List ℕ → (ℕ → ℤ) → ℕ → ℕ → ℕ → ℤ
band_power latab psd start end k = band_sum latab psd (max (band_start k) start) (min (band_start (k + 1)) end - 1 - max (band_start k) start)

-- the powers of the bands before band n, and 0 where there is none
unfoldable pub band_powers : List ℕ → (ℕ → ℤ) → ℕ → ℕ → ℕ → List ℤ
band_powers latab psd start end n = table 50 (inside (band_of start) n (pos 0) (band_power latab psd start end))

-- 6.2.2.4: "(b0 + 256) == b1"
unfoldable pub rises : ℤ → ℤ → Bool
rises b0 b1 = eq_z (b0 +ℤ pos 256) b1

-- the low-frequency compensation after a band of power b0, whose next has b1
unfoldable pub low_step : ℤ → ℤ → ℤ → ℤ → ℤ
low_step peak a b0 b1 =
    cond (rises b0 b1) peak (cond (lt_z b1 b0) (max_z (a -ℤ pos 64) (pos 0)) a)

-- calc_lowcomp
unfoldable pub calc_lowcomp : ℤ → ℤ → ℤ → ℕ → ℤ
calc_lowcomp a b0 b1 band =
    cond (ltb band 7) (low_step (pos 384) a b0 b1)
    (cond (ltb band 20) (low_step (pos 320) a b0 b1)
    (max_z (a -ℤ pos 128) (pos 0)))

-- 6.2.2.5: a band's mask
unfoldable pub mask_at : ℤ → ℤ → ℤ → ℕ → ℤ
mask_at excite power knee hth = max_z (cond (lt_z power knee) (excite +ℤ shr_z (knee -ℤ power) 4) excite) (pos hth)

-- the masks of the bands from first to n
unfoldable pub masks_of : (ℕ → ℤ) → (ℕ → ℤ) → ℤ → List ℕ → ℕ → ℕ → ℕ → List ℤ
masks_of excite power knee hearing fscod first n = table 50 (inside first n (pos 0) (λ k. mask_at (excite k) (power k) knee (get_or hearing (50 * fscod + k) 0)))

-- 6.2.2.6: a segment's step
unfoldable pub delta_of : ℕ → ℤ
delta_of ba = cond (ltb ba 4) (pos (128 * ba) -ℤ pos 512) (pos (128 * (ba - 3)))

-- the masks with the step added to the bands from a to b; bands past 49 are skipped
unfoldable pub add_segment : ℤ → ℕ → ℕ → List ℤ → List ℤ
add_segment delta a b mask = table 50 (blend a b (λ k. get_or mask k (pos 0) +ℤ delta) (λ k. get_or mask k (pos 0)))

-- the band after n segments, which run from band 0
unfoldable pub segment_end : List ℕ → List ℕ → ℕ → ℕ
segment_end offs lens zero = 0
segment_end offs lens (suc n) = segment_end offs lens n + get_or offs n 0 + get_or lens n 0

-- the masks after n segments
unfoldable pub deltas_of : List ℕ → List ℕ → List ℕ → List ℤ → ℕ → List ℤ
deltas_of offs lens bas mask zero = mask
deltas_of offs lens bas mask (suc n) =
    add_segment (delta_of (get_or bas n 0)) (segment_end offs lens n + get_or offs n 0) (segment_end offs lens n + get_or offs n 0 + get_or lens n 0) (deltas_of offs lens bas mask n)

-- 6.2.2.7: what is left of the mask above the floor, cut to its bits 5 to 12, and the floor again
unfoldable pub mask_step : ℤ → ℤ → ℤ → ℤ
mask_step mask snr floor = pos (up (mask -ℤ snr -ℤ floor) % 8192 / 32 * 32) +ℤ floor

-- the place in the table of pointers: a 32nd of the power above the mask, rounded down, and held between 0 and 63
unfoldable pub address : ℤ → ℤ → ℕ
address psd m = min (up (shr_z (psd -ℤ m) 32)) 63

-- 6.2.2.7 and E.2.4.3.1, by the table: the pointer of a bin
unfoldable pub bap_at : List ℕ → (ℕ → ℤ) → (ℕ → ℤ) → ℤ → ℤ → ℕ → ℕ
bap_at baptab psd mask snr floor i = get_or baptab (address (psd i) (mask_step (mask (band_of i)) snr floor)) 0

-- the pointers of the bins from start to n, and 0 elsewhere
unfoldable pub baps_of : List ℕ → (ℕ → ℤ) → (ℕ → ℤ) → ℤ → ℤ → ℕ → ℕ → List ℕ
baps_of baptab psd mask snr floor start n = table 256 (inside start n 0 (bap_at baptab psd mask snr floor))

-- the same of the bins from lo to hi alone, which share the mask m; the others are as they were
unfoldable pub pointed : List ℕ → (ℕ → ℤ) → ℤ → ℕ → ℕ → List ℕ → List ℕ
pointed baptab psd m lo hi out = table 256 (blend lo hi (λ i. get_or baptab (address (psd i) m) 0) (λ i. get_or out i 0))
