-- TS 6.2.2.4: the excitation function. The bands are taken in order, and a state goes from each to the next:
-- the two leaks, the low-frequency compensation, the band's excitation, and whether the leaks decay yet.
-- Assumes nothing.
use Rattle.std.specs.Prelude.{ℕ, ◌+◌, ◌-◌, suc, zero, List, ℤ, pos, ◌-ℤ◌, Bool, true, false, ◌&&◌, cond, not, ltb, eqb}
use Rattle.std.specs.Int.Signed.{le_z}
use Rattle.alloc.specs.declared.Carried.{Carried}
use Rattle.alloc.specs.declared.Curve.{Curve}
use Rattle.tables.specs.Numbers.{max_z}
use Rattle.alloc.specs.Table.{table, inside}
use Rattle.alloc.specs.Clauses.{calc_lowcomp}

-- a leak falls by its decay, and not below the band's power less the gain
unfoldable pub decayed : ℤ → ℤ → ℤ → ℤ → ℤ
decayed leak decay power gain = max_z (leak -ℤ decay) (power -ℤ gain)

-- bands 0 and 1
unfoldable pub step_first : Curve → ℤ → ℤ → Carried → Carried
step_first c p low s = record { fast = s.fast; slow = s.slow; low = low; out = p -ℤ c.fgain -ℤ low; begun = false }

-- a band of 2 to 6, up to the first whose power is not above the next one's
unfoldable pub step_begin : Curve → ℤ → ℤ → ℤ → Bool → Carried
step_begin c p q low last =
    record { fast = p -ℤ c.fgain; slow = p -ℤ c.sgain; low = low; out = p -ℤ c.fgain -ℤ low; begun = not last && le_z p q }

-- from there to band 21
unfoldable pub step_low : Curve → ℤ → ℤ → Carried → Carried
step_low c p low s =
    record {
      fast = decayed s.fast c.fdecay p c.fgain;
      slow = decayed s.slow c.sdecay p c.sgain;
      low = low;
      out = max_z (decayed s.fast c.fdecay p c.fgain -ℤ low) (decayed s.slow c.sdecay p c.sgain);
      begun = true;
    }

-- every other band, and each band of a channel that does not begin at band 0
unfoldable pub step_high : Curve → ℤ → Carried → Carried
step_high c p s =
    record {
      fast = decayed s.fast c.fdecay p c.fgain;
      slow = decayed s.slow c.sdecay p c.sgain;
      low = s.low;
      out = max_z (decayed s.fast c.fdecay p c.fgain) (decayed s.slow c.sdecay p c.sgain);
      begun = s.begun;
    }

-- the LFE's last band has no next one to compare with, and keeps the compensation
unfoldable pub low_next : Bool → ℤ → ℤ → ℤ → ℕ → ℤ
low_next last low p q k = cond last low (calc_lowcomp low p q k)

-- a band below 22 of a channel that begins at band 0
unfoldable pub step_full : Curve → Bool → ℤ → ℤ → ℕ → Carried → Carried
step_full c last p q k s =
    cond (ltb k 2) (step_first c p (low_next last s.low p q k) s)
    (cond (ltb k 7 && not s.begun) (step_begin c p q (low_next last s.low p q k) last)
    (step_low c p (low_next last s.low p q k) s))

-- a band's step, in a channel whose first band is `first` and whose bands end at `end`; p is the powers of the bands
unfoldable pub step : Curve → ℕ → ℕ → (ℕ → ℤ) → ℕ → Carried → Carried
step c first end p k s =
    cond (eqb first 0 && ltb k 22) (step_full c (eqb end 7 && eqb k 6) (p k) (p (k + 1)) k s) (step_high c (p k) s)

-- the state after n bands
unfoldable pub leak_at : Curve → ℕ → ℕ → (ℕ → ℤ) → Carried → ℕ → Carried
leak_at c first end p s zero = s
leak_at c first end p s (suc n) = step c first end p (first + n) (leak_at c first end p s n)

-- the excitation of band k
unfoldable pub excite_at : Curve → ℕ → ℕ → (ℕ → ℤ) → Carried → ℕ → ℤ
excite_at c first end p s k = (leak_at c first end p s (k + 1 - first)).out

-- the excitation of the bands from first to k
unfoldable pub excite_of : Curve → ℕ → ℕ → (ℕ → ℤ) → Carried → ℕ → List ℤ
excite_of c first end p s k = table 50 (inside first k (pos 0) (excite_at c first end p s))
