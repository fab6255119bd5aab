-- The ranges of what TS 6.2.2 computes: no sum of them leaves an i32.
-- Assumes nothing.
use Prim.Native.Nat.{ℕ, ◌<◌, ◌≤◌, ◌+◌, ◌-◌, ◌*◌, ◌/◌, min, suc, max, ◌%◌, zero}
use mathlib.Core.Path.{◌≡◌, refl}
use mathlib.Core.List.{List}
use native.Mathlib.Omega.{arith}
use lib.ListN.{get_or}
use lib.IntN.{ℤ, pos, ◌-ℤ◌, ◌+ℤ◌, nat_abs}
use borrow.Author.Tests.{ltb-true}
use mathlib.Core.Bool.{Bool, true, false, ◌&&◌, cond, not}
use lib.Dec.{ltb, eqb, leb}
use lib.Signed.{shr_z, lt_z}
use Rattle.std.specs.Int.{int_max}
use Rattle.std.proofs.lemmas.Int.{ints}
use Rattle.alloc.specs.declared.Carried.{Carried}
use Rattle.alloc.specs.declared.Curve.{Curve}
use Rattle.tables.specs.Numbers.{up, max_z, Within, Each}
use Rattle.alloc.specs.Table.{inside, blend}
use Rattle.tables.specs.Bands.{band_start, band_of}
use Rattle.alloc.specs.Clauses.{rises, psd_of, powers_of, logadd, band_sum, band_power, band_powers, low_step, calc_lowcomp, mask_at, masks_of, delta_of, add_segment, segment_end, deltas_of, mask_step}
use Rattle.alloc.specs.Excite.{decayed, step_first, step_begin, step_low, step_high, low_next, step_full, step, leak_at, excite_at, excite_of}
use Rattle.alloc.specs.Ranges.{Tame, Kept}
use Rattle.alloc.specs.Channel.{of, stop_of}
use Rattle.tables.proofs.Signed.{parts, add_law, min_law, shr4_law, max_law, within_cond, within_max, within_sub, within_add, widen}
use Rattle.alloc.proofs.TableLaws.{table_each, inside_within}
use Rattle.tables.proofs.BandLaws.{in_band}

-- the larger of two, as std says it
pub max_is : (a b : ℤ) → int_max a b ≡ max_z a b
max_is a b = grind (arith, ints)

pub psd_within : (e : ℕ) → e < 256 → Within 29568 3072 (psd_of e)
unfolding psd_of
psd_within e h =
    let l = min_law (pos 3072) (pos (128 * e)) in
    let p = parts (psd_of e) in
    record { low = omega arith; high = omega arith }

-- a byte of the table adds at most 255
pub logadd_within : (latab : List ℕ) (a b : ℤ) (n : ℕ) → ((k : ℕ) → get_or latab k 0 < 256) → Within 29568 n a → Within 29568 n b
    → Within 29568 (n + 255) (logadd latab a b)
unfolding logadd
logadd_within latab a b n t ha hb =
    let m = max_law a b in
    let l = add_law (max_z a b) (pos (get_or latab (min (nat_abs (a -ℤ b) / 2) 255) 0)) in
    let p = parts (logadd latab a b) in
    let q = t (min (nat_abs (a -ℤ b) / 2) 255) in
    record { low = omega arith; high = omega arith }

pub band_sum_within : (latab : List ℕ) (psd : ℕ → ℤ) (lo n : ℕ) → ((k : ℕ) → get_or latab k 0 < 256) → ((k : ℕ) → Within 29568 3072 (psd k))
    → Within 29568 (3072 + 255 * n) (band_sum latab psd lo n)
unfolding band_sum
band_sum_within latab psd lo zero t h =
    let w = h lo in
    record { low = omega arith; high = omega arith }
band_sum_within latab psd lo (suc n) t h =
    let w = h (lo + suc n) in
    let v = logadd_within latab (band_sum latab psd lo n) (psd (lo + suc n)) (3072 + 255 * n) t (band_sum_within latab psd lo n t h) (record { low = omega arith; high = omega arith }) in
    record { low = omega arith; high = omega arith }

-- 6.2.2.4
lowered_within : (a : ℤ) (n : ℕ) → Within 0 384 a → Within 0 384 (max_z (a -ℤ pos n) (pos 0))
lowered_within a n h =
    let l = min_law a (pos n) in
    let p = parts (a -ℤ pos n) in
    let m = max_law (a -ℤ pos n) (pos 0) in
    record { low = omega arith; high = omega arith }

low_step_within : (n : ℕ) (a b0 b1 : ℤ) → n ≤ 384 → Within 0 384 a → Within 0 384 (low_step (pos n) a b0 b1)
unfolding low_step
low_step_within n a b0 b1 k h =
    within_cond 0 384 (rises b0 b1) (pos n) (cond (lt_z b1 b0) (max_z (a -ℤ pos 64) (pos 0)) a) (record { low = omega arith; high = omega arith })
    (within_cond 0 384 (lt_z b1 b0) (max_z (a -ℤ pos 64) (pos 0)) a (lowered_within a 64 h) h)

pub lowcomp_within : (a b0 b1 : ℤ) (k : ℕ) → Within 0 384 a → Within 0 384 (calc_lowcomp a b0 b1 k)
unfolding calc_lowcomp
lowcomp_within a b0 b1 k h =
    within_cond 0 384 (ltb k 7) (low_step (pos 384) a b0 b1) (cond (ltb k 20) (low_step (pos 320) a b0 b1) (max_z (a -ℤ pos 128) (pos 0)))
    (low_step_within 384 a b0 b1 (omega arith) h)
    (within_cond 0 384 (ltb k 20) (low_step (pos 320) a b0 b1) (max_z (a -ℤ pos 128) (pos 0)) (low_step_within 320 a b0 b1 (omega arith) h) (lowered_within a 128 h))

-- 6.2.2.7
pub mask_step_within : (mask snr floor : ℤ) → Within 2048 1024 floor → Within 2048 9216 (mask_step mask snr floor)
unfolding mask_step
mask_step_within mask snr floor h =
    within_add 0 8192 2048 1024 (pos (up (mask -ℤ snr -ℤ floor) % 8192 / 32 * 32)) floor (record { low = omega arith; high = omega arith }) h

-- 6.2.2.5
pub mask_at_within : (e p k : ℤ) (h : ℕ) → Within 262144 262144 e → Within 131072 131072 p → Within 0 4096 k → h < 65536
    → Within 524288 524288 (mask_at e p k h)
unfolding mask_at
mask_at_within e p k h we wp wk l =
    let w = within_sub 0 4096 131072 131072 k p wk wp in
    let s = shr4_law (k -ℤ p) in
    within_max 524288 524288 (cond (lt_z p k) (e +ℤ shr_z (k -ℤ p) 4) e) (pos h)
    (within_cond 524288 524288 (lt_z p k) (e +ℤ shr_z (k -ℤ p) 4) e
    (widen 524288 524288 (within_add 262144 262144 131072 135168 e (shr_z (k -ℤ p) 4) we (record { low = omega arith; high = omega arith })) (omega arith) (omega arith))
    (widen 524288 524288 we (omega arith) (omega arith)))
    (record { low = omega arith; high = omega arith })

-- a segment's step, and the masks after some
pub delta_within : (ba : ℕ) → ba < 8 → Within 512 512 (delta_of ba)
unfolding delta_of
delta_within ba h =
    within_cond' (ltb ba 4) refl
  where
    within_cond' : (t : Bool) → ltb ba 4 ≡ t → Within 512 512 (cond t (pos (128 * ba) -ℤ pos 512) (pos (128 * (ba - 3))))
    within_cond' true e =
        let l = ltb-true ba 4 e in
        let m = min_law (pos (128 * ba)) (pos 512) in
        let p = parts (pos (128 * ba) -ℤ pos 512) in
        record { low = omega arith; high = omega arith }
    within_cond' false e = record { low = omega arith; high = omega (arith, h) }

pub segment_each : (n : ℕ) (d : ℤ) (a b : ℕ) (mask : List ℤ) → Within 512 512 d → Each n n mask → Each (n + 512) (n + 512) (add_segment d a b mask)
unfolding add_segment blend
segment_each n d a b mask w e =
    table_each (n + 512) (n + 512) 50 (blend a b (λ (j : ℕ). get_or mask j (pos 0) +ℤ d) (λ (j : ℕ). get_or mask j (pos 0)))
    (λ k. within_cond (n + 512) (n + 512) (leb a k && ltb k b) (get_or mask k (pos 0) +ℤ d) (get_or mask k (pos 0)) (within_add n n 512 512 (get_or mask k (pos 0)) d (e.at k) w) (widen (n + 512) (n + 512) (e.at k) (omega arith) (omega arith)))

pub deltas_each : (offs lens bas : List ℕ) (mask : List ℤ) (n : ℕ) → ((k : ℕ) → k < n → get_or bas k 0 < 8) → Each 524288 524288 mask
    → Each (524288 + 512 * n) (524288 + 512 * n) (deltas_of offs lens bas mask n)
unfolding deltas_of
deltas_each offs lens bas mask zero h e = record { at = λ k. widen (524288 + 512 * 0) (524288 + 512 * 0) (e.at k) (omega arith) (omega arith) }
deltas_each offs lens bas mask (suc n) h e =
    let r = segment_each (524288 + 512 * n) (delta_of (get_or bas n 0)) (segment_end offs lens n + get_or offs n 0) (segment_end offs lens n + get_or offs n 0 + get_or lens n 0) (deltas_of offs lens bas mask n) (delta_within (get_or bas n 0) (h n (omega arith))) (deltas_each offs lens bas mask n (λ k p. h k (omega arith)) e) in
    record { at = λ k. widen (524288 + 512 * suc n) (524288 + 512 * suc n) (r.at k) (omega arith) (omega arith) }

pub segment_end_le : (offs lens : List ℕ) (n : ℕ) → ((k : ℕ) → k < n → get_or offs k 0 < 32) → ((k : ℕ) → k < n → get_or lens k 0 < 16)
    → segment_end offs lens n ≤ 46 * n
unfolding segment_end
segment_end_le offs lens zero h l = omega arith
segment_end_le offs lens (suc n) h l =
    omega (arith, segment_end_le offs lens n (λ k p. h k (omega arith)) (λ k p. l k (omega arith)), h n (omega arith), l n (omega arith))

pub low_next_within : (last : Bool) (low p q : ℤ) (k : ℕ) → Within 0 384 low → Within 0 384 (low_next last low p q k)
unfolding low_next
low_next_within last low p q k h = within_cond 0 384 last low (calc_lowcomp low p q k) h (lowcomp_within low p q k h)

pub decayed_within : (leak decay power gain : ℤ) → Within 131072 131072 leak → Within 0 2048 decay → Within 131072 131072 power → Within 0 2048 gain
    → Within 133120 131072 (decayed leak decay power gain)
unfolding decayed
decayed_within leak decay power gain h d p g =
    within_max 133120 131072 (leak -ℤ decay) (power -ℤ gain) (within_sub 131072 131072 0 2048 leak decay h d)
    (within_sub 131072 131072 0 2048 power gain p g)

-- a step keeps the ranges
module _ (c : Curve) (t : Tame c) (p : ℤ) (h : Within 65536 131072 p) where
  wp : Within 131072 131072 p
  wp = widen 131072 131072 h (omega arith) (omega arith)

  leak_within : (leak decay gain : ℤ) → Within 131072 131072 leak → Within 0 2048 decay → Within 0 2048 gain
      → Within 131072 131072 (decayed leak decay p gain)
  unfolding decayed
  leak_within leak decay gain l d g =
      let a = min_law leak decay in
      let b = min_law p gain in
      let m = max_law (leak -ℤ decay) (p -ℤ gain) in
      let z = parts (leak -ℤ decay) in
      let y = parts (p -ℤ gain) in
      record { low = omega arith; high = omega arith }

  first_kept : (low : ℤ) (s : Carried) → Within 0 384 low → Kept s → Kept (step_first c p low s)
  unfolding step_first
  first_kept low s l k =
      record {
        fast = k.fast;
        slow = k.slow;
        low = l;
        out = widen 262144 262144 (within_sub 133120 131072 0 384 (p -ℤ c.fgain) low (within_sub 131072 131072 0 2048 p c.fgain wp t.fg) l) (omega arith) (omega arith);
      }

  begin_kept : (q low : ℤ) (last : Bool) → Within 0 384 low → Kept (step_begin c p q low last)
  unfolding step_begin
  begin_kept q low last l =
      record {
        fast = widen 131072 131072 (within_sub 65536 131072 0 2048 p c.fgain h t.fg) (omega arith) (omega arith);
        slow = widen 131072 131072 (within_sub 65536 131072 0 2048 p c.sgain h t.sg) (omega arith) (omega arith);
        low = l;
        out = widen 262144 262144 (within_sub 133120 131072 0 384 (p -ℤ c.fgain) low (within_sub 131072 131072 0 2048 p c.fgain wp t.fg) l) (omega arith) (omega arith);
      }

  low_kept : (low : ℤ) (s : Carried) → Within 0 384 low → Kept s → Kept (step_low c p low s)
  unfolding step_low
  low_kept low s l k =
      let f = leak_within s.fast c.fdecay c.fgain k.fast t.fd t.fg in
      let w = leak_within s.slow c.sdecay c.sgain k.slow t.sd t.sg in
      record {
        fast = f;
        slow = w;
        low = l;
        out = within_max 262144 262144 (decayed s.fast c.fdecay p c.fgain -ℤ low) (decayed s.slow c.sdecay p c.sgain) (widen 262144 262144 (within_sub 131072 131072 0 384 (decayed s.fast c.fdecay p c.fgain) low f l) (omega arith) (omega arith)) (widen 262144 262144 w (omega arith) (omega arith));
      }

  high_kept : (s : Carried) → Kept s → Kept (step_high c p s)
  unfolding step_high
  high_kept s k =
      let f = leak_within s.fast c.fdecay c.fgain k.fast t.fd t.fg in
      let w = leak_within s.slow c.sdecay c.sgain k.slow t.sd t.sg in
      record {
        fast = f;
        slow = w;
        low = k.low;
        out = within_max 262144 262144 (decayed s.fast c.fdecay p c.fgain) (decayed s.slow c.sdecay p c.sgain) (widen 262144 262144 f (omega arith) (omega arith)) (widen 262144 262144 w (omega arith) (omega arith));
      }

  full_kept : (last : Bool) (q : ℤ) (k : ℕ) (s : Carried) → Kept s → Kept (step_full c last p q k s)
  unfolding step_full
  full_kept last q k s h =
      let l = low_next_within last s.low p q k h.low in
      kept_cond (ltb k 2) _ _ (first_kept (low_next last s.low p q k) s l h)
      (kept_cond (ltb k 7 && not s.begun) _ _ (begin_kept q (low_next last s.low p q k) last l) (low_kept (low_next last s.low p q k) s l h))
    where
      kept_cond : (b : Bool) (x y : Carried) → Kept x → Kept y → Kept (cond b x y)
      kept_cond true x y p q = p
      kept_cond false x y p q = q

pub leak_at_kept : (c : Curve) (first end : ℕ) (p : ℕ → ℤ) (s : Carried) (n : ℕ) → Tame c → ((k : ℕ) → Within 65536 131072 (p k)) → Kept s
    → Kept (leak_at c first end p s n)
unfolding leak_at step
leak_at_kept c first end p s zero t h k = k
leak_at_kept c first end p s (suc n) t h k =
    let r = leak_at_kept c first end p s n t h k in
    kept_cond (eqb first 0 && ltb (first + n) 22) _ _
    (full_kept c t (p (first + n)) (h (first + n)) (eqb end 7 && eqb (first + n) 6) (p (first + n + 1)) (first + n) (leak_at c first end p s n) r)
    (high_kept c t (p (first + n)) (h (first + n)) (leak_at c first end p s n) r)
  where
    kept_cond : (b : Bool) (x y : Carried) → Kept x → Kept y → Kept (cond b x y)
    kept_cond true x y p q = p
    kept_cond false x y p q = q

-- ranges
pub powers_each : (exp : List ℕ) (start end : ℕ) → ((k : ℕ) → start ≤ k → k < end → get_or exp k 0 < 256) → Each 29568 3072 (powers_of exp start end)
unfolding powers_of
powers_each exp start end h =
    table_each 29568 3072 256 (inside start end (pos 0) (λ i. psd_of (get_or exp i 0)))
    (inside_within 29568 3072 start end (λ i. psd_of (get_or exp i 0)) (λ k p q. psd_within (get_or exp k 0) (h k p q)))

pub band_powers_each : (latab : List ℕ) (psd : List ℤ) (start end : ℕ) → start < end → end ≤ 253 → ((k : ℕ) → get_or latab k 0 < 256)
    → Each 29568 3072 psd → Each 65536 131072 (band_powers latab (of psd) start end (stop_of end))
unfolding band_powers stop_of band_power
band_powers_each latab psd start end h l t e =
    table_each 65536 131072 50 (inside (band_of start) (band_of (end - 1) + 1) (pos 0) (band_power latab (of psd) start end))
    (inside_within 65536 131072 (band_of start) (band_of (end - 1) + 1) (band_power latab (of psd) start end)
    (λ k p q. let r = in_band start end k h l p q in
    widen 65536 131072 (band_sum_within latab (of psd) (max (band_start k) start) (min (band_start (k + 1)) end - 1 - max (band_start k) start) t e.at) (omega arith) (omega arith)))

pub excite_each : (c : Curve) (first end n : ℕ) (p : ℕ → ℤ) (s : Carried) → Tame c → ((k : ℕ) → Within 65536 131072 (p k)) → Kept s
    → Each 262144 262144 (excite_of c first end p s n)
unfolding excite_of excite_at
excite_each c first end n p s t h k =
    table_each 262144 262144 50 (inside first n (pos 0) (excite_at c first end p s))
    (inside_within 262144 262144 first n (excite_at c first end p s) (λ j a b. (leak_at_kept c first end p s (j + 1 - first) t h k).out))

pub masks_each : (x p : List ℤ) (knee : ℤ) (hearing : List ℕ) (fscod first n : ℕ) → Each 262144 262144 x → Each 131072 131072 p → Within 0 4096 knee
    → ((k : ℕ) → get_or hearing k 0 < 65536) → Each 524288 524288 (masks_of (of x) (of p) knee hearing fscod first n)
unfolding masks_of
masks_each x p knee hearing fscod first n ex ep wk h =
    table_each 524288 524288 50 (inside first n (pos 0) (λ k. mask_at (of x k) (of p k) knee (get_or hearing (50 * fscod + k) 0)))
    (inside_within 524288 524288 first n (λ k. mask_at (of x k) (of p k) knee (get_or hearing (50 * fscod + k) 0))
    (λ k a b. mask_at_within (of x k) (of p k) knee (get_or hearing (50 * fscod + k) 0) (ex.at k) (ep.at k) wk (h (50 * fscod + k))))
