-- A bin lies in its band, and bands follow one another: each is one computed test over the bins or the bands.
-- Assumes nothing.
use Prim.Native.Nat.{ℕ, ◌<◌, ◌≤◌, ◌+◌, ◌-◌, ◌*◌, ◌/◌, min, suc, max, zero}
use mathlib.Core.Path.{◌≡◌, subst, sym, ap, refl}
use mathlib.Core.List.{List, [], ◌∷◌}
use native.Mathlib.Omega.{arith}
use lib.ListN.{length, get_or}
use borrow.Author.Tests.{leb-true, leb-false, le-leb, ltb-true, ltb-false}
use mathlib.Core.Bool.{Bool, true, false, cond}
use lib.Dec.{ltb, eqb, leb, T, ltb→lt, leb→le, eqb→eq}
use native.Mathlib.Nat.{le_refl}
use native.Mathlib.Decide.{ℕ_discrete}
use Rattle.tables.specs.Bands.{band_starts, band_start, at_most, band_of}

-- a test of every number below n, which antt computes
abbrev pub both : Bool → Bool → Bool
both true b = b
both false b = false

pub both_left : (a b : Bool) → T (both a b) → T a
both_left true b t = tt
both_left false b t = t

pub both_right : (a b : Bool) → T (both a b) → T b
both_right true b t = t
both_right false b t = absurd t

abbrev pub all_below : ℕ → (ℕ → Bool) → Bool
all_below zero f = true
all_below (suc n) f = both (f n) (all_below n f)

pub below_at : (n : ℕ) (f : ℕ → Bool) → T (all_below n f) → (k : ℕ) → k < n → T (f k)
below_at zero f t k h = absurd (omega arith)
below_at (suc n) f t k h = pick (λ l. below_at n f (both_right (f n) (all_below n f) t) k l) (ℕ_discrete k n)
  where
    pick : (k < n → T (f k)) → Dec (k ≡ n) → T (f k)
    pick r (yes p) = subst (λ (j : ℕ). T (f j)) (sym p) (both_left (f n) (all_below n f) t)
    pick r (no p) = r (omega (arith, p))

-- where every number of a list is at most b, all are counted
abbrev all_upto : ℕ → List ℕ → Bool
all_upto top [] = true
all_upto top (x ∷ xs) = both (leb x top) (all_upto top xs)

at_most_all : (l : List ℕ) (top b : ℕ) → T (all_upto top l) → top ≤ b → at_most l b ≡ length l
at_most_all [] top b t h = refl
at_most_all (x ∷ xs) top b t h =
    let l = leb→le x top (both_left (leb x top) (all_upto top xs) t) in
    rw (le-leb x b (omega arith)) (ap suc (at_most_all xs top b (both_right (leb x top) (all_upto top xs) t) h))

pub band_past : (b : ℕ) → 253 ≤ b → 50 ≡ band_of b
unfolding band_of
band_past b h = sym (ap (λ (n : ℕ). n - 1) (at_most_all band_starts 253 b tt h))

-- the rule that the code computes a bin's band by
unfoldable pub band_rule : ℕ → ℕ
band_rule b =
    cond (ltb b 28) b
    (cond (ltb b 49) (28 + (b - 28) / 3) (cond (ltb b 85) (35 + (b - 49) / 6) (cond (ltb b 133) (41 + (b - 85) / 12) (45 + (b - 133) / 24))))

pub rule_is : (b : ℕ) → b < 253 → band_rule b ≡ band_of b
unfolding band_rule band_of
rule_is b h = eqb→eq (band_rule b) (band_of b) (below_at 253 (λ n. eqb (band_rule n) (band_of n)) tt b h)

-- the rule that it computes a band's first bin by
unfoldable pub start_rule : ℕ → ℕ
start_rule k =
    cond (ltb k 28) k
    (cond (ltb k 35) (28 + 3 * (k - 28)) (cond (ltb k 41) (49 + 6 * (k - 35)) (cond (ltb k 45) (85 + 12 * (k - 41)) (133 + 24 * (k - 45)))))

pub start_rule_is : (k : ℕ) → k < 50 → start_rule k ≡ band_start k
unfolding start_rule band_start
start_rule_is k h = eqb→eq (start_rule k) (band_start k) (below_at 50 (λ n. eqb (start_rule n) (band_start n)) tt k h)

pub start_past : (k : ℕ) → 50 ≤ k → 253 ≡ band_start k
unfolding band_start
start_past k h =
    let e : 50 ≡ min k 50 = omega arith in
    ap (λ (j : ℕ). get_or band_starts j 0) e

-- a bin lies in its band
pub band_low : (b : ℕ) → b < 253 → band_start (band_of b) ≤ b
unfolding band_start band_of
band_low b h = leb→le (band_start (band_of b)) b (below_at 253 (λ n. leb (band_start (band_of n)) n) tt b h)

pub band_high : (b : ℕ) → b < 253 → b < band_start (band_of b + 1)
unfolding band_start band_of
band_high b h = ltb→lt b (band_start (band_of b + 1)) (below_at 253 (λ n. ltb n (band_start (band_of n + 1))) tt b h)

pub band_below : (b : ℕ) → b < 253 → band_of b < 50
unfolding band_of
band_below b h = ltb→lt (band_of b) 50 (below_at 253 (λ n. ltb (band_of n) 50) tt b h)

-- bands follow one another
pub start_next : (k : ℕ) → k < 50 → band_start k < band_start (k + 1)
unfolding band_start
start_next k h = ltb→lt (band_start k) (band_start (k + 1)) (below_at 50 (λ n. ltb (band_start n) (band_start (n + 1))) tt k h)

-- i and n bands more
start_add : (i n : ℕ) → i + n ≤ 50 → band_start i ≤ band_start (i + n)
start_add i zero l =
    let e : i ≡ i + 0 = omega arith in
    subst (λ (j : ℕ). band_start i ≤ band_start j) e (le_refl (band_start i))
start_add i (suc n) l =
    let m = start_add i n (omega arith) in
    let p = start_next (i + n) (omega arith) in
    let e : i + n + 1 ≡ i + suc n = omega arith in
    subst (λ (j : ℕ). band_start i ≤ band_start j) e (omega arith)

pub start_mono : (i k : ℕ) → i ≤ k → k ≤ 50 → band_start i ≤ band_start k
start_mono i k h l =
    let e : i + (k - i) ≡ k = omega arith in
    subst (λ (j : ℕ). band_start i ≤ band_start j) e (start_add i (k - i) (omega arith))

pub start_end : (k : ℕ) → k ≤ 50 → band_start k ≤ 253
unfolding band_start
start_end k h = leb→le (band_start k) 253 (below_at 51 (λ n. leb (band_start n) 253) tt k (omega arith))

-- a band's bins within [start, end)
pub in_band : (start end k : ℕ) → start < end → end ≤ 253 → band_of start ≤ k → k < band_of (end - 1) + 1
    → (k < 50) × (max (band_start k) start < min (band_start (k + 1)) end) × (band_start (k + 1) ≤ 253)
in_band start end k h e p q =
    let b = band_below (end - 1) (omega arith) in
    let l = band_low (end - 1) (omega arith) in
    let u = band_high start (omega arith) in
    let m = start_mono k (band_of (end - 1)) (omega arith) (omega arith) in
    let n = start_next k (omega arith) in
    let o = start_mono (band_of start + 1) (k + 1) (omega arith) (omega arith) in
    (omega arith, omega arith, start_end (k + 1) (omega arith))

-- a later bin's band is not earlier
pub band_mono : (a b : ℕ) → a ≤ b → b < 253 → band_of a ≤ band_of b
band_mono a b h k = by (leb (band_of a) (band_of b)) refl
  where
    by : (t : Bool) → leb (band_of a) (band_of b) ≡ t → band_of a ≤ band_of b
    by true e = leb-true (band_of a) (band_of b) e
    by false e =
        let l = leb-false (band_of a) (band_of b) e in
        let m = start_mono (band_of b + 1) (band_of a) (omega arith) (omega (arith, band_below a (omega arith))) in
        let n = band_low a (omega arith) in
        let o = band_high b (omega arith) in
        absurd (omega arith)

-- and the band of a bin is the one that it lies in
pub band_is : (j k : ℕ) → k < 50 → band_start k ≤ j → j < band_start (k + 1) → band_of j ≡ k
band_is j k h p q = by (ltb (band_of j) k) (ltb k (band_of j)) refl refl
  where
    by : (a b : Bool) → ltb (band_of j) k ≡ a → ltb k (band_of j) ≡ b → band_of j ≡ k
    by true b s t =
        let e = start_end (k + 1) (omega arith) in
        let l = ltb-true (band_of j) k s in
        let m = start_mono (band_of j + 1) k (omega arith) (omega arith) in
        let n = band_high j (omega arith) in
        absurd (omega arith)
    by false true s t =
        let e = start_end (k + 1) (omega arith) in
        let l = ltb-true k (band_of j) t in
        let b = band_below j (omega arith) in
        let m = start_mono (k + 1) (band_of j) (omega arith) (omega arith) in
        let n = band_low j (omega arith) in
        absurd (omega arith)
    by false false s t =
        let l = ltb-false (band_of j) k s in
        let m = ltb-false k (band_of j) t in
        omega arith
