-- Laws of equal ranges of bits. A range of zeros is one that equals as many bits of no bytes, so each law is shown once.
-- Assumes nothing.
use mathlib.Core.Path.{◌≡◌, refl, sym, ap, ap₂, ◌∙◌}
use mathlib.Core.List.{List, []}
use mathlib.Core.Bool.{true, false}
use Prim.Native.Nat.{ℕ, zero, suc, ◌+◌, ◌*◌, ◌-◌, ◌/◌, ◌%◌, ◌^◌, ◌≤◌, ◌<◌}
use native.Mathlib.Nat.{zero-div}
use native.Mathlib.Decide.{ℕ_discrete}
use native.Mathlib.Omega.{arith}
use lib.Dec.{eqb}
use lib.ListN.{length, get_or}
use lib.Seq.{ext_get_or}
use borrow.Author.Tests.{eq-eqb, ne_eqb, eqb-true}
use Rattle.bits.specs.Bits.{bit_at, bits_at}
use Rattle.bits.proofs.Laws.{bits_at_add, bits_at_middle, bits_at_one, bits_at_whole}

-- where the bits are equal, one by one, the values are
pub bits_at_same : (x y : List ℕ) (p q n : ℕ) → ((i : ℕ) → i < n → bit_at x (p + i) ≡ bit_at y (q + i)) → bits_at x p n ≡ bits_at y q n
unfolding bits_at
bits_at_same x y p q zero h = refl
bits_at_same x y p q (suc n) h =
    ap₂ (λ (v b : ℕ). v * 2 + b) (bits_at_same x y p q n (λ i l. h i (omega arith))) (h n (omega arith))

-- where two values are equal, so are those of each part
pub part_same : (x y : List ℕ) (p q i m n : ℕ) → i + m ≤ n → bits_at x p n ≡ bits_at y q n → bits_at x (p + i) m ≡ bits_at y (q + i) m
part_same x y p q i m n h e =
    let b = n - (i + m) in
    let s : n ≡ i + m + b = omega arith in
    let f : bits_at x p (i + m + b) ≡ bits_at y q (i + m + b) = rw s at e in
    sym (bits_at_middle x p i m b) ∙ ap (λ (v : ℕ). v / 2 ^ b % 2 ^ m) f ∙ bits_at_middle y q i m b

-- and each bit is
pub bit_same : (x y : List ℕ) (p q n : ℕ) → bits_at x p n ≡ bits_at y q n → (i : ℕ) → i < n → bit_at x (p + i) ≡ bit_at y (q + i)
bit_same x y p q n e i h = sym (bits_at_one x (p + i)) ∙ part_same x y p q i 1 n (omega arith) e ∙ bits_at_one y (q + i)

-- where the fronts are equal, the wholes are just where the rests are
pub rest_same : (x y : List ℕ) (p q i m : ℕ) → bits_at x p i ≡ bits_at y q i
    → eqb (bits_at x (p + i) m) (bits_at y (q + i) m) ≡ eqb (bits_at x p (i + m)) (bits_at y q (i + m))
rest_same x y p q i m e = go (ℕ_discrete (bits_at x (p + i) m) (bits_at y (q + i) m))
  where
    go : Dec (bits_at x (p + i) m ≡ bits_at y (q + i) m)
        → eqb (bits_at x (p + i) m) (bits_at y (q + i) m) ≡ eqb (bits_at x p (i + m)) (bits_at y q (i + m))
    go (yes r) = eq-eqb _ _ r ∙ sym (eq-eqb (bits_at x p (i + m)) (bits_at y q (i + m)) (rw (bits_at_add x p i m, bits_at_add y q i m, e, r)))
    go (no r) = ne_eqb _ _ r ∙ sym (ne_eqb _ _ (λ w. r (part_same x y p q i m (i + m) (omega arith) w)))

-- a comparison is true exactly if each bit is equal
pub same_bits : (x y : List ℕ) (p q n : ℕ) → eqb (bits_at x p n) (bits_at y q n) ≡ true → (i : ℕ) → i < n → bit_at x (p + i) ≡ bit_at y (q + i)
same_bits x y p q n e = bit_same x y p q n (eqb-true _ _ e)

pub bits_same : (x y : List ℕ) (p q n : ℕ) → ((i : ℕ) → i < n → bit_at x (p + i) ≡ bit_at y (q + i)) → eqb (bits_at x p n) (bits_at y q n) ≡ true
bits_same x y p q n h = eq-eqb _ _ (bits_at_same x y p q n h)

-- no bytes have no bit but 0
pub bit_at_none : (k : ℕ) → bit_at [] k ≡ 0
unfolding bit_at
bit_at_none k = rw (zero-div (2 ^ (7 - k % 8)))

pub bits_at_none : (pos n : ℕ) → bits_at [] pos n ≡ 0
unfolding bits_at
bits_at_none pos zero = refl
bits_at_none pos (suc n) = rw (bits_at_none pos n, bit_at_none (pos + n))

-- a range is zero exactly if each bit is 0
pub zero_bits : (x : List ℕ) (p n : ℕ) → bits_at x p n ≡ 0 → (i : ℕ) → i < n → bit_at x (p + i) ≡ 0
zero_bits x p n e i h = bit_same x [] p 0 n (e ∙ sym (bits_at_none 0 n)) i h ∙ bit_at_none (0 + i)

pub bits_zero : (x : List ℕ) (p n : ℕ) → ((i : ℕ) → i < n → bit_at x (p + i) ≡ 0) → bits_at x p n ≡ 0
bits_zero x p n h = bits_at_same x [] p 0 n (λ i l. h i l ∙ sym (bit_at_none (0 + i))) ∙ bits_at_none 0 n

-- two buffers of equal length and bits are equal
pub bits_ext : (bs cs : List ℕ) → length bs ≡ length cs
    → ((i : ℕ) → i < length bs → get_or bs i 0 < 256) → ((i : ℕ) → i < length cs → get_or cs i 0 < 256)
    → ((k : ℕ) → k < 8 * length bs → bit_at bs k ≡ bit_at cs k) → bs ≡ cs
bits_ext bs cs e hb hc h =
    ext_get_or 0 bs cs e
    (λ i l. sym (bits_at_whole bs i (hb i l)) ∙ bits_at_same bs cs (8 * i) (8 * i) 8 (λ j k. h (8 * i + j) (omega arith)) ∙ bits_at_whole cs i (hc i (omega arith)))

-- comparing in turns: i bits were compared, and the next m are
module _ (x y : List ℕ) (p q i m : ℕ) where
  -- they are equal too
  pub turn_same : bits_at x p i ≡ bits_at y q i → bits_at x (p + i) m ≡ bits_at y (q + i) m → bits_at x p (i + m) ≡ bits_at y q (i + m)
  turn_same e f = rw (bits_at_add x p i m, bits_at_add y q i m, e, f)

  -- they differ
  pub turn_differs : (n : ℕ) → i + m ≤ n → (bits_at x (p + i) m ≡ bits_at y (q + i) m → ⊥) → false ≡ eqb (bits_at x p n) (bits_at y q n)
  turn_differs n h d = sym (ne_eqb _ _ (λ e. d (part_same x y p q i m n h e)))

  -- they are the last
  pub turn_last : (n : ℕ) → i + m ≡ n → bits_at x p i ≡ bits_at y q i
      → eqb (bits_at x (p + i) m) (bits_at y (q + i) m) ≡ eqb (bits_at x p n) (bits_at y q n)
  turn_last n h e = rw h at (rest_same x y p q i m e)
