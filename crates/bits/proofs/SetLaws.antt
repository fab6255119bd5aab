-- Laws of setting bits: what a caller's proof cites, so that it never opens the definitions.
-- Assumes nothing.
use mathlib.Core.Path.{◌≡◌, refl, sym, ap, ◌∙◌, subst}
use mathlib.Core.List.{List}
use Prim.Native.Nat.{ℕ, zero, suc, ◌+◌, ◌*◌, ◌-◌, ◌/◌, ◌%◌, ◌^◌, ◌≤◌, ◌<◌}
use native.Mathlib.Nat.{pow-suc, mod-lt, mod-one}
use native.Mathlib.Numerals.{add-one}
use native.Mathlib.Omega.{arith}
use lib.ListN.{length, get_or, set, length-set}
use lib.Seq.{get_or-set_same, get_or-set_other, set_out}
use mathlib.Core.Logic.{◌⊎◌, inl, inr, ⊎_elim}
use native.Mathlib.Decide.{dec_lt, ℕ_discrete}
use lib.Arith.{digits_lt}
use lib.Pow.{pow_pos, pow-add, high, low, field, mod-mod-pow, mod-pow-add, shr-shr, shr_lt}
use Rattle.bits.specs.Bits.{bit_at, bits_at, with_bit, set_bit, set_bits}
use Rattle.bits.proofs.SameLaws.{bits_at_same}

-- a byte stays a byte
pub with_bit_lt : (x e b : ℕ) → e < 8 → x < 256 → b < 2 → with_bit x e b < 256
unfolding with_bit
with_bit_lt x e b he hx hb =
    let k = 7 - e in
    let s : k + 1 + e ≡ 8 = omega arith in
    let q : x / 2 ^ e < 2 ^ (k + 1) = shr_lt (k + 1) e (rw s hx) in
    let p : 2 ^ (k + 1) ≡ 2 ^ k * 2 = rw (add-one k) (pow-suc 2 k) in
    let d : x / 2 ^ e / 2 * 2 + b < 2 ^ (k + 1) = omega arith in
    let t : 2 ^ (k + 1) * 2 ^ e ≡ 256 = sym (pow-add 2 (k + 1) e) ∙ ap (λ (n : ℕ). 2 ^ n) s in
    subst (λ (n : ℕ). (x / 2 ^ e / 2 * 2 + b) * 2 ^ e + x % 2 ^ e < n) t (digits_lt d (mod-lt x (pow_pos e)))

-- the bit that was set
pub with_bit_same : (x e b : ℕ) → b < 2 → with_bit x e b / 2 ^ e % 2 ≡ b
unfolding with_bit
with_bit_same x e b h = rw (high (x / 2 ^ e / 2 * 2 + b) e (mod-lt x (pow_pos e))) (omega arith)

-- a bit of more weight
with_bit_above : (x e b d : ℕ) → b < 2 → with_bit x e b / 2 ^ (e + 1 + d) ≡ x / 2 ^ (e + 1 + d)
unfolding with_bit
with_bit_above x e b d h =
    let q : (x / 2 ^ e / 2 * 2 + b) / 2 ^ 1 ≡ x / 2 ^ e / 2 ^ 1 = omega arith in
    rw (
      ← shr-shr ((x / 2 ^ e / 2 * 2 + b) * 2 ^ e + x % 2 ^ e) (e + 1) d,
      ← shr-shr ((x / 2 ^ e / 2 * 2 + b) * 2 ^ e + x % 2 ^ e) e 1,
      high (x / 2 ^ e / 2 * 2 + b) e (mod-lt x (pow_pos e)),
      q,
      shr-shr x e 1,
      shr-shr x (e + 1) d,
    )

-- a bit of less weight
with_bit_below : (x e b k : ℕ) → k < e → with_bit x e b / 2 ^ k % 2 ≡ x / 2 ^ k % 2
unfolding with_bit
with_bit_below x e b k h =
    let y = with_bit x e b in
    let j = e - (1 + k) in
    let s : j + (1 + k) ≡ e = omega arith in
    let ly : y % 2 ^ e ≡ x % 2 ^ e = low (x / 2 ^ e / 2 * 2 + b) e (mod-lt x (pow_pos e)) in
    let my : y % 2 ^ e % 2 ^ (1 + k) ≡ y % 2 ^ (1 + k) = rw s at (mod-mod-pow y j (1 + k)) in
    let mx : x % 2 ^ e % 2 ^ (1 + k) ≡ x % 2 ^ (1 + k) = rw s at (mod-mod-pow x j (1 + k)) in
    let l : y % 2 ^ (1 + k) ≡ x % 2 ^ (1 + k) = sym my ∙ ap (λ (n : ℕ). n % 2 ^ (1 + k)) ly ∙ mx in
    sym (field y 1 k) ∙ ap (λ (n : ℕ). n / 2 ^ k) l ∙ field x 1 k

-- any other bit of a byte
pub with_bit_other : (x e b k : ℕ) → b < 2 → (k ≡ e → ⊥) → with_bit x e b / 2 ^ k % 2 ≡ x / 2 ^ k % 2
with_bit_other x e b k h n = go (dec_lt k e)
  where
    go : Dec (k < e) → with_bit x e b / 2 ^ k % 2 ≡ x / 2 ^ k % 2
    go (yes l) = with_bit_below x e b k l
    go (no g) =
        let d = k - (e + 1) in
        let s : e + 1 + d ≡ k = omega arith in
        ap (λ (m : ℕ). m % 2) (rw s at (with_bit_above x e b d h))

pub length-set_bit : (bs : List ℕ) (k b : ℕ) → length (set_bit bs k b) ≡ length bs
unfolding set_bit
length-set_bit bs k b = length-set bs (k / 8) _

pub length-set_bits : (bs : List ℕ) (pos n v : ℕ) → length (set_bits bs pos n v) ≡ length bs
unfolding set_bits
length-set_bits bs pos zero v = refl
length-set_bits bs pos (suc n) v = length-set_bit (set_bits bs pos n (v / 2)) (pos + n) (v % 2) ∙ length-set_bits bs pos n (v / 2)

-- bit k after bit k was set
pub bit_at-set_bit : (bs : List ℕ) (k b : ℕ) → b < 2 → k < 8 * length bs → bit_at (set_bit bs k b) k ≡ b
unfolding set_bit bit_at
bit_at-set_bit bs k b hb h =
    rw (get_or-set_same bs (k / 8) (with_bit (get_or bs (k / 8) 0) (7 - k % 8) b) 0 (omega arith))
    (with_bit_same (get_or bs (k / 8) 0) (7 - k % 8) b hb)

-- any other bit
pub bit_at-set_bit_other : (bs : List ℕ) (k b j : ℕ) → b < 2 → (j ≡ k → ⊥) → bit_at (set_bit bs k b) j ≡ bit_at bs j
unfolding set_bit bit_at
bit_at-set_bit_other bs k b j hb h = go (ℕ_discrete (j / 8) (k / 8)) (dec_lt (k / 8) (length bs))
  where
    y : ℕ
    y = with_bit (get_or bs (k / 8) 0) (7 - k % 8) b

    go : Dec (j / 8 ≡ k / 8) → Dec (k / 8 < length bs) → get_or (set bs (k / 8) y) (j / 8) 0 / 2 ^ (7 - j % 8) % 2 ≡ get_or bs (j / 8) 0 / 2 ^ (7 - j % 8) % 2
    go (yes e) (yes l) =
        rw (e, get_or-set_same bs (k / 8) y 0 l) (with_bit_other (get_or bs (k / 8) 0) (7 - k % 8) b (7 - j % 8) hb (λ q. h (omega arith)))
    go (yes e) (no g) = rw (set_out bs (k / 8) y (omega arith))
    go (no n) _ = rw (get_or-set_other bs (k / 8) (j / 8) y 0 n)

-- bits outside of what is set stay
pub bit_at-set_bits_other : (bs : List ℕ) (pos n v k : ℕ) → (k < pos) ⊎ (pos + n ≤ k) → bit_at (set_bits bs pos n v) k ≡ bit_at bs k
unfolding set_bits
bit_at-set_bits_other bs pos zero v k h = refl
bit_at-set_bits_other bs pos (suc n) v k h =
    bit_at-set_bit_other (set_bits bs pos n (v / 2)) (pos + n) (v % 2) k (omega arith) (⊎_elim (λ l e. omega arith) (λ g e. omega arith) h)
    ∙ bit_at-set_bits_other bs pos n (v / 2) k (⊎_elim (λ l. inl l) (λ g. inr (omega arith)) h)

-- a read clear of what was set
pub bits_at-set_bits_other : (bs : List ℕ) (pos n v q m : ℕ) → (q + m ≤ pos) ⊎ (pos + n ≤ q) → bits_at (set_bits bs pos n v) q m ≡ bits_at bs q m
bits_at-set_bits_other bs pos n v q m h =
    bits_at_same (set_bits bs pos n v) bs q q m
    (λ i l. bit_at-set_bits_other bs pos n v (q + i) (⊎_elim (λ a. inl (omega arith)) (λ b. inr (omega arith)) h))

-- what was set is read back
pub bits_at-set_bits : (bs : List ℕ) (pos n v : ℕ) → pos + n ≤ 8 * length bs → bits_at (set_bits bs pos n v) pos n ≡ v % 2 ^ n
unfolding set_bits bits_at
bits_at-set_bits bs pos zero v h = sym (mod-one v)
bits_at-set_bits bs pos (suc n) v h =
    let cs = set_bits bs pos n (v / 2) in
    let ds = set_bit cs (pos + n) (v % 2) in
    let a : bits_at ds pos n ≡ v / 2 % 2 ^ n =
    bits_at_same ds cs pos pos n (λ i l. bit_at-set_bit_other cs (pos + n) (v % 2) (pos + i) (omega arith) (λ e. omega arith))
    ∙ bits_at-set_bits bs pos n (v / 2) (omega arith) in
    let b : bit_at ds (pos + n) ≡ v % 2 = bit_at-set_bit cs (pos + n) (v % 2) (omega arith) (rw (length-set_bits bs pos n (v / 2)) (omega arith)) in
    let m : v % 2 ^ suc n ≡ v / 2 ^ 1 % 2 ^ n * 2 ^ 1 + v % 2 ^ 1 = ap (λ (x : ℕ). v % 2 ^ x) (sym (add-one n)) ∙ mod-pow-add v n 1 in
    rw (a, b, m)

pub set_bits_zero : (bs : List ℕ) (pos v : ℕ) → set_bits bs pos 0 v ≡ bs
unfolding set_bits
set_bits_zero bs pos v = refl

-- bit off of byte at, off counted from the top
pub set_bit_byte : (bs : List ℕ) (at off b : ℕ) → off < 8 → set_bit bs (8 * at + off) b ≡ set bs at (with_bit (get_or bs at 0) (7 - off) b)
unfolding set_bit
set_bit_byte bs at off b h =
    let q : (8 * at + off) / 8 ≡ at = omega arith in
    let r : (8 * at + off) % 8 ≡ off = omega arith in
    rw (q, r)

-- of the n low bits of v the upper i are set: one bit more
pub set_bits_turn : (bs : List ℕ) (pos n i v : ℕ) → i < n
    → set_bits bs pos (i + 1) (v / 2 ^ (n - (i + 1))) ≡ set_bit (set_bits bs pos i (v / 2 ^ (n - i))) (pos + i) (v / 2 ^ (n - 1 - i) % 2)
unfolding set_bits
set_bits_turn bs pos n i v h =
    let j = n - (i + 1) in
    let e : n - i ≡ j + 1 = omega arith in
    let e₂ : n - 1 - i ≡ j = omega arith in
    ap (λ (m : ℕ). set_bits bs pos m (v / 2 ^ j)) (add-one i) ∙ rw (e, e₂, ← shr-shr v j 1)

-- bytes stay bytes
pub bytes_set_bit : (bs : List ℕ) (k b : ℕ) → b < 2 → ((i : ℕ) → get_or bs i 0 < 256) → (i : ℕ) → get_or (set_bit bs k b) i 0 < 256
unfolding set_bit
bytes_set_bit bs k b hb h i = go (ℕ_discrete i (k / 8)) (dec_lt (k / 8) (length bs))
  where
    y : ℕ
    y = with_bit (get_or bs (k / 8) 0) (7 - k % 8) b

    go : Dec (i ≡ k / 8) → Dec (k / 8 < length bs) → get_or (set bs (k / 8) y) i 0 < 256
    go (yes e) (yes l) = rw (e, get_or-set_same bs (k / 8) y 0 l) (with_bit_lt (get_or bs (k / 8) 0) (7 - k % 8) b (omega arith) (h (k / 8)) hb)
    go (yes e) (no g) = rw (set_out bs (k / 8) y (omega arith)) (h i)
    go (no n) _ = rw (get_or-set_other bs (k / 8) i y 0 n) (h i)

pub bytes_set_bits : (bs : List ℕ) (pos n v : ℕ) → ((i : ℕ) → get_or bs i 0 < 256) → (i : ℕ) → get_or (set_bits bs pos n v) i 0 < 256
unfolding set_bits
bytes_set_bits bs pos zero v h = h
bytes_set_bits bs pos (suc n) v h = bytes_set_bit (set_bits bs pos n (v / 2)) (pos + n) (v % 2) (omega arith) (bytes_set_bits bs pos n (v / 2) h)
