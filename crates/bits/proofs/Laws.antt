-- Laws of the bits of a list of bytes: what a caller's proof cites, so that it never opens the definitions.
-- Assumes nothing.
use mathlib.Core.Path.{◌≡◌, refl, sym, ap, ◌∙◌}
use mathlib.Core.List.{List}
use Prim.Native.Nat.{ℕ, zero, suc, ◌+◌, ◌*◌, ◌-◌, ◌/◌, ◌%◌, ◌^◌, ◌≤◌, ◌<◌}
use native.Mathlib.Nat.{add-zero, add-suc, add_assoc, pow-suc, mul_assoc, lt_of_lt_of_le, mod-one, one-mul}
use native.Mathlib.Omega.{arith}
use native.Mathlib.Numerals.{add-one}
use lib.ListN.{get_or}
use lib.Pow.{pow_mono, shr-shr, mod-pow-add, high, low, shl_exact}
use lib.Dec.{lit<}
use Rattle.bits.specs.Bits.{bit_at, bits_at}

-- a bit is 0 or 1
pub bit_at_lt : (bs : List ℕ) (k : ℕ) → bit_at bs k < 2
unfolding bit_at
bit_at_lt bs k = omega arith

-- a bit is one of its byte's
pub bit_at_in : (bs : List ℕ) (k : ℕ) → bit_at bs k ≡ get_or bs (k / 8) 0 / 2 ^ (7 - k % 8) % 2
unfolding bit_at
bit_at_in bs k = refl

-- bit off of byte at, off counted from the top
pub bit_at_byte : (bs : List ℕ) (at off : ℕ) → off < 8 → bit_at bs (8 * at + off) ≡ get_or bs at 0 / 2 ^ (7 - off) % 2
unfolding bit_at
bit_at_byte bs at off h =
    let q : (8 * at + off) / 8 ≡ at = omega arith in
    let r : (8 * at + off) % 8 ≡ off = omega arith in
    rw (q, r)

-- no bits have the value 0
pub bits_at_zero : (bs : List ℕ) (pos : ℕ) → bits_at bs pos 0 ≡ 0
unfolding bits_at
bits_at_zero bs pos = refl

-- one bit has its own value
pub bits_at_one : (bs : List ℕ) (k : ℕ) → bits_at bs k 1 ≡ bit_at bs k
unfolding bits_at
bits_at_one bs k = rw (add-zero k) (omega arith)

-- a value of n bits is below 2 ^ n
pub bits_at_lt : (bs : List ℕ) (pos n : ℕ) → bits_at bs pos n < 2 ^ n
unfolding bits_at
bits_at_lt bs pos zero = lit< tt
bits_at_lt bs pos (suc n) = omega (arith, bits_at_lt bs pos n, bit_at_lt bs (pos + n), pow-suc 2 n)

-- and it fits wherever n bits fit
pub bits_at_below : (bs : List ℕ) (pos n k : ℕ) → n ≤ k → bits_at bs pos n < 2 ^ k
bits_at_below bs pos n k h = lt_of_lt_of_le (bits_at_lt bs pos n) (pow_mono h)

-- a read splits and joins: n + m bits are n bits and then m
pub bits_at_add : (bs : List ℕ) (pos n m : ℕ) → bits_at bs pos (n + m) ≡ bits_at bs pos n * 2 ^ m + bits_at bs (pos + n) m
unfolding bits_at
bits_at_add bs pos n zero = rw (add-zero n) (omega arith)
bits_at_add bs pos n (suc m) =
    rw (add-suc n m, ← add_assoc pos n m, pow-suc 2 m, ← mul_assoc (bits_at bs pos n) (2 ^ m) 2)
    (omega (arith, bits_at_add bs pos n m))

-- n bits out of the middle of a longer read
pub bits_at_middle : (bs : List ℕ) (pos a n b : ℕ) → bits_at bs pos (a + n + b) / 2 ^ b % 2 ^ n ≡ bits_at bs (pos + a) n
bits_at_middle bs pos a n b =
    rw (bits_at_add bs pos (a + n) b, high (bits_at bs pos (a + n)) b (bits_at_lt bs (pos + (a + n)) b), bits_at_add bs pos a n)
    (low (bits_at bs pos a) n (bits_at_lt bs (pos + a) n))

-- the same, by the longer read's width
pub bits_at_cut : (bs : List ℕ) (pos off n width : ℕ) → off + n ≤ width
    → bits_at bs pos width / 2 ^ (width - off - n) % 2 ^ n ≡ bits_at bs (pos + off) n
bits_at_cut bs pos off n width h =
    let e : off + n + (width - off - n) ≡ width = omega arith in
    rw e at (bits_at_middle bs pos off n (width - off - n))

-- bits within one byte: the n bits after the first off of byte at
pub bits_at_field : (bs : List ℕ) (at off n : ℕ) → off + n ≤ 8 → bits_at bs (8 * at + off) n ≡ get_or bs at 0 / 2 ^ (8 - off - n) % 2 ^ n
unfolding bits_at
bits_at_field bs at off zero h = sym (mod-one _)
bits_at_field bs at off (suc n) h =
    let b = get_or bs at 0 in
    let k = 8 - off - suc n in
    let e : 8 - off - n ≡ k + 1 = omega arith in
    let e₂ : 7 - (off + n) ≡ k = omega arith in
    let f : off + n < 8 = omega arith in
    let i : bits_at bs (8 * at + off) n ≡ b / 2 ^ k / 2 ^ 1 % 2 ^ n = rw e at (bits_at_field bs at off n (omega arith)) ∙ rw (shr-shr b k 1) in
    let l : bit_at bs (8 * at + off + n) ≡ b / 2 ^ k % 2 = rw (add_assoc (8 * at) off n, bit_at_byte bs at (off + n) f, e₂) in
    let m : b / 2 ^ k % 2 ^ suc n ≡ b / 2 ^ k / 2 ^ 1 % 2 ^ n * 2 + b / 2 ^ k % 2 =
    ap (λ (x : ℕ). b / 2 ^ k % 2 ^ x) (sym (add-one n)) ∙ mod-pow-add (b / 2 ^ k) n 1 in
    rw (i, l, m)

-- an aligned byte is the byte
pub bits_at_whole : (bs : List ℕ) (at : ℕ) → get_or bs at 0 < 256 → bits_at bs (8 * at) 8 ≡ get_or bs at 0
bits_at_whole bs at h = rw (add-zero (8 * at)) at (bits_at_field bs at 0 8 (omega arith)) ∙ omega arith

-- a read of whole bytes, one byte more
pub bits_at_bytes : (bs : List ℕ) (at i : ℕ) → get_or bs (at + i) 0 < 256
    → bits_at bs (8 * at) (8 * (i + 1)) ≡ bits_at bs (8 * at) (8 * i) * 256 + get_or bs (at + i) 0
bits_at_bytes bs at i h =
    let e : 8 * (i + 1) ≡ 8 * i + 8 = omega arith in
    let e₂ : 8 * at + 8 * i ≡ 8 * (at + i) = omega arith in
    rw (e, bits_at_add bs (8 * at) (8 * i) 8, e₂, bits_at_whole bs (at + i) h)

-- `1 << n`, at any width
pub shl_one : (w n : ℕ) → n < w → 1 * 2 ^ n % 2 ^ w ≡ 2 ^ n
shl_one w n h = shl_exact 1 n w (lit< tt) (omega arith) ∙ one-mul (2 ^ n)
