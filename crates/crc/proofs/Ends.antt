-- What two bytes in front, two bytes at the end and the last bit do to the CRC.
-- Assumes nothing.
use mathlib.Core.Path.{◌≡◌, refl, sym, ap, ap₂, ◌∙◌}
use mathlib.Core.List.{List, [], ◌∷◌, ◌++◌}
use Prim.Native.Nat.{ℕ, suc, ◌+◌, ◌*◌, ◌/◌, ◌%◌, ◌^◌, ◌<◌}
use native.Mathlib.Nat.{mod-lt}
use native.Mathlib.Omega.{arith}
use lib.Pow.{pow_pos, split}
use lib.ListN.{length}
use lib.Bits.{bit_xor, xor_lt, xor_self, xor_zero_r, xor_comm, xor_shifted}
use Rattle.crc.specs.Crc.{poly, shift, byte_in, crc_of, idle, crc_from, crc1_of}
use Rattle.crc.proofs.Xor.{xor_cancel, xor_zero_eq}
use Rattle.crc.proofs.Linear.{byte_linear, idle_linear, idle_lt, crc_lt, crc_append, crc_split}
use Rattle.crc.proofs.Bytes.{idle_low, byte_of, zero_byte, halves, high_lt}
use Rattle.crc.proofs.Back.{from_lt, crc_from_lem, from_crc, idle_kernel}

-- what two bytes make of 0, two zero bytes make of the two bytes as a register
two : (h l : ℕ) → h < 2 ^ 8 → l < 2 ^ 8 → byte_in (byte_in 0 h) l ≡ byte_in (byte_in (h * 2 ^ 8 + l) 0) 0
two h l hh hl =
    byte_of (byte_in 0 h) l hl
    ∙ ap (λ (k : ℕ). idle 8 (bit_xor k (l * 2 ^ 8))) (byte_of 0 h hh)
    ∙ ap (λ (k : ℕ). idle 8 (bit_xor (idle 8 (h * 2 ^ 8)) k)) (sym (idle_low l hl))
    ∙ ap (idle 8) (sym (idle_linear 8 (h * 2 ^ 8) l) ∙ ap (idle 8) (xor_shifted h 8 l hl))
    ∙ sym (zero_byte (idle 8 (h * 2 ^ 8 + l)))
    ∙ ap (λ (k : ℕ). byte_in k 0) (sym (zero_byte (h * 2 ^ 8 + l)))

-- two bytes in front, from 0, are a start value in front of two zero bytes
pub crc_front : (h l : ℕ) (xs : List ℕ) → h < 2 ^ 8 → l < 2 ^ 8 → crc_of 0 (h ∷ l ∷ xs) ≡ crc_of (h * 2 ^ 8 + l) (0 ∷ 0 ∷ xs)
unfolding crc_of
crc_front h l xs hh hl = ap (λ (k : ℕ). crc_of k xs) (two h l hh hl)

idle_zero : idle 8 0 ≡ 0
unfolding idle shift
idle_zero = refl

-- a register's own two bytes bring it to 0
tail_zero : (c : ℕ) → c < 2 ^ 16 → byte_in (byte_in c (c / 2 ^ 8)) (c % 2 ^ 8) ≡ 0
tail_zero c h =
    byte_of (byte_in c (c / 2 ^ 8)) (c % 2 ^ 8) (mod-lt c (pow_pos 8))
    ∙ ap (λ (k : ℕ). idle 8 (bit_xor k (c % 2 ^ 8 * 2 ^ 8)))
    (byte_of c (c / 2 ^ 8) (high_lt c h)
    ∙ ap (λ (k : ℕ). idle 8 (bit_xor k (c / 2 ^ 8 * 2 ^ 8))) (sym (halves c) ∙ xor_comm (c / 2 ^ 8 * 2 ^ 8) (c % 2 ^ 8))
    ∙ ap (idle 8) (xor_cancel (c % 2 ^ 8) (c / 2 ^ 8 * 2 ^ 8))
    ∙ idle_low (c % 2 ^ 8) (mod-lt c (pow_pos 8)))
    ∙ ap (idle 8) (xor_self (c % 2 ^ 8 * 2 ^ 8))
    ∙ idle_zero

-- the CRC appended as two bytes, high byte first, brings the register to 0
pub crc_tail : (c : ℕ) (xs : List ℕ) → c < 2 ^ 16 → crc_of c (xs ++ (crc_of c xs / 2 ^ 8 ∷ crc_of c xs % 2 ^ 8 ∷ [])) ≡ 0
unfolding crc_of
crc_tail c xs h = crc_append c xs (crc_of c xs / 2 ^ 8 ∷ crc_of c xs % 2 ^ 8 ∷ []) ∙ tail_zero (crc_of c xs) (crc_lt c xs h)

-- and no others
tail_only : (c h l : ℕ) → c < 2 ^ 16 → h < 2 ^ 8 → l < 2 ^ 8 → byte_in (byte_in c h) l ≡ 0 → h * 2 ^ 8 + l ≡ c
tail_only c h l hc hh hl e =
    let u = bit_xor c (h * 2 ^ 8) in
    let hu : u < 2 ^ 16 = xor_lt 16 c (h * 2 ^ 8) hc (omega arith) in
    let z1 : idle 8 (bit_xor (idle 8 u) (l * 2 ^ 8)) ≡ 0 = sym (byte_of (byte_in c h) l hl ∙ ap (λ (k : ℕ). idle 8 (bit_xor k (l * 2 ^ 8))) (byte_of c h hh)) ∙ e in
    let z2 : bit_xor (idle 8 u) (l * 2 ^ 8) ≡ 0 = idle_kernel 8 (bit_xor (idle 8 u) (l * 2 ^ 8)) (xor_lt 16 (idle 8 u) (l * 2 ^ 8) (idle_lt 8 u hu) (omega arith)) z1 in
    let z3 : idle 8 (bit_xor u l) ≡ 0 = idle_linear 8 u l ∙ ap (bit_xor (idle 8 u)) (idle_low l hl) ∙ z2 in
    let z4 : u ≡ l = xor_zero_eq u l (idle_kernel 8 (bit_xor u l) (xor_lt 16 u l hu (omega arith)) z3) in
    sym (xor_shifted h 8 l hl) ∙ xor_comm (h * 2 ^ 8) l ∙ ap (λ (k : ℕ). bit_xor k (h * 2 ^ 8)) (sym z4) ∙ xor_cancel c (h * 2 ^ 8)

-- and no other two bytes do so
pub crc_tail_only : (c : ℕ) (xs : List ℕ) (h l : ℕ) → c < 2 ^ 16 → h < 2 ^ 8 → l < 2 ^ 8 → crc_of c (xs ++ (h ∷ l ∷ [])) ≡ 0 → h * 2 ^ 8 + l ≡ crc_of c xs
unfolding crc_of
crc_tail_only c xs h l hc hh hl e = tail_only (crc_of c xs) h l (crc_lt c xs hc) hh hl (sym (crc_append c xs (h ∷ l ∷ [])) ∙ e)

-- the lowest bit of the last byte turned over adds the generator
pub crc_flip : (c : ℕ) (xs : List ℕ) (x : ℕ) → crc_of c (xs ++ (bit_xor x 1 ∷ [])) ≡ bit_xor (crc_of c (xs ++ (x ∷ []))) poly
unfolding crc_of byte_in shift
crc_flip c xs x =
    crc_append c xs (bit_xor x 1 ∷ [])
    ∙ ap (λ (k : ℕ). byte_in k (bit_xor x 1)) (sym (xor_zero_r (crc_of c xs)))
    ∙ byte_linear (crc_of c xs) 0 x 1
    ∙ ap (λ (k : ℕ). bit_xor k poly) (sym (crc_append c xs (x ∷ [])))

-- crc1 is below 2 ^ 16
pub crc1_lt : (xs : List ℕ) → crc1_of xs < 2 ^ 16
unfolding crc1_of
crc1_lt xs = from_lt 0 (0 ∷ 0 ∷ xs) (pow_pos 16)

-- crc1 in front, as two bytes, high byte first, brings the register from 0 to 0
pub crc1_good_lem : (xs : List ℕ) → crc_of 0 (crc1_of xs / 2 ^ 8 ∷ crc1_of xs % 2 ^ 8 ∷ xs) ≡ 0
unfolding crc1_of
crc1_good_lem xs =
    let v = crc1_of xs in
    crc_front (v / 2 ^ 8) (v % 2 ^ 8) xs (high_lt v (crc1_lt xs)) (mod-lt v (pow_pos 8))
    ∙ ap (λ (k : ℕ). crc_of k (0 ∷ 0 ∷ xs)) (split v 8)
    ∙ crc_from_lem 0 (0 ∷ 0 ∷ xs) (pow_pos 16)

word_lt : (h l : ℕ) → h < 2 ^ 8 → l < 2 ^ 8 → h * 2 ^ 8 + l < 2 ^ 16
word_lt h l hh hl = omega arith

-- and no other two bytes do so
pub crc1_only : (h l : ℕ) (xs : List ℕ) → h < 2 ^ 8 → l < 2 ^ 8 → crc_of 0 (h ∷ l ∷ xs) ≡ 0 → h * 2 ^ 8 + l ≡ crc1_of xs
unfolding crc1_of
crc1_only h l xs hh hl e =
    sym (from_crc (h * 2 ^ 8 + l) (0 ∷ 0 ∷ xs) (word_lt h l hh hl)) ∙ ap (λ (k : ℕ). crc_from k (0 ∷ 0 ∷ xs)) (sym (crc_front h l xs hh hl) ∙ e)

-- zero bytes leave the register 0
two_zeros : (xs : List ℕ) → crc_of 0 (0 ∷ 0 ∷ xs) ≡ crc_of 0 xs
unfolding crc_of byte_in shift
two_zeros xs = refl

two_more : (n : ℕ) → suc (suc n) ≡ n + 2
two_more n = omega arith

-- crc1 solves one equation over idle steps: so it can be found from the images of the sixteen bits
pub crc1_found : (r : ℕ) (xs : List ℕ) → r < 2 ^ 16 → idle (8 * (length xs + 2)) r ≡ crc_of 0 xs → r ≡ crc1_of xs
unfolding crc1_of
crc1_found r xs h e =
    sym (from_crc r (0 ∷ 0 ∷ xs) h)
    ∙ ap (λ (k : ℕ). crc_from k (0 ∷ 0 ∷ xs))
    (crc_split r (0 ∷ 0 ∷ xs)
    ∙ ap₂ bit_xor (ap (λ (k : ℕ). idle (8 * k) r) (two_more (length xs)) ∙ e) (two_zeros xs)
    ∙ xor_self (crc_of 0 xs))

-- K8 of document 01: the CRC of the byte 0x01
pub k8 : crc_of 0 (0x01 ∷ []) ≡ 0x8005
unfolding crc_of byte_in shift
k8 = refl
