-- A byte at once: it is eight idle steps. Zero bytes, and the table forms of one byte and of two.
-- Assumes nothing.
use mathlib.Core.Path.{◌≡◌, refl, sym, ap, ap₂, ◌∙◌, subst}
use Prim.Native.Nat.{ℕ, zero, suc, ◌*◌, ◌/◌, ◌%◌, ◌^◌, ◌<◌, ◌≤◌}
use native.Mathlib.Nat.{mod-lt, mul-one, mul_assoc, pow-succ', le-mul_of_pos_right}
use native.Mathlib.Omega.{arith}
use lib.Dec.{eqb}
use lib.Pow.{pow_pos, split}
use borrow.Author.Tests.{eqb-true}
use lib.ListN.{replicate}
use lib.Bits.{bit_xor, xor_zero_r, xor_comm, xor_shifted}
use Rattle.crc.specs.Crc.{poly, shift, byte_in, crc_of, idle}
use Rattle.std.specs.Int.Bits.{xor_assoc}
use Rattle.crc.proofs.Xor.{xor_shl}
use Rattle.crc.proofs.Below.{below}
use Rattle.crc.proofs.Linear.{idle_linear, idle_add, byte_idle, eight}

-- a register whose top bit is 0 only moves up
pub shift_up : (c : ℕ) → c < 2 ^ 15 → shift c 0 ≡ c * 2
unfolding shift
shift_up c h =
    let top : c / 2 ^ 15 % 2 ≡ 0 = omega arith in
    let up : c * 2 % 2 ^ 16 ≡ c * 2 = omega arith in
    ap₂ (λ (u t : ℕ). bit_xor u (bit_xor t 0 * poly)) up top ∙ xor_zero_r (c * 2)

-- a register only moves up as long as no bit leaves it that is 1
pub idle_up : (n c : ℕ) → c * 2 ^ n < 2 ^ 16 → idle n c ≡ c * 2 ^ n
unfolding idle
idle_up zero c h = sym (mul-one c)
idle_up (suc n) c h =
    let p : c * 2 ^ suc n ≡ c * 2 * 2 ^ n = ap (λ (k : ℕ). c * k) (pow-succ' 2 n) ∙ sym (mul_assoc c 2 (2 ^ n)) in
    let k : c * 2 * 2 ^ n < 2 ^ 16 = subst (λ (m : ℕ). m < 2 ^ 16) p h in
    let l : c * 2 ≤ c * 2 * 2 ^ n = le-mul_of_pos_right (c * 2) (pow_pos n) in
    let small : c < 2 ^ 15 = omega arith in
    ap (idle n) (shift_up c small) ∙ idle_up n (c * 2) k ∙ sym p

-- a low byte becomes the high byte in eight steps
pub idle_low : (x : ℕ) → x < 2 ^ 8 → idle 8 x ≡ x * 2 ^ 8
idle_low x h = idle_up 8 x (omega arith)

-- a byte that enters at the bottom is a byte that idles out of the top (one computed test over the 256 bytes)
byte_up : (x : ℕ) → x < 2 ^ 8 → byte_in 0 x ≡ idle 8 (x * 2 ^ 8)
unfolding byte_in idle shift
byte_up x h = eqb-true (byte_in 0 x) (idle 8 (x * 2 ^ 8)) (below (λ (k : ℕ). eqb (byte_in 0 k) (idle 8 (k * 2 ^ 8))) 256 refl x h)

-- a byte is added to the top of the register, which then idles eight steps
pub byte_of : (c x : ℕ) → x < 2 ^ 8 → byte_in c x ≡ idle 8 (bit_xor c (x * 2 ^ 8))
byte_of c x h = byte_idle c x ∙ ap (bit_xor (idle 8 c)) (byte_up x h) ∙ sym (idle_linear 8 c (x * 2 ^ 8))

-- a zero byte is eight idle steps
pub zero_byte : (c : ℕ) → byte_in c 0 ≡ idle 8 c
unfolding byte_in idle
zero_byte c = refl

-- the CRC of n zero bytes is 8 n idle steps
pub crc_zeros : (c n : ℕ) → crc_of c (replicate n 0) ≡ idle (8 * n) c
unfolding crc_of idle
crc_zeros c zero = refl
crc_zeros c (suc n) = crc_zeros (byte_in c 0) n ∙ ap (idle (8 * n)) (zero_byte c) ∙ sym (idle_add 8 (8 * n) c) ∙ ap (λ (k : ℕ). idle k c) (eight n)

-- a register is its two bytes, added
pub halves : (c : ℕ) → bit_xor (c / 2 ^ 8 * 2 ^ 8) (c % 2 ^ 8) ≡ c
halves c = xor_shifted (c / 2 ^ 8) 8 (c % 2 ^ 8) (mod-lt c (pow_pos 8)) ∙ split c 8

-- the high byte of a register is a byte
pub high_lt : (c : ℕ) → c < 2 ^ 16 → c / 2 ^ 8 < 2 ^ 8
high_lt c h = omega arith

up_mod : (c : ℕ) → c % 2 ^ 8 * 2 ^ 8 ≡ c * 2 ^ 8 % 2 ^ 16
up_mod c = omega arith

-- one byte by a table: what eight steps make of the high byte, added to the low byte moved up
pub byte_table : (c x : ℕ) → x < 2 ^ 8 → bit_xor (c * 2 ^ 8 % 2 ^ 16) (idle 8 (bit_xor (c / 2 ^ 8) x * 2 ^ 8)) ≡ byte_in c x
byte_table c x h =
    ap₂ bit_xor (sym (up_mod c) ∙ sym (idle_low (c % 2 ^ 8) (mod-lt c (pow_pos 8)))) (ap (idle 8) (xor_shl (c / 2 ^ 8) x 8))
    ∙ sym (idle_linear 8 (c % 2 ^ 8) (bit_xor (c / 2 ^ 8 * 2 ^ 8) (x * 2 ^ 8)))
    ∙ ap (idle 8)
    (sym (xor_assoc (c % 2 ^ 8) (c / 2 ^ 8 * 2 ^ 8) (x * 2 ^ 8))
    ∙ ap (λ (k : ℕ). bit_xor k (x * 2 ^ 8)) (xor_comm (c % 2 ^ 8) (c / 2 ^ 8 * 2 ^ 8) ∙ halves c))
    ∙ sym (byte_of c x h)

-- two bytes by two tables: the first is stepped sixteen times, the second eight
pub byte_two : (c x y : ℕ) → x < 2 ^ 8 → y < 2 ^ 8
    → bit_xor (idle 16 (bit_xor (c / 2 ^ 8) x * 2 ^ 8)) (idle 8 (bit_xor (c % 2 ^ 8) y * 2 ^ 8)) ≡ byte_in (byte_in c x) y
byte_two c x y hx hy =
    let top = bit_xor (c / 2 ^ 8) x * 2 ^ 8 in
    let low = c % 2 ^ 8 * 2 ^ 8 in
    ap₂ bit_xor (idle_add 8 8 top) (ap (idle 8) (xor_shl (c % 2 ^ 8) y 8))
    ∙ sym (idle_linear 8 (idle 8 top) (bit_xor low (y * 2 ^ 8)))
    ∙ ap (idle 8)
    (sym (xor_assoc (idle 8 top) low (y * 2 ^ 8))
    ∙ ap (λ (k : ℕ). bit_xor k (y * 2 ^ 8)) (xor_comm (idle 8 top) low ∙ ap (λ (k : ℕ). bit_xor k (idle 8 top)) (up_mod c) ∙ byte_table c x hx))
    ∙ sym (byte_of (byte_in c x) y hy)
