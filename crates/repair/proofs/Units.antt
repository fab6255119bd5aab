-- The columns that crc1 is found by: what zero bytes make of each unit.
-- Assumes nothing.
use mathlib.Core.Path.{◌≡◌, sym, ap, ◌∙◌}
use mathlib.Core.List.{List}
use Prim.Native.Nat.{ℕ, ◌+◌, ◌*◌, ◌/◌, ◌%◌, ◌^◌, ◌<◌}
use native.Mathlib.Nat.{one-mul}
use native.Mathlib.Omega.{arith}
use lib.Arith.{lt_of_le-ne}
use lib.Pow.{pow-lt}
use lib.ListN.{length, get_or, set, replicate}
use lib.Seq.{get_or-set_same, get_or-set_other}
use lib.Bits.{bit_xor, xor_zero_r}
use Rattle.crc.specs.Crc.{poly, shift, crc_of, idle}
use Rattle.crc.proofs.Linear.{idle_linear, idle_lt, idle_shift, idle_add}
use Rattle.crc.proofs.Bytes.{idle_up, crc_zeros}
use Rattle.crc.proofs.Back.{idle_kernel}
use Rattle.repair.specs.Basis.{Linear}
use Rattle.repair.proofs.Cases.{equal_or_not}

-- idle steps are such a map
pub idle_map : (n : ℕ) → Linear (idle n)
idle_map n = record { sums = idle_linear n; bounded = idle_lt n; kernel = idle_kernel n }

-- a step in which 0 enters, as the code makes it
pub step_law : (c : ℕ) → c < 2 ^ 16 → bit_xor (c * 2 % 2 ^ 16) (c / 2 ^ 15 * poly) ≡ shift c 0
unfolding shift
step_law c h =
    let top : c / 2 ^ 15 % 2 ≡ c / 2 ^ 15 = omega arith in
    ap (λ (t : ℕ). bit_xor (c * 2 % 2 ^ 16) (t * poly)) (sym (xor_zero_r (c / 2 ^ 15 % 2) ∙ top))

-- the unit 2 ^ i is 1, i steps further on
unit_idle : (i : ℕ) → i < 16 → idle i 1 ≡ 2 ^ i
unit_idle i h = idle_up i 1 (rw one-mul (pow-lt h)) ∙ one-mul (2 ^ i)

-- the first column, and each after it one step further on
pub column_start : (n c : ℕ) → c ≡ crc_of 1 (replicate n 0) → c ≡ idle (8 * n) (idle 0 1)
unfolding idle
column_start n c e = e ∙ crc_zeros 1 n

pub column_next : (n i c r : ℕ) → c ≡ idle (8 * n) (idle i 1) → r ≡ shift c 0 → r ≡ idle (8 * n) (idle (i + 1) 1)
unfolding idle
column_next n i c r e q = q ∙ ap (λ (k : ℕ). shift k 0) e ∙ sym (idle_shift (8 * n) (idle i 1)) ∙ ap (idle (8 * n)) (sym (idle_add i 1 1))

-- the columns so far, and one more
pub columns_next : (n : ℕ) (l : List ℕ) (i c : ℕ) → length l ≡ 16 → i < 16 → c ≡ idle (8 * n) (idle i 1)
    → ((k : ℕ) → k < i → get_or l k 0 ≡ idle (8 * n) (2 ^ k)) → (k : ℕ) → k < i + 1 → get_or (set l i c) k 0 ≡ idle (8 * n) (2 ^ k)
columns_next n l i c hl h e p k q =
    let hi : i < length l = omega arith in
    equal_or_not (get_or (set l i c) k 0 ≡ idle (8 * n) (2 ^ k)) k i
    (λ y. rw (y, get_or-set_same l i c 0) (e ∙ ap (idle (8 * n)) (unit_idle i h)))
    (λ y. get_or-set_other l i k c 0 y ∙ p k (lt_of_le-ne (omega arith) y))
