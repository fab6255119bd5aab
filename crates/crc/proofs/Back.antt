-- The register run backwards undoes the run, step by step and as a whole, in both orders.
-- Assumes nothing.
use mathlib.Core.Path.{◌≡◌, refl, sym, ap, ap₂, ◌∙◌}
use mathlib.Core.List.{List, [], ◌∷◌}
use Prim.Native.Nat.{ℕ, zero, suc, ◌+◌, ◌*◌, ◌/◌, ◌%◌, ◌^◌, ◌<◌}
use native.Mathlib.Nat.{mod-lt}
use native.Mathlib.Omega.{arith}
use lib.Pow.{pow_pos}
use lib.Bits.{bit_xor, xor_lt, xor_mod, xor_self, xor_comm, xor_shifted}
use Rattle.crc.specs.Crc.{poly, shift, byte_in, crc_of, idle, unshift, byte_out, crc_from}
use Rattle.crc.proofs.Xor.{bit, bit_lt, bit_xor_lt, xor_cancel}
use Rattle.crc.proofs.Linear.{gen_lt, shift_lt, byte_lt}

-- the generator's lowest bit is 1
gen_odd : (f : ℕ) → f < 2 → f * poly % 2 ≡ f
gen_odd f h = bit (λ (n : ℕ). n * poly % 2 ≡ n) refl refl f h

-- the places of a step: moved up, the register is even, and moved down again it lacks its top bit
even : (c : ℕ) → c * 2 % 2 ^ 16 % 2 ≡ 0
even c = omega arith

down : (c : ℕ) → c * 2 % 2 ^ 16 / 2 ≡ c % 2 ^ 15
down c = omega arith

whole : (c : ℕ) → c < 2 ^ 16 → c / 2 ^ 15 % 2 * 2 ^ 15 + c % 2 ^ 15 ≡ c
whole c h = omega arith

-- the low bit after a step says whether the generator was added
low_bit : (c f : ℕ) → f < 2 → bit_xor (c * 2 % 2 ^ 16) (f * poly) % 2 ≡ f
low_bit c f h = xor_mod (c * 2 % 2 ^ 16) (f * poly) 1 ∙ ap₂ bit_xor (even c) (gen_odd f h)

-- so the generator can be taken off, and the bit that left put back
undo : (c b f : ℕ) → c < 2 ^ 16 → f < 2 → f ≡ bit_xor (c / 2 ^ 15 % 2) (b % 2) → unshift (bit_xor (c * 2 % 2 ^ 16) (f * poly)) b ≡ c
unfolding unshift
undo c b f h hf e =
    ap (λ (k : ℕ). bit_xor (bit_xor (bit_xor (c * 2 % 2 ^ 16) (f * poly)) (k * poly) / 2) (bit_xor k (b % 2) * 2 ^ 15)) (low_bit c f hf)
    ∙ ap₂ (λ (x y : ℕ). bit_xor (x / 2) (y * 2 ^ 15)) (xor_cancel (c * 2 % 2 ^ 16) (f * poly))
    (ap (λ (k : ℕ). bit_xor k (b % 2)) e ∙ xor_cancel (c / 2 ^ 15 % 2) (b % 2))
    ∙ ap (λ (k : ℕ). bit_xor k (c / 2 ^ 15 % 2 * 2 ^ 15)) (down c)
    ∙ xor_comm (c % 2 ^ 15) (c / 2 ^ 15 % 2 * 2 ^ 15)
    ∙ xor_shifted (c / 2 ^ 15 % 2) 15 (c % 2 ^ 15) (mod-lt c (pow_pos 15))
    ∙ whole c h

-- a step, then undone
pub unshift_shift : (c b : ℕ) → c < 2 ^ 16 → unshift (shift c b) b ≡ c
unfolding shift
unshift_shift c b h = undo c b (bit_xor (c / 2 ^ 15 % 2) (b % 2)) h (bit_xor_lt (c / 2 ^ 15) b) refl

-- and the same the other way
half_even : (n : ℕ) → n % 2 ≡ 0 → n / 2 * 2 ≡ n
half_even n h = omega arith

small_half : (n : ℕ) → n < 2 ^ 16 → n / 2 < 2 ^ 15
small_half n h = omega arith

up_again : (g e : ℕ) → g < 2 → e < 2 ^ 15 → (g * 2 ^ 15 + e) * 2 % 2 ^ 16 ≡ e * 2
up_again g e hg he = omega arith

top_again : (g e : ℕ) → g < 2 → e < 2 ^ 15 → (g * 2 ^ 15 + e) / 2 ^ 15 % 2 ≡ g
top_again g e hg he = omega arith

-- a step from a register whose top bit is g
redo : (b g e : ℕ) → g < 2 → e < 2 ^ 15 → shift (bit_xor e (g * 2 ^ 15)) b ≡ bit_xor (e * 2) (bit_xor g (b % 2) * poly)
unfolding shift
redo b g e hg he =
    ap (λ (u : ℕ). bit_xor (u * 2 % 2 ^ 16) (bit_xor (u / 2 ^ 15 % 2) (b % 2) * poly))
    (xor_comm e (g * 2 ^ 15) ∙ xor_shifted g 15 e he)
    ∙ ap₂ (λ (x y : ℕ). bit_xor x (bit_xor y (b % 2) * poly)) (up_again g e hg he) (top_again g e hg he)

-- where the generator was added, it is taken off: the low bit is 0
low_clear : (d : ℕ) → bit_xor d (d % 2 * poly) % 2 ≡ 0
low_clear d = xor_mod d (d % 2 * poly) 1 ∙ ap (bit_xor (d % 2)) (gen_odd (d % 2) (bit_lt d)) ∙ xor_self (d % 2)

-- a step undone, then done
pub shift_unshift : (d b : ℕ) → d < 2 ^ 16 → shift (unshift d b) b ≡ d
unfolding unshift
shift_unshift d b h =
    redo b (bit_xor (d % 2) (b % 2)) (bit_xor d (d % 2 * poly) / 2) (bit_xor_lt d b)
    (small_half (bit_xor d (d % 2 * poly)) (xor_lt 16 d (d % 2 * poly) h (gen_lt (d % 2) (bit_lt d))))
    ∙ ap₂ (λ (x y : ℕ). bit_xor x (y * poly)) (half_even (bit_xor d (d % 2 * poly)) (low_clear d)) (xor_cancel (d % 2) (b % 2))
    ∙ xor_cancel d (d % 2 * poly)

weaken : {n : ℕ} → n < 2 ^ 15 → n < 2 ^ 16
weaken h = omega arith

-- the top bit of a register
pub top_lt : (f : ℕ) → f < 2 → f * 2 ^ 15 < 2 ^ 16
top_lt f h = omega arith

-- a step undone leaves the register below 2 ^ 16
pub unshift_lt : (d b : ℕ) → d < 2 ^ 16 → unshift d b < 2 ^ 16
unfolding unshift
unshift_lt d b h =
    xor_lt 16 (bit_xor d (d % 2 * poly) / 2) (bit_xor (d % 2) (b % 2) * 2 ^ 15)
    (weaken (small_half (bit_xor d (d % 2 * poly)) (xor_lt 16 d (d % 2 * poly) h (gen_lt (d % 2) (bit_lt d)))))
    (top_lt (bit_xor (d % 2) (b % 2)) (bit_xor_lt d b))

-- a byte undone leaves the register below 2 ^ 16
pub out_lt : (d x : ℕ) → d < 2 ^ 16 → byte_out d x < 2 ^ 16
unfolding byte_out
out_lt d x h = unshift_lt _ _ (unshift_lt _ _ (unshift_lt _ _ (unshift_lt _ _ (unshift_lt _ _ (unshift_lt _ _ (unshift_lt _ _ (unshift_lt d x h)))))))

-- a byte, then undone
pub out_in : (c x : ℕ) → c < 2 ^ 16 → byte_out (byte_in c x) x ≡ c
unfolding byte_out byte_in
out_in c x h = simp (unshift_shift, shift_lt)

-- a byte undone, then done
pub in_out : (d x : ℕ) → d < 2 ^ 16 → byte_in (byte_out d x) x ≡ d
unfolding byte_out byte_in
in_out d x h =
    let h0 = unshift_lt d x h in
    let h1 = unshift_lt _ (x / 2) h0 in
    let h2 = unshift_lt _ (x / 2 ^ 2) h1 in
    let h3 = unshift_lt _ (x / 2 ^ 3) h2 in
    let h4 = unshift_lt _ (x / 2 ^ 4) h3 in
    let h5 = unshift_lt _ (x / 2 ^ 5) h4 in
    let h6 = unshift_lt _ (x / 2 ^ 6) h5 in
    simp shift_unshift

-- the start value is below 2 ^ 16
pub from_lt : (d : ℕ) (xs : List ℕ) → d < 2 ^ 16 → crc_from d xs < 2 ^ 16
unfolding crc_from
from_lt d [] h = h
from_lt d (x ∷ xs) h = out_lt (crc_from d xs) x (from_lt d xs h)

-- the start value that the run backwards finds leads to the register it was run from
pub crc_from_lem : (d : ℕ) (xs : List ℕ) → d < 2 ^ 16 → crc_of (crc_from d xs) xs ≡ d
unfolding crc_of crc_from
crc_from_lem d [] h = refl
crc_from_lem d (x ∷ xs) h = ap (λ (k : ℕ). crc_of k xs) (in_out (crc_from d xs) x (from_lt d xs h)) ∙ crc_from_lem d xs h

-- the run backwards finds the start value
pub from_crc : (c : ℕ) (xs : List ℕ) → c < 2 ^ 16 → crc_from (crc_of c xs) xs ≡ c
unfolding crc_of crc_from
from_crc c [] h = refl
from_crc c (x ∷ xs) h = ap (λ (k : ℕ). byte_out k x) (from_crc (byte_in c x) xs (byte_lt c x)) ∙ out_in c x h

-- so two start values that bytes lead to one register are equal
pub crc_injective : (a b : ℕ) (xs : List ℕ) → a < 2 ^ 16 → b < 2 ^ 16 → crc_of a xs ≡ crc_of b xs → a ≡ b
crc_injective a b xs ha hb e = sym (from_crc a xs ha) ∙ ap (λ (k : ℕ). crc_from k xs) e ∙ from_crc b xs hb

-- a register that idles to 0 was 0
pub idle_kernel : (n c : ℕ) → c < 2 ^ 16 → idle n c ≡ 0 → c ≡ 0
unfolding idle unshift
idle_kernel zero c h e = e
idle_kernel (suc n) c h e = sym (unshift_shift c 0 h) ∙ ap (λ (k : ℕ). unshift k 0) (idle_kernel n (shift c 0) (shift_lt c 0) e)
