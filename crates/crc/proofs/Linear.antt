-- The register is linear: two runs added bit by bit are the run of the sums. No bound on the register or on the bytes is asked.
-- Assumes nothing.
use mathlib.Core.Path.{◌≡◌, refl, sym, ap, ap₂, ◌∙◌}
use mathlib.Core.List.{List, [], ◌∷◌, ◌++◌}
use Prim.Native.Nat.{ℕ, zero, suc, ◌+◌, ◌*◌, ◌/◌, ◌%◌, ◌^◌, ◌<◌}
use native.Mathlib.Nat.{mod-lt, zero-add, suc-add, suc_inj, suc-ne-zero}
use native.Mathlib.Numerals.{add-one}
use native.Mathlib.Omega.{arith}
use lib.Pow.{pow_pos}
use lib.ListN.{length}
use lib.Bits.{bit_xor, xor_lt, xor_shr, xor_mod, xor_zero_r}
use Rattle.crc.specs.Crc.{poly, shift, byte_in, crc_of, idle}
use Rattle.std.specs.Int.Bits.{xor_assoc}
use Rattle.crc.proofs.Xor.{bit, bit_xor_lt, xor_pairs, xor_shl}

-- the generator, added or not
gen_linear : (p q : ℕ) → p < 2 → q < 2 → bit_xor p q * poly ≡ bit_xor (p * poly) (q * poly)
gen_linear p q hp hq =
    bit (λ (n : ℕ). bit_xor n q * poly ≡ bit_xor (n * poly) (q * poly)) refl
    (bit (λ (n : ℕ). bit_xor 1 n * poly ≡ bit_xor poly (n * poly)) refl refl q hq) p hp

-- it is below 2 ^ 16
pub gen_lt : (f : ℕ) → f < 2 → f * poly < 2 ^ 16
gen_lt f h = omega arith

-- the bit that leaves
top_linear : (a b : ℕ) → bit_xor a b / 2 ^ 15 % 2 ≡ bit_xor (a / 2 ^ 15 % 2) (b / 2 ^ 15 % 2)
top_linear a b = ap (λ (x : ℕ). x % 2) (xor_shr a b 15) ∙ xor_mod (a / 2 ^ 15) (b / 2 ^ 15) 1

-- the rest of the register, moved up
up_linear : (a b : ℕ) → bit_xor a b * 2 % 2 ^ 16 ≡ bit_xor (a * 2 % 2 ^ 16) (b * 2 % 2 ^ 16)
up_linear a b = ap (λ (x : ℕ). x % 2 ^ 16) (xor_shl a b 1) ∙ xor_mod (a * 2) (b * 2) 16

-- a step is linear in the register and the bit together
pub shift_linear : (a b p q : ℕ) → shift (bit_xor a b) (bit_xor p q) ≡ bit_xor (shift a p) (shift b q)
unfolding shift
shift_linear a b p q =
    ap₂ bit_xor (up_linear a b)
    (ap (λ (x : ℕ). x * poly)
    (ap₂ bit_xor (top_linear a b) (xor_mod p q 1) ∙ xor_pairs (a / 2 ^ 15 % 2) (b / 2 ^ 15 % 2) (p % 2) (q % 2))
    ∙ gen_linear (bit_xor (a / 2 ^ 15 % 2) (p % 2)) (bit_xor (b / 2 ^ 15 % 2) (q % 2))
    (bit_xor_lt (a / 2 ^ 15) p) (bit_xor_lt (b / 2 ^ 15) q))
    ∙ xor_pairs (a * 2 % 2 ^ 16) (b * 2 % 2 ^ 16) (bit_xor (a / 2 ^ 15 % 2) (p % 2) * poly) (bit_xor (b / 2 ^ 15 % 2) (q % 2) * poly)

-- a step leaves the register below 2 ^ 16
pub shift_lt : (c b : ℕ) → shift c b < 2 ^ 16
unfolding shift
shift_lt c b =
    xor_lt 16 (c * 2 % 2 ^ 16) (bit_xor (c / 2 ^ 15 % 2) (b % 2) * poly) (mod-lt (c * 2) (pow_pos 16))
    (gen_lt (bit_xor (c / 2 ^ 15 % 2) (b % 2)) (bit_xor_lt (c / 2 ^ 15) b))

-- a byte's steps are linear in the register and the byte together
pub byte_linear : (a b x y : ℕ) → byte_in (bit_xor a b) (bit_xor x y) ≡ bit_xor (byte_in a x) (byte_in b y)
unfolding byte_in
byte_linear a b x y = simp (xor_shr x y 7, xor_shr x y 6, xor_shr x y 5, xor_shr x y 4, xor_shr x y 3, xor_shr x y 2, xor_shr x y 1, shift_linear)

-- idle steps are linear in the register
pub idle_linear : (n a b : ℕ) → idle n (bit_xor a b) ≡ bit_xor (idle n a) (idle n b)
unfolding idle
idle_linear zero a b = refl
idle_linear (suc n) a b = ap (idle n) (shift_linear a b 0 0) ∙ idle_linear n (shift a 0) (shift b 0)

-- idle steps one after the other are so many together
pub idle_add : (m n c : ℕ) → idle (m + n) c ≡ idle n (idle m c)
unfolding idle
idle_add zero n c = ap (λ (k : ℕ). idle k c) (zero-add n)
idle_add (suc m) n c = ap (λ (k : ℕ). idle k c) (suc-add m n) ∙ idle_add m n (shift c 0)

-- a step before idle steps or after them is the same
pub idle_shift : (n c : ℕ) → idle n (shift c 0) ≡ shift (idle n c) 0
unfolding idle
idle_shift n c = ap (λ (k : ℕ). idle k c) (sym (add-one n)) ∙ idle_add n 1 c

-- idle steps keep the register below 2 ^ 16
pub idle_lt : (n c : ℕ) → c < 2 ^ 16 → idle n c < 2 ^ 16
unfolding idle
idle_lt zero c h = h
idle_lt (suc n) c h = idle_lt n (shift c 0) (shift_lt c 0)

-- a byte leaves the register below 2 ^ 16
pub byte_lt : (c x : ℕ) → byte_in c x < 2 ^ 16
unfolding byte_in
byte_lt c x = shift_lt _ x

-- the CRC is below 2 ^ 16
pub crc_lt : (c : ℕ) (xs : List ℕ) → c < 2 ^ 16 → crc_of c xs < 2 ^ 16
unfolding crc_of
crc_lt c [] h = h
crc_lt c (x ∷ xs) h = crc_lt (byte_in c x) xs (byte_lt c x)

-- the CRC of bytes and then others is that of the others, from the CRC of the first
pub crc_append : (c : ℕ) (xs ys : List ℕ) → crc_of c (xs ++ ys) ≡ crc_of (crc_of c xs) ys
unfolding crc_of
crc_append c [] ys = refl
crc_append c (x ∷ xs) ys = crc_append (byte_in c x) xs ys

-- two messages of one length, added bit by bit
abbrev pub xors : List ℕ → List ℕ → List ℕ
xors [] ys = []
xors (x ∷ xs) [] = []
xors (x ∷ xs) (y ∷ ys) = bit_xor x y ∷ xors xs ys

-- the CRC is linear in the start value and the bytes together
pub crc_linear : (a b : ℕ) (xs ys : List ℕ) → length xs ≡ length ys → crc_of (bit_xor a b) (xors xs ys) ≡ bit_xor (crc_of a xs) (crc_of b ys)
unfolding crc_of
crc_linear a b [] [] e = refl
crc_linear a b [] (y ∷ ys) e = absurd (suc-ne-zero (length ys) (sym e))
crc_linear a b (x ∷ xs) [] e = absurd (suc-ne-zero (length xs) e)
crc_linear a b (x ∷ xs) (y ∷ ys) e = ap (λ (c : ℕ). crc_of c (xors xs ys)) (byte_linear a b x y) ∙ crc_linear (byte_in a x) (byte_in b y) xs ys (suc_inj e)

-- a byte adds its own part to what idle steps make of the register
pub byte_idle : (c x : ℕ) → byte_in c x ≡ bit_xor (idle 8 c) (byte_in 0 x)
unfolding byte_in idle
byte_idle c x = ap (λ (k : ℕ). byte_in k x) (sym (xor_zero_r c)) ∙ byte_linear c 0 0 x

-- the steps of one byte more
pub eight : (n : ℕ) → 8 + 8 * n ≡ 8 * suc n
eight n = omega arith

-- bytes add their own CRC to what idle steps make of the start value
pub crc_split : (c : ℕ) (xs : List ℕ) → crc_of c xs ≡ bit_xor (idle (8 * length xs) c) (crc_of 0 xs)
unfolding crc_of idle
crc_split c [] = sym (xor_zero_r c)
crc_split c (x ∷ xs) =
    crc_split (byte_in c x) xs
    ∙ ap (λ (k : ℕ). bit_xor (idle (8 * length xs) k) (crc_of 0 xs)) (byte_idle c x)
    ∙ ap (λ (k : ℕ). bit_xor k (crc_of 0 xs)) (idle_linear (8 * length xs) (idle 8 c) (byte_in 0 x))
    ∙ xor_assoc (idle (8 * length xs) (idle 8 c)) (idle (8 * length xs) (byte_in 0 x)) (crc_of 0 xs)
    ∙ ap₂ bit_xor (sym (idle_add 8 (8 * length xs) c) ∙ ap (λ (k : ℕ). idle k c) (eight (length xs))) (sym (crc_split (byte_in 0 x) xs))
