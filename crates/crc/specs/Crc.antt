-- The CRC of TS 102 366, clause 6.10.1: a shift register of 16 bits with the generator x^16 + x^15 + x^2 + 1, which takes
-- the highest bit of a byte first and inverts nothing at the end. The register is a number below 2 ^ 16.
-- Assumes nothing.
use Rattle.std.specs.Prelude.{ℕ, zero, suc, ◌*◌, ◌/◌, ◌%◌, ◌^◌, List, [], ◌∷◌}
use Rattle.std.specs.Int.Bits.{bit_xor}

-- the generator without its top term
abbrev pub poly : ℕ
poly = 0x8005

-- one bit enters: the register moves up by one place, and if the bit that leaves differs from the bit that enters, the
-- generator is added
unfoldable pub shift : ℕ → ℕ → ℕ
shift c b = bit_xor (c * 2 % 2 ^ 16) (bit_xor (c / 2 ^ 15 % 2) (b % 2) * poly)

-- a byte enters, its highest bit first
unfoldable pub byte_in : ℕ → ℕ → ℕ
byte_in c x =
    shift (shift (shift (shift (shift (shift (shift (shift c (x / 2 ^ 7)) (x / 2 ^ 6)) (x / 2 ^ 5)) (x / 2 ^ 4)) (x / 2 ^ 3)) (x / 2 ^ 2)) (x / 2)) x

-- the CRC of bytes, from any start value
unfoldable pub crc_of : ℕ → List ℕ → ℕ
crc_of c [] = c
crc_of c (x ∷ xs) = crc_of (byte_in c x) xs

-- n steps in which the bit that enters is 0
unfoldable pub idle : ℕ → ℕ → ℕ
idle zero c = c
idle (suc n) c = idle n (shift c 0)

-- the register before a step, from the register after it and the bit that entered
unfoldable pub unshift : ℕ → ℕ → ℕ
unshift d b = bit_xor (bit_xor d (d % 2 * poly) / 2) (bit_xor (d % 2) (b % 2) * 2 ^ 15)

-- a byte leaves again, its lowest bit first
unfoldable pub byte_out : ℕ → ℕ → ℕ
byte_out d x =
    unshift (unshift (unshift (unshift (unshift (unshift (unshift (unshift d x) (x / 2)) (x / 2 ^ 2)) (x / 2 ^ 3)) (x / 2 ^ 4)) (x / 2 ^ 5)) (x / 2 ^ 6)) (x / 2 ^ 7)

-- the start value from which bytes lead to the register d: the register run backwards
unfoldable pub crc_from : ℕ → List ℕ → ℕ
crc_from d [] = d
crc_from d (x ∷ xs) = byte_out (crc_from d xs) x

-- crc1: the number that, put in front of bytes as two bytes, brings the register from 0 to 0
unfoldable pub crc1_of : List ℕ → ℕ
crc1_of xs = crc_from 0 (0 ∷ 0 ∷ xs)
