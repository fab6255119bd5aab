-- Bits of a list of bytes, most significant first (TS 4.3: "all bit stream elements arrive most significant bit first").
-- Assumes nothing.
use Rattle.std.specs.Prelude.{ℕ, zero, suc, ◌+◌, ◌*◌, ◌-◌, ◌/◌, ◌%◌, ◌^◌, List, get_or, set}

-- bit k: bit 0 is the top bit of byte 0; 0 past the end
unfoldable pub bit_at : List ℕ → ℕ → ℕ
bit_at bs k = get_or bs (k / 8) 0 / 2 ^ (7 - k % 8) % 2

-- the value of the n bits from bit pos on
unfoldable pub bits_at : List ℕ → ℕ → ℕ → ℕ
bits_at bs pos zero = 0
bits_at bs pos (suc n) = bits_at bs pos n * 2 + bit_at bs (pos + n)

-- the number x with its bit of weight 2 ^ e made b
unfoldable pub with_bit : ℕ → ℕ → ℕ → ℕ
with_bit x e b = (x / 2 ^ e / 2 * 2 + b) * 2 ^ e + x % 2 ^ e

-- the bytes with bit k made b
unfoldable pub set_bit : List ℕ → ℕ → ℕ → List ℕ
set_bit bs k b = set bs (k / 8) (with_bit (get_or bs (k / 8) 0) (7 - k % 8) b)

-- the bytes with the n bits from bit pos on made the low n bits of v
unfoldable pub set_bits : List ℕ → ℕ → ℕ → ℕ → List ℕ
set_bits bs pos zero v = bs
set_bits bs pos (suc n) v = set_bit (set_bits bs pos n (v / 2)) (pos + n) (v % 2)
