-- Worked examples of the definitions, which antt computes. Assumes nothing.
use mathlib.Core.Path.{◌≡◌, refl}
use mathlib.Core.List.{List, [], ◌∷◌}
use Prim.Native.Nat.{ℕ}
use Rattle.refusal.specs.Refusals.{grounds, taken, refused}
use Rattle.bits.specs.Bits.{bit_at, bits_at, with_bit, set_bit, set_bits}
use Rattle.bits.specs.Answers.{get_of}

abbrev pub head : List ℕ
head = 0x0B ∷ 0x77 ∷ 0x00 ∷ 0x3F ∷ 0x00 ∷ 0x80 ∷ []

-- sync word, frmsiz, bsid; a width of 33; one bit past the end; five bits of ones set at bit 6
pub read : (bits_at head 0 16 ≡ 0x0B77) × (bits_at head 21 11 ≡ 63) × (get_of head 40 5 ≡ taken 16)
    × (get_of head 0 33 ≡ refused (grounds 6 0)) × (get_of head 44 5 ≡ refused (grounds 1 0))
    × (set_bits head 6 5 255 ≡ 0x0B ∷ 0xF7 ∷ 0x00 ∷ 0x3F ∷ 0x00 ∷ 0x80 ∷ [])
unfolding bits_at bit_at set_bits set_bit with_bit
read = (refl, refl, refl, refl, refl, refl)
