-- Document 01, fixed values: K10 and K11; a composite gain of 26 and one of 27; and where a refused walk leaves the cursor. antt
-- computes them. Assumes nothing.
use Prim.Native.Nat.{ℕ, ◌-◌}
use mathlib.Core.Path.{◌≡◌, refl}
use mathlib.Core.List.{List, [], ◌∷◌, ◌++◌}
use lib.ListN.{length, replicate}
use lib.IntN.{pos}
use Rattle.refusal.specs.Refusals.{Outcome, grounds, taken, refused, Ran}
use Rattle.bits.specs.Bits.{bit_at, bits_at}
use Rattle.syntax.specs.declared.Place.{Place}
use Rattle.syntax.specs.Reads.{raw_of}
use Rattle.aht.specs.Aht.{read_on, refuse_on, tag_on, times, vector_width, gaq_width, gained_on, mantissa_on, gain_of, bin_on, count_active, walk_on, composite_on, word_on, bins_on, mode_on, aht_of}

abbrev place : ℕ → ℕ → Place
place bit limit = record { pos = bit; limit = limit; block = pos 0; count = 0 }

-- over four bytes, from bit 0 on, a channel whose first bins have these codes
abbrev over : List ℕ → ℕ → List ℕ → Ran Place ℕ
over frame limit hs = aht_of frame (place 0 limit) (hs ++ replicate (256 - length hs) 0) 0 (length hs)

abbrev ends : Outcome ℕ → ℕ → ℕ → Ran Place ℕ
ends o bit limit = record { outcome = o; state = place bit limit }

-- gaqmod 0: 20 bits and no tag
pub k10 : over (0 ∷ 0 ∷ 0 ∷ 0 ∷ []) 32 (8 ∷ []) ≡ ends (taken 0) 20 32
unfolding aht_of mode_on bins_on walk_on bin_on times mantissa_on gained_on word_on composite_on tag_on refuse_on read_on raw_of count_active gain_of gaq_width vector_width bits_at bit_at
k10 = refl

-- gaqmod 2, a gain of 4, six tags: 27 bits
pub k11 : over (0xB1 ∷ 0x11 ∷ 0x11 ∷ 0 ∷ []) 32 (8 ∷ []) ≡ ends (taken 6) 27 32
unfolding aht_of mode_on bins_on walk_on bin_on times mantissa_on gained_on word_on composite_on tag_on refuse_on read_on raw_of count_active gain_of gaq_width vector_width bits_at bit_at
k11 = refl

-- gaqmod 3: the composite gain 26 means 4, and 27 is refused after it was read
pub composites : (over (0xF4 ∷ 0 ∷ 0 ∷ 0 ∷ []) 32 (8 ∷ []) ≡ ends (taken 0) 13 32)
    × (over (0xF6 ∷ 0 ∷ 0 ∷ 0 ∷ []) 32 (8 ∷ []) ≡ ends (refused (grounds 14 7)) 7 32)
unfolding aht_of mode_on bins_on walk_on bin_on times mantissa_on gained_on word_on composite_on tag_on refuse_on read_on raw_of count_active gain_of gaq_width vector_width bits_at bit_at
composites = (refl, refl)

-- 1 before the mantissa that passes the limit; 13 before the bin; 6 at the start
pub refusals : (over (0 ∷ 0 ∷ 0 ∷ 0 ∷ []) 19 (8 ∷ []) ≡ ends (refused (grounds 1 17)) 17 19)
    × (over (0 ∷ 0 ∷ 0 ∷ 0 ∷ []) 32 (1 ∷ 20 ∷ []) ≡ ends (refused (grounds 13 4)) 4 32)
    × (over (0 ∷ 0 ∷ 0 ∷ 0 ∷ []) 33 (8 ∷ []) ≡ ends (refused (grounds 6 0)) 0 33)
unfolding aht_of mode_on bins_on walk_on bin_on times mantissa_on gained_on word_on composite_on tag_on refuse_on read_on raw_of count_active gain_of gaq_width vector_width bits_at bit_at
refusals = (refl, refl, refl)
