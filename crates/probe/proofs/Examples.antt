-- Document 01, fixed values: K12; and the E-AC-3 header of its line "Run". antt computes them. Assumes nothing.
use Prim.Native.Nat.{ℕ}
use mathlib.Core.Path.{◌≡◌, refl}
use mathlib.Core.List.{List, [], ◌∷◌}
use Rattle.refusal.specs.Refusals.{taken, refused, grounds}
use Rattle.bits.specs.Bits.{bit_at, bits_at}
use Rattle.probe.specs.declared.Codec.TheVariants.{Ac3, Eac3}
use Rattle.probe.specs.Probe.{rate, words_of, ac3_of, eac3_of, probe_of}

-- six bytes of AC-3, with byte 4 given
abbrev pub ac3_head : ℕ → List ℕ
ac3_head b = 0x0B ∷ 0x77 ∷ 0x00 ∷ 0x00 ∷ b ∷ 0x40 ∷ []

pub k12 : (probe_of (ac3_head 0x00) ≡ taken (record { codec = Ac3; bytes = 128 }))
    × (probe_of (ac3_head 0x41) ≡ taken (record { codec = Ac3; bytes = 140 }))
    × (probe_of (ac3_head 0x26) ≡ refused (grounds 4 0))
unfolding probe_of ac3_of eac3_of words_of rate bits_at bit_at
k12 = (refl, refl, refl)

-- E-AC-3; five bytes, which tell 3 before 2; another sync word; bsid 9, 10 and 17
pub others : (probe_of (0x0B ∷ 0x77 ∷ 0x00 ∷ 0x3F ∷ 0x00 ∷ 0x80 ∷ []) ≡ taken (record { codec = Eac3; bytes = 128 }))
    × (probe_of (0 ∷ 0 ∷ 0 ∷ 0 ∷ 0 ∷ []) ≡ refused (grounds 3 0))
    × (probe_of (0x77 ∷ 0x0B ∷ 0x00 ∷ 0x3F ∷ 0x00 ∷ 0x80 ∷ []) ≡ refused (grounds 2 0))
    × (probe_of (0x0B ∷ 0x77 ∷ 0x00 ∷ 0x3F ∷ 0x00 ∷ 0x48 ∷ []) ≡ refused (grounds 5 0))
    × (probe_of (0x0B ∷ 0x77 ∷ 0x00 ∷ 0x3F ∷ 0x00 ∷ 0x50 ∷ []) ≡ refused (grounds 5 0))
    × (probe_of (0x0B ∷ 0x77 ∷ 0x00 ∷ 0x3F ∷ 0x00 ∷ 0x88 ∷ []) ≡ refused (grounds 5 0))
unfolding probe_of ac3_of eac3_of words_of rate bits_at bit_at
others = (refl, refl, refl, refl, refl, refl)
