-- Worked examples of the definitions, which antt computes. Assumes nothing.
use mathlib.Core.Path.{◌≡◌, refl}
use mathlib.Core.Bool.{true, false}
use mathlib.Core.List.{List, [], ◌∷◌}
use Prim.Native.Nat.{ℕ, ◌*◌}
use lib.ListN.{replicate}
use Rattle.refusal.specs.Refusals.{grounds, taken, refused}
use Rattle.crc.specs.Crc.{shift, byte_in, crc_of, unshift, byte_out, crc_from, crc1_of}
use Rattle.probe.specs.declared.Codec.TheVariants.{Ac3, Eac3}
use Rattle.repair.specs.Repair.{least, five_eighths, crc_to, both, second, good_of, crc_status_of, put_word, with_crc1, with_crc2, flipped, settled, repaired, repair_of}

-- "128 bytes: 5/8 at 640 bits"
pub five : 8 * five_eighths 128 ≡ 640
five = refl

-- the lengths: 6 and 10 of AC-3, 2 and 4 of E-AC-3, an odd one, one of 4,098
pub lengths : ((repair_of Ac3 (replicate 6 0)).outcome ≡ refused (grounds 20 0)) × ((repair_of Ac3 (replicate 10 0)).outcome ≡ taken tt)
    × ((repair_of Eac3 (replicate 2 0)).outcome ≡ refused (grounds 20 0)) × ((repair_of Eac3 (replicate 4 0)).outcome ≡ taken tt)
    × ((repair_of Eac3 (replicate 9 0)).outcome ≡ refused (grounds 20 0)) × ((repair_of Eac3 (replicate 4098 0)).outcome ≡ refused (grounds 20 0))
unfolding least
lengths = (refl, refl, refl, refl, refl, refl)

-- an AC-3 frame whose crc2 would be the sync word, and the same repaired: crc1 is 0x4986, the bit before crc2 is turned over, and crc2 is 0x8B72
abbrev clash : List ℕ
clash = 0x0B ∷ 0x77 ∷ 0x00 ∷ 0x00 ∷ 0x40 ∷ 0x40 ∷ 0x43 ∷ 0xE1 ∷ 0x08 ∷ 0x00 ∷ 0x00 ∷ 0x00 ∷ 0xBC ∷ 0x95 ∷ 0x00 ∷ 0x00 ∷ []

abbrev mended : List ℕ
mended = 0x0B ∷ 0x77 ∷ 0x49 ∷ 0x86 ∷ 0x40 ∷ 0x40 ∷ 0x43 ∷ 0xE1 ∷ 0x08 ∷ 0x00 ∷ 0x00 ∷ 0x00 ∷ 0xBC ∷ 0x94 ∷ 0x8B ∷ 0x72 ∷ []

pub flip : (repair_of Ac3 clash ≡ record { outcome = taken tt; state = mended })
    × (crc_status_of Ac3 clash ≡ taken (both false false)) × (crc_status_of Ac3 mended ≡ taken (both true true))
unfolding least repaired settled flipped with_crc1 with_crc2 put_word good_of crc_to crc_of byte_in shift crc1_of crc_from byte_out unshift
flip = (refl, refl, refl)

-- the same bytes as an E-AC-3 frame: only crc2 is set
pub second_alone : crc_status_of Eac3 (repaired Eac3 clash) ≡ taken (second true)
unfolding least repaired with_crc2 put_word good_of crc_to crc_of byte_in shift
second_alone = refl
