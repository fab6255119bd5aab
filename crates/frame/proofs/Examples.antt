-- A tail made by hand, in both syntaxes, and every refusal of it. antt computes them. Assumes nothing.
use Prim.Native.Nat.{ℕ}
use mathlib.Core.Path.{◌≡◌, refl}
use mathlib.Core.List.{List, [], ◌∷◌, ◌++◌}
use lib.ListN.{replicate}
use lib.IntN.{ℤ, pos, negsuc}
use Rattle.refusal.specs.Refusals.{taken, refused, grounds, Ran}
use Rattle.bits.specs.Bits.{bit_at, bits_at}
use Rattle.syntax.specs.declared.Place.{Place}
use Rattle.syntax.specs.declared.Role.TheVariants.{Mantissas}
use Rattle.syntax.specs.Elements.{written}
use Rattle.syntax.specs.Reads.{Standing, standing, fits, span_of, read_of}
use Rattle.syntax.specs.Tiling.{end_at, follows, tiles, tiling_of}
use Rattle.probe.specs.declared.Codec.TheVariants.{Ac3, Eac3}
use Rattle.frame.specs.declared.Stretch.{Stretch}
use Rattle.frame.specs.Tail.{has_aux, behind, fit_of, last_of, tiles_of, elements_of, tail_of}

-- 64 bits that end with auxdatal (14 bits), auxdatae, the reserved bit and crc2; the two bytes before crc2 are given
abbrev frame : ℕ → ℕ → List ℕ
frame a b = 0x0B ∷ 0x77 ∷ 0x00 ∷ 0x00 ∷ a ∷ b ∷ 0xAB ∷ 0xCD ∷ []

-- auxdatal 5, 13 and none
abbrev five : List ℕ
five = frame 0x00 0x16

abbrev thirteen : List ℕ
thirteen = frame 0x00 0x36

abbrev none : List ℕ
none = frame 0x00 0x01

-- audio of n bits as one element, in a log with room for so many
abbrev audio : ℕ → ℕ → Standing
audio n most = (span_of 8 (standing (record { pos = 0; limit = 64; block = pos 5; count = 0 }) (replicate most 0)) 256 Mantissas n).state

-- of 12 auxbits the first 5 are the user's
pub accepted : ((tail_of five (audio 20 48) 64 Ac3).outcome ≡ taken (record { start = 20; width = 5 }))
    × ((tail_of five (audio 20 48) 64 Ac3).state.place.pos ≡ 64)
    × ((tail_of five (audio 20 48) 64 Ac3).state.log
    ≡ (256 ∷ 15 ∷ 5 ∷ 65535 ∷ 0 ∷ 20 ∷ 0 ∷ 0 ∷ [])
    ++ (32 ∷ 16 ∷ 65535 ∷ 65535 ∷ 20 ∷ 12 ∷ 0 ∷ 0 ∷ [])
    ++ (33 ∷ 17 ∷ 65535 ∷ 65535 ∷ 32 ∷ 14 ∷ 5 ∷ 0 ∷ [])
    ++ (34 ∷ 18 ∷ 65535 ∷ 65535 ∷ 46 ∷ 1 ∷ 1 ∷ 0 ∷ [])
    ++ (35 ∷ 4 ∷ 65535 ∷ 65535 ∷ 47 ∷ 1 ∷ 0 ∷ 0 ∷ [])
    ++ (37 ∷ 3 ∷ 65535 ∷ 65535 ∷ 48 ∷ 16 ∷ 0xABCD ∷ 0 ∷ []))
unfolding tail_of fit_of behind has_aux elements_of last_of tiles_of span_of read_of fits written bits_at bit_at end_at follows tiles tiling_of
accepted = (refl, refl, refl)

-- auxdatae 0 in E-AC-3: auxbits reach to it, none of them is the user's
pub no_aux : ((tail_of none (audio 20 40) 64 Eac3).outcome ≡ taken (record { start = 20; width = 0 }))
    × ((tail_of none (audio 20 40) 64 Eac3).state.log
    ≡ (256 ∷ 15 ∷ 5 ∷ 65535 ∷ 0 ∷ 20 ∷ 0 ∷ 0 ∷ [])
    ++ (32 ∷ 16 ∷ 65535 ∷ 65535 ∷ 20 ∷ 26 ∷ 0 ∷ 0 ∷ [])
    ++ (34 ∷ 18 ∷ 65535 ∷ 65535 ∷ 46 ∷ 1 ∷ 0 ∷ 0 ∷ [])
    ++ (36 ∷ 4 ∷ 65535 ∷ 65535 ∷ 47 ∷ 1 ∷ 1 ∷ 0 ∷ [])
    ++ (37 ∷ 3 ∷ 65535 ∷ 65535 ∷ 48 ∷ 16 ∷ 0xABCD ∷ 0 ∷ []))
unfolding tail_of fit_of behind has_aux elements_of last_of tiles_of span_of read_of fits written bits_at bit_at end_at follows tiles tiling_of
no_aux = (refl, refl)

-- a tail that is refused: the number and its bit, and then the cursor's bit, its block and the count
abbrev Ends : Ran Standing Stretch → ℕ → ℕ → Place → Type 0
Ends r k b p = (r.outcome ≡ refused (grounds k b)) × (r.state.place ≡ p)

abbrev place : ℕ → ℤ → ℕ → Place
place n block count = record { pos = n; limit = 64; block = block; count = count }

-- 6 for a total above the limit; 16 with 17 bits left; 17 with 31 left, where auxdatae is 1; 17 after auxdatal 13; 19 for crc2; 18 where
-- the audio is not logged
pub refusals : Ends (tail_of five (audio 20 48) 65 Ac3) 6 20 (place 20 (pos 5) 1)
    × Ends (tail_of five (audio 47 48) 64 Ac3) 16 47 (place 47 (pos 5) 1)
    × Ends (tail_of five (audio 33 48) 64 Ac3) 17 33 (place 33 (pos 5) 1)
    × Ends (tail_of thirteen (audio 20 48) 64 Ac3) 17 46 (place 46 (negsuc 0) 3)
    × Ends (tail_of five (audio 20 40) 64 Ac3) 19 48 (place 48 (negsuc 0) 5)
    × Ends (tail_of five (standing (place 20 (pos 5) 0) (replicate 48 0)) 64 Ac3) 18 64 (place 64 (negsuc 0) 5)
unfolding tail_of fit_of behind has_aux elements_of last_of tiles_of span_of read_of fits written bits_at bit_at end_at follows tiles tiling_of
refusals = ((refl, refl), (refl, refl), (refl, refl), (refl, refl), (refl, refl), (refl, refl))
