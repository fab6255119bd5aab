-- Worked examples of the definitions, which antt computes. Assumes nothing.
use mathlib.Core.Path.{◌≡◌, refl}
use mathlib.Core.List.{List, [], ◌∷◌, ◌++◌}
use mathlib.Core.Bool.{true, false}
use Prim.Native.Nat.{ℕ}
use lib.ListN.{length, replicate}
use lib.IntN.{pos, negsuc}
use Rattle.refusal.specs.Refusals.{grounds, taken, refused, Ran}
use Rattle.bits.specs.Bits.{bit_at, bits_at}
use Rattle.syntax.specs.declared.Role.{Role}
use Rattle.syntax.specs.declared.Role.TheVariants.{Plain, Sync, FrameSize, Dialnorm, Compr, Crc2, Mantissas}
use Rattle.syntax.specs.declared.Ask.{Ask}
use Rattle.syntax.specs.declared.cursor.Cursor.{Cursor}
use Rattle.syntax.specs.Elements.{role_word, role_of, among, is_drc, is_checksum, is_span, signed_word, signed_of, written}
use Rattle.syntax.specs.Reads.{Standing, standing, fits, read_of, raw_of, span_of, closes, close_of, next_of}
use Rattle.syntax.specs.Cursors.{moved, opened, raw_held_of, read_at, raw_at, close_at}
use Rattle.syntax.specs.Tiling.{element_at, end_at, follows, tiles, tiling_of}

-- the first bytes of an E-AC-3 frame, a cursor over them, and a log with room for three elements
abbrev frame : List ℕ
frame = 0x0B ∷ 0x77 ∷ 0x00 ∷ 0x3F ∷ 0x00 ∷ 0x80 ∷ []

abbrev start : Standing
start = standing (record { pos = 0; limit = 48; block = negsuc 0; count = 0 }) (replicate 24 0)

abbrev ask : ℕ → Role → ℕ → Ask
ask name role width = record { name = name; role = role; index = negsuc 0; width = width }

abbrev after : Ran Standing ℕ → ℕ → Role → ℕ → Ran Standing ℕ
after r name role width = next_of frame (ask name role width) r

-- syncword, strmtyp and substreamid (as one), frmsiz: three elements, and then the log is full
abbrev header : Ran Standing ℕ
header = after (after (after (record { outcome = taken 0; state = start }) 256 Sync 16) 257 FrameSize 5) 258 FrameSize 11

pub logged : (header.outcome ≡ taken 63)
    × (header.state.log ≡ (256 ∷ 1 ∷ 65535 ∷ 65535 ∷ 0 ∷ 16 ∷ 0x0B77 ∷ 0 ∷ []) ++ (257 ∷ 5 ∷ 65535 ∷ 65535 ∷ 16 ∷ 5 ∷ 0 ∷ 0 ∷ [])
    ++ (258 ∷ 5 ∷ 65535 ∷ 65535 ∷ 21 ∷ 11 ∷ 63 ∷ 0 ∷ []))
    × (header.state.place.pos ≡ 32)
    × ((after header 259 Plain 2).outcome ≡ refused (grounds 19 32))
    × ((after (after header 259 Plain 2) 260 Plain 33).outcome ≡ refused (grounds 19 32))
unfolding next_of read_of fits written bits_at bit_at
logged = (refl, refl, refl, refl, refl)

-- they tile 32 bits, and no other number of them; the second is read back; there is no fourth
pub tiled : (tiling_of header.state.log 3 32 ≡ taken tt) × (tiling_of header.state.log 3 33 ≡ refused (grounds 18 0))
    × (tiling_of header.state.log 4 32 ≡ refused (grounds 6 0)) × (tiling_of [] 0 0 ≡ taken tt)
    × (element_at header.state.log 3 1
    ≡ taken (record { name = 257; role = FrameSize; block = negsuc 0; index = negsuc 0; pos = 16; width = 5; value = 0 }))
    × (element_at header.state.log 3 3 ≡ refused (grounds 6 0))
unfolding next_of read_of fits written bits_at bit_at element_at end_at follows tiles tiling_of signed_of
tiled = (refl, refl, refl, refl, refl, refl)

-- a gap: the second element starts at 17
pub gap : tiling_of ((0 ∷ 0 ∷ 0 ∷ 0 ∷ 0 ∷ 16 ∷ 0 ∷ 0 ∷ []) ++ (0 ∷ 0 ∷ 0 ∷ 0 ∷ 17 ∷ 15 ∷ 0 ∷ 0 ∷ [])) 2 32 ≡ refused (grounds 18 0)
unfolding end_at follows tiles tiling_of
gap = refl

-- 6 for a width of 33, 1 for a span past the limit, 6 for a limit past the data; a raw read; a span closed from bit 3, and from past the cursor
abbrev walked : Standing
walked = standing (raw_of frame start.place 16).state start.log

pub refusals : ((read_of frame start (ask 1 Plain 33)).outcome ≡ refused (grounds 6 0))
    × ((span_of (length frame) start 1 Mantissas 49).outcome ≡ refused (grounds 1 0))
    × ((raw_of frame (record { pos = 0; limit = 49; block = pos 0; count = 0 }) 1).outcome ≡ refused (grounds 6 0))
    × (walked.place.pos ≡ 16)
    × ((close_of (length frame) walked 1 Mantissas 3).state.log ≡ (1 ∷ 15 ∷ 65535 ∷ 65535 ∷ 3 ∷ 13 ∷ 0 ∷ 0 ∷ []) ++ replicate 16 0)
    × ((close_of (length frame) walked 1 Mantissas 17).outcome ≡ refused (grounds 6 16))
unfolding read_of fits span_of raw_of closes close_of written bits_at bit_at
refusals = (refl, refl, refl, refl, refl, refl)

-- words: dialnorm2's role, the block -1; roles by what an editor does with them
pub roles : (role_word (Dialnorm 1) ≡ 38) × (role_of 38 ≡ Dialnorm 1) × (signed_word (negsuc 0) ≡ 65535) × (signed_of 128 65535 ≡ negsuc 0)
    × (is_drc (Compr 1) ≡ true) × (is_drc (Dialnorm 1) ≡ false) × (is_checksum Crc2 ≡ true) × (is_span Mantissas ≡ true)
unfolding signed_of among
roles = (refl, refl, refl, refl, refl, refl, refl, refl)

-- a cursor over the same frame, wherever its bytes stand: a read moves it on in them, a refused one leaves it, closing a span counts one more
abbrev cursor : ℕ × ℕ → Cursor
cursor at = opened (record { ref_ptr = at; now = frame }) 48

pub over_cursor : (at : ℕ × ℕ)
    → ((read_at (cursor at) start.log (ask 256 Sync 16)).outcome ≡ taken 0x0B77)
    × ((read_at (cursor at) start.log (ask 256 Sync 16)).state.cursor
    ≡ moved (cursor at) (record { pos = 16; limit = 48; block = negsuc 0; count = 1 }))
    × (raw_at (cursor at) 33 ≡ raw_held_of (refused (grounds 6 0)) (cursor at))
    × ((close_at (raw_at (cursor at) 16).state start.log 1 Mantissas 3).state.cursor
    ≡ moved (cursor at) (record { pos = 16; limit = 48; block = negsuc 0; count = 1 }))
unfolding read_of fits raw_of closes close_of written bits_at bit_at
over_cursor at = (refl, refl, refl, refl)
