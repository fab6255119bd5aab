-- Probing a frame (document 01, "Cursor, log, tail", the last paragraph): its syntax and its length, for all inputs, by document 01's
-- numbers and its order of tests. There is no cursor here, so a refusal's bit is 0. "The frame itself need not be there."
-- Assumes nothing.
use Rattle.std.specs.Prelude.{ℕ, ◌+◌, ◌*◌, ◌/◌, ◌%◌, List, [], ◌∷◌, cond, not, ◌||◌, length, get_or, eqb, ltb}
use Rattle.refusal.specs.Refusals.{Outcome, taken, refuse_if}
use Rattle.bits.specs.Bits.{bits_at}
use Rattle.probe.specs.declared.Codec.{Codec}
use Rattle.probe.specs.declared.Codec.TheVariants.{Ac3, Eac3}
use Rattle.probe.specs.declared.Header.{Header}

-- the sync word: 2 is "first 16 bits aren't 0x0B77"
abbrev pub sync_word : ℕ
sync_word = 0x0B77

-- "With R the rate of frmsizecod halved, from 32, 40, .. 640"
abbrev pub rates : List ℕ
rates =
    32 ∷ 40 ∷ 48 ∷ 56 ∷ 64 ∷ 80 ∷ 96 ∷ 112 ∷ 128 ∷ 160 ∷ 192 ∷ 224 ∷ 256 ∷ 320 ∷ 384 ∷ 448 ∷ 512 ∷ 576 ∷ 640 ∷ []

unfoldable pub rate : ℕ → ℕ
rate code = get_or rates (code / 2) 0

-- "the words are 2R for fscod 0, 3R for fscod 2, and 320R/147 rounded down, plus the code's low bit, for fscod 1"
unfoldable pub words_of : ℕ → ℕ → ℕ
words_of fscod code =
    cond (eqb fscod 0) (2 * rate code)
    (cond (eqb fscod 2) (3 * rate code)
    (320 * rate code / 147 + code % 2))

-- "Bytes are twice the words."
abbrev pub header : Codec → ℕ → Header
header codec words = record { codec = codec; bytes = 2 * words }

-- "0..8: fscod at 32 (2 bits), frmsizecod at 34 (6 bits)"; 4: "AC-3 fscod 3, or frmsizecod above 37"
unfoldable pub ac3_of : List ℕ → Outcome Header
ac3_of bs =
    let fscod = bits_at bs 32 2 in
    let code = bits_at bs 34 6 in
    refuse_if (eqb fscod 3 || ltb 37 code) 4 0
    (taken (header Ac3 (words_of fscod code)))

-- "11..16: frmsiz at 21 (11 bits), frmsiz+1 words"
unfoldable pub eac3_of : List ℕ → Outcome Header
eac3_of bs = taken (header Eac3 (bits_at bs 21 11 + 1))

-- "Probe: 3, 2, then bsid at bit 40 (5 bits)"; 5: "bsid 9, 10, or above 16"
unfoldable pub probe_of : List ℕ → Outcome Header
probe_of bs =
    let bsid = bits_at bs 40 5 in
    refuse_if (ltb (length bs) 6) 3 0
    (refuse_if (not (eqb (bits_at bs 0 16) sync_word)) 2 0
    (cond (ltb bsid 9) (ac3_of bs)
    (refuse_if (ltb bsid 11 || ltb 16 bsid) 5 0
    (eac3_of bs))))
