-- TS 6.2.2.1: the values of the side information's codes. A code past its table is refused with 11 (document 01, "Refusal numbers").
-- Assumes nothing.
use Rattle.std.specs.Prelude.{ℕ, ◌+◌, ◌*◌, suc, zero, List, [], ◌∷◌, ℤ, pos, negsuc, ◌+ℤ◌, ◌-ℤ◌, ◌*ℤ◌, ltb, Option, Some, None}
use Rattle.refusal.specs.Refusals.{Outcome, taken, refused, grounds, refuse_if}

-- the value of a code, or that it is past its table
unfoldable pub code_at : List ℤ → ℕ → Outcome ℤ
code_at [] n = refused (grounds 11 0)
code_at (z ∷ zs) zero = taken z
code_at (z ∷ zs) (suc n) = code_at zs n

-- slow decay, by sdcycod
abbrev pub slow_decay : List ℤ
slow_decay = pos 15 ∷ pos 17 ∷ pos 19 ∷ pos 21 ∷ []

-- fast decay, by fdcycod
abbrev pub fast_decay : List ℤ
fast_decay = pos 63 ∷ pos 83 ∷ pos 103 ∷ pos 123 ∷ []

-- slow gain, by sgaincod
abbrev pub slow_gain : List ℤ
slow_gain = pos 0x540 ∷ pos 0x4D8 ∷ pos 0x478 ∷ pos 0x410 ∷ []

-- knee, by dbpbcod
abbrev pub knee_table : List ℤ
knee_table = pos 0 ∷ pos 0x700 ∷ pos 0x900 ∷ pos 0xB00 ∷ []

-- floor, by floorcod: the last is the word 0xF800, signed
abbrev pub floor_table : List ℤ
floor_table = pos 0x2F0 ∷ pos 0x2B0 ∷ pos 0x270 ∷ pos 0x230 ∷ pos 0x1F0 ∷ pos 0x170 ∷ pos 0x0F0 ∷ negsuc 2047 ∷ []

-- fast gain, by fgaincod
unfoldable pub fast_gain : ℕ → Outcome ℤ
fast_gain code = refuse_if (ltb 7 code) 11 0 (taken (pos (128 * (code + 1))))

-- a coupling leak, by cplfleak or cplsleak
unfoldable pub leak_of : ℕ → Outcome ℤ
leak_of code = refuse_if (ltb 7 code) 11 0 (taken (pos (256 * code + 768)))

-- the SNR offset, by csnroffst and fsnroffst
unfoldable pub snr_offset : ℕ → ℕ → ℤ
snr_offset csnr fsnr = pos 4 *ℤ (pos 16 *ℤ (pos csnr -ℤ pos 15) +ℤ pos fsnr)

-- the same with fsnroffst in its table
unfoldable pub fine_of : ℕ → ℕ → Outcome ℤ
fine_of csnr fsnr = refuse_if (ltb 15 fsnr) 11 0 (taken (snr_offset csnr fsnr))

-- and with csnroffst in its
unfoldable pub snr_of : ℕ → ℕ → Outcome ℤ
snr_of csnr fsnr = refuse_if (ltb 63 csnr) 11 0 (fine_of csnr fsnr)

-- what is decoded of codes: a value, or that a code is past its table
abbrev pub coded_of : {A : Type 0} → Option A → Outcome A
coded_of (Some a) = taken a
coded_of None = refused (grounds 11 0)
