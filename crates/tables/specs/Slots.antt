-- "7 slots (0 to 4 full bandwidth, 5 coupling, 6 LFE)".
-- Assumes nothing.
use Rattle.std.specs.Prelude.{ℕ, Bool, eqb, ltb}

abbrev pub slot_count : ℕ
slot_count = 7

abbrev pub is_coupling : ℕ → Bool
is_coupling slot = eqb slot 5

abbrev pub is_lfe : ℕ → Bool
is_lfe slot = eqb slot 6

-- whether there is no such slot
abbrev pub no_slot : ℕ → Bool
no_slot slot = ltb 6 slot
