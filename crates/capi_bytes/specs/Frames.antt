-- The calling convention over a whole frame: what its header says, and which of its checksums are good.
-- Assumes nothing.
use Rattle.std.specs.Prelude.{ℕ, Bool, false}
use Rattle.refusal.specs.Refusals.{Outcome, taken, and_then}
use Rattle.probe.specs.declared.Header.{Header}
use Rattle.repair.specs.Repair.{Checked, both, second}
use Rattle.convention.specs.Codecs.{is_eac3}

-- what a frame opens with: whether it is E-AC-3, and its length in bytes
pub record Opening : Type 0 where
  pub eac3 : Bool
  pub bytes : ℕ

abbrev pub opening : Bool → ℕ → Opening
opening eac3 bytes = record { eac3 = eac3; bytes = bytes }

abbrev pub opening_of : Outcome Header → Outcome Opening
opening_of o = and_then o (λ (h : Header). taken (opening (is_eac3 h.codec) h.bytes))

-- which checksums are good; crc1 is not where there is none
pub record Checks : Type 0 where
  pub crc1 : Bool
  pub crc2 : Bool

abbrev pub checks : Bool → Bool → Checks
checks crc1 crc2 = record { crc1 = crc1; crc2 = crc2 }

abbrev pub checks_in : Checked → Checks
checks_in (both crc1 crc2) = checks crc1 crc2
checks_in (second crc2) = checks false crc2

abbrev pub checks_of : Outcome Checked → Outcome Checks
checks_of o = and_then o (λ (k : Checked). taken (checks_in k))
