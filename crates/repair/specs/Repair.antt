-- CRC status and repair of a frame, for all inputs (document 01, "CRC and its repair"; TS 102 366, 6.10.1 and 4.4.5.1).
-- There is no cursor here, so a refusal's bit is 0. Assumes nothing.
use Rattle.std.specs.Prelude.{Bool, cond, ◌||◌, List, ℕ, ◌+◌, ◌-◌, ◌*◌, ◌/◌, ◌%◌, ◌^◌, eqb, ltb, length, get_or, set, take, drop, Result, Ok, Err}
use Rattle.std.specs.Int.Bits.{bit_xor}
use Rattle.refusal.specs.declared.Refusal.{Refusal}
use Rattle.refusal.specs.Refusals.{Outcome, taken, told, refuse_if, and_then, Ran, settle}
use Rattle.crc.specs.Crc.{crc_of, crc1_of}
use Rattle.probe.specs.declared.Codec.{Codec}
use Rattle.probe.specs.declared.Codec.TheVariants as codec
use Rattle.probe.specs.Probe.{sync_word}
use Rattle.repair.specs.declared.Status.{Status}
use Rattle.repair.specs.declared.Status.TheVariants as status

-- "Status and repair take even lengths to 4,096, from 8 for AC-3 and 4 for E-AC-3; else 20"
unfoldable pub least : Codec → ℕ
least codec.Ac3 = 8
least codec.Eac3 = 4

abbrev pub unfit : Codec → ℕ → Bool
unfit k n = ltb n (least k) || (ltb 4096 n || eqb (n % 2) 1)

abbrev pub fit_of : Codec → ℕ → Outcome Unit
fit_of k n = refuse_if (unfit k n) 20 0 (taken tt)

-- "With w words, the 5/8 point is 2(w/2 + w/8) bytes, each quotient rounded down"
abbrev pub five_eighths : ℕ → ℕ
five_eighths n = 2 * (n / 2 / 2 + n / 2 / 8)

-- the bytes from a to e, and the CRC of bytes 2 to e
abbrev pub part : ℕ → ℕ → List ℕ → List ℕ
part a e s = take (e - a) (drop a s)

unfoldable pub crc_to : ℕ → List ℕ → ℕ
crc_to e s = crc_of 0 (part 2 e s)

-- "crc2 is good if the CRC of bytes 2 to the end is 0; crc1 (AC-3 only) likewise to the 5/8 point"
abbrev pub crc1_good : List ℕ → Bool
crc1_good s = eqb (crc_to (five_eighths (length s)) s) 0

abbrev pub crc2_good : List ℕ → Bool
crc2_good s = eqb (crc_to (length s) s) 0

-- what is known of a frame's checksums: AC-3 has both, E-AC-3 the second
pub data Checked : Type 0 where
  both : Bool → Bool → Checked
  second : Bool → Checked

unfoldable pub good_of : Codec → List ℕ → Checked
good_of codec.Ac3 s = both (crc1_good s) (crc2_good s)
good_of codec.Eac3 s = second (crc2_good s)

-- what a status says, and what an answer means
abbrev pub checked : Status → Checked
checked (status.Both a b) = both a b
checked (status.Second b) = second b

abbrev pub status_of : Result Status Refusal → Outcome Checked
status_of (Ok s) = taken (checked s)
status_of (Err r) = told r

-- the status: 20, else which checksums are good
abbrev pub crc_status_of : Codec → List ℕ → Outcome Checked
crc_status_of k s = and_then (fit_of k (length s)) (λ _. taken (good_of k s))

-- two bytes made v, high byte first
unfoldable pub put_word : List ℕ → ℕ → ℕ → List ℕ
put_word s i v = set (set s i (v / 2 ^ 8)) (i + 1) (v % 2 ^ 8)

-- "Repair sets AC-3 bytes 2 and 3 so that crc1 is good": the number in front of the bytes from 4 to the 5/8 point that does it, which is
-- the only one (`crc1_good_lem`, `crc1_only` of the crate crc)
abbrev pub crc1_for : List ℕ → ℕ
crc1_for s = crc1_of (part 4 (five_eighths (length s)) s)

unfoldable pub with_crc1 : List ℕ → List ℕ
with_crc1 s = put_word s 2 (crc1_for s)

-- "then the last two bytes"
unfoldable pub with_crc2 : List ℕ → List ℕ
with_crc2 s = put_word s (length s - 2) (crc_to (length s - 2) s)

-- "the low bit of byte n-3 is flipped"
unfoldable pub flipped : List ℕ → List ℕ
flipped s = set s (length s - 3) (bit_xor (get_or s (length s - 3) 0) 1)

-- "If AC-3's crc2 would be 0x0B77, the low bit of byte n-3 is flipped and crc2 recomputed once"
abbrev pub clashes : List ℕ → Bool
clashes s = eqb (crc_to (length s - 2) s) sync_word

unfoldable pub settled : List ℕ → List ℕ
settled s = cond (clashes s) (flipped s) s

unfoldable pub repaired : Codec → List ℕ → List ℕ
repaired codec.Ac3 s = with_crc2 (settled (with_crc1 s))
repaired codec.Eac3 s = with_crc2 s

-- the repair: 20 with no byte changed, else the frame repaired
abbrev pub repair_of : Codec → List ℕ → Ran (List ℕ) Unit
repair_of k s = settle s (repaired k s) (fit_of k (length s))
