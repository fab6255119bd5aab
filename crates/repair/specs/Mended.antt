-- What a repair promises, as statements (document 01, "CRC and its repair"). The theorems are in proofs/Mended.antt.
-- Assumes nothing.
use Rattle.std.specs.Prelude.{◌≡◌, true, ◌⊎◌, ◌≢◌, List, ℕ, ◌+◌, ◌-◌, ◌*◌, ◌^◌, ◌<◌, ◌≤◌, length, get_or}
use Rattle.refusal.specs.Refusals.{Grounds, taken, refused, grounds}
use Rattle.bits.specs.Bits.{bit_at}
use Rattle.probe.specs.declared.Codec.{Codec}
use Rattle.probe.specs.declared.Codec.TheVariants as codec
use Rattle.probe.specs.Probe.{sync_word}
use Rattle.repair.specs.Repair.{crc1_good, crc2_good, Checked, both, second, crc_status_of, crc_to, crc1_for, put_word, with_crc1, clashes, repaired, repair_of}

-- every checksum is good
abbrev pub all_good : Codec → Checked
all_good codec.Ac3 = both true true
all_good codec.Eac3 = second true

-- a bit outside of n bits from pos on
abbrev pub Outside : ℕ → ℕ → ℕ → Type 0
Outside pos n b = (b < pos) ⊎ (pos + n ≤ b)

-- the bits that a repair keeps: all but crc2, and for AC-3 crc1 and, where crc2 would be 0x0B77, the bit before crc2
unfoldable pub Kept : Codec → List ℕ → ℕ → Type 0
Kept codec.Ac3 s b = Outside 16 16 b × Outside (8 * (length s - 2)) 16 b × (clashes (with_crc1 s) ≡ true → b ≢ 8 * (length s - 2) - 1)
Kept codec.Eac3 s b = Outside (8 * (length s - 2)) 16 b

-- the word at byte i, and the last one, which is crc2
abbrev pub word_at : List ℕ → ℕ → ℕ
word_at s i = get_or s i 0 * 2 ^ 8 + get_or s (i + 1) 0

abbrev pub crc2_in : List ℕ → ℕ
crc2_in s = word_at s (length s - 2)

-- the numbers of a list are bytes, as those of every lent slice are
abbrev pub Bytes : List ℕ → Type 0
Bytes s = (j : ℕ) → get_or s j 0 < 2 ^ 8

-- a frame of a fit length, repaired
pub record Mended (k : Codec) (s : List ℕ) : Type 0 where
  -- it is as long as it was, and every checksum is good
  pub same_length : length (repaired k s) ≡ length s
  pub good : crc_status_of k (repaired k s) ≡ taken (all_good k)
  -- "No other bit changes"
  pub kept : (b : ℕ) → Kept k s b → bit_at (repaired k s) b ≡ bit_at s b
  -- crc2 is the only number that makes the end good
  pub crc2_only : (v : ℕ) → v < 2 ^ 16 → crc2_good (put_word s (length s - 2) v) ≡ true → v ≡ crc_to (length s - 2) s
  -- repaired again, it stays as it is
  pub once : Bytes s → repaired k (repaired k s) ≡ repaired k s

-- an AC-3 frame of a fit length, repaired
pub record MendedAc3 (s : List ℕ) : Type 0 where
  -- crc1 is the only number that makes the 5/8 point good
  pub crc1_only : (v : ℕ) → v < 2 ^ 16 → crc1_good (put_word s 2 v) ≡ true → v ≡ crc1_for s
  -- "A repair that flips ends with crc2 0x8B72", and none ends with 0x0B77
  pub flips : clashes (with_crc1 s) ≡ true → crc2_in (repaired codec.Ac3 s) ≡ 0x8B72
  pub no_sync : crc2_in (repaired codec.Ac3 s) ≢ sync_word

-- a frame whose checksums are good stays as it is, unless it is an AC-3 frame whose crc2 is 0x0B77
abbrev pub GoodStays : Codec → List ℕ → Type 0
GoodStays k s = Bytes s → crc_status_of k s ≡ taken (all_good k) → (k ≡ codec.Ac3 → crc2_in s ≢ sync_word) → repaired k s ≡ s

-- "repair changes no byte on refusal", and the refusal is 20
abbrev pub RefusedStays : Codec → List ℕ → Type 0
RefusedStays k s = (g : Grounds) → (repair_of k s).outcome ≡ refused g → (g ≡ grounds 20 0) × ((repair_of k s).state ≡ s)
