-- The rule of the tables (document 01, "CRC and its repair"), as one test over a whole table that can be computed.
-- Assumes nothing.
use Rattle.std.specs.Prelude.{ℕ, zero, suc, ◌*◌, ◌^◌, Bool, true, ◌&&◌, List, eqb, get_or}
use Rattle.crc.specs.Crc.{idle}

-- a test passes at each of the n numbers from i on
abbrev pub all : (ℕ → Bool) → ℕ → ℕ → Bool
all f zero i = true
all f (suc n) i = f i && all f n (suc i)

-- entry k is k, moved up 8 bits and stepped 8 times for each of n bytes
unfoldable pub ruled : ℕ → List ℕ → Bool
ruled n t = all (λ (k : ℕ). eqb (get_or t k 0) (idle (8 * n) (k * 2 ^ 8))) 256 0
