-- `crc::entry` meets its contract: the test over each whole table is computed here.
-- Assumes nothing.
use Rattle.std.proofs.Common.{◌≡◌, ℕ, zero, suc, ◌+◌, ◌*◌, ◌^◌, ◌<◌, List, get_or, refl, arith}
use Rattle.crc.specs.Crc.{shift, idle}
use Rattle.crc.specs.Table.{ruled}
use Rattle.crc.specs.declared.TheConstants.{TABLES}
use Rattle.crc.proofs.Tables.{entry}
use Rattle.crc.proofs.entry.Goals as goal

by_table : (n k : ℕ) (d : List ℕ) → n < 2 → k < 256 → get_or (get_or TABLES n d) k 0 ≡ idle (8 * (n + 1)) (k * 2 ^ 8)
unfolding ruled idle shift
by_table zero k d h l = entry 1 (get_or TABLES 0 d) refl k l
by_table (suc zero) k d h l = entry 2 (get_or TABLES 1 d) refl k l
by_table (suc (suc n)) k d h l = absurd (omega arith)

pub returns : goal.returns
returns c = by_table c.args.n c.args.k _ c.requires c.ranges.k.fits
