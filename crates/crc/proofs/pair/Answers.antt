-- `crc::pair` meets its contract.
-- Assumes nothing.
use Rattle.std.proofs.Common.{◌∙◌, ap₂}
use Rattle.std.specs.Int.Bits.{bit_xor}
use Rattle.crc.proofs.Bytes.{byte_two}
use Rattle.crc.proofs.pair.Goals as goal

pub returns : goal.returns
returns c =
    ap₂ bit_xor c.entry.ensures c.entry-2.ensures ∙ byte_two c.args.c c.args.x c.args.y c.ranges.x.fits c.ranges.y.fits
