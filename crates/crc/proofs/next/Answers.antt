-- `crc::next` meets its contract.
-- Assumes nothing.
use Rattle.std.proofs.Common.{◌∙◌, ap}
use Rattle.std.specs.Int.Bits.{bit_xor}
use Rattle.crc.proofs.Bytes.{byte_table}
use Rattle.crc.proofs.next.Goals as goal

pub returns : goal.returns
returns c = ap (bit_xor _) c.entry.ensures ∙ byte_table c.args.c c.args.x c.ranges.x.fits
