-- `crc::zeros` meets its contract. The loop's invariant: the register is the CRC of the zero bytes so far.
-- Assumes nothing.
use Rattle.std.proofs.Common.{◌≡◌, replicate}
use Rattle.crc.specs.Crc.{crc_of}
use Rattle.crc.proofs.zeros.Given as goal

abbrev pub invariant-loop : goal.invariant-loop
invariant-loop l = l.c ≡ crc_of l.init (replicate l.counter 0)
