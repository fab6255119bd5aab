-- `bits::with_bit` meets its contract: `1 << (7 - off)` is the weight of the bit, and a byte stays a byte.
-- Assumes nothing.
use Prim.Native.Nat.{◌-◌}
use Rattle.bits.specs.Bits.{with_bit}
use Rattle.bits.proofs.Laws.{shl_one}
use Rattle.bits.proofs.SetLaws.{with_bit_lt}
use native.Mathlib.Omega.{arith}
use Rattle.bits.proofs.with_bit.Goals as goal

pub overflow_mul-result-2 : goal.overflow_mul-result-2
unfolding with_bit
overflow_mul-result-2 c = rw (shl_one 8 (7 - c.args.off) (omega arith)) (omega (arith, with_bit_lt c.args.x (7 - c.args.off) c.args.b (omega arith) c.ranges.x.fits c.requires.b_bound))

pub overflow_add-result-2 : goal.overflow_add-result-2
unfolding with_bit
overflow_add-result-2 c = rw (shl_one 8 (7 - c.args.off) (omega arith)) (record { fits = with_bit_lt c.args.x (7 - c.args.off) c.args.b (omega arith) c.ranges.x.fits c.requires.b_bound })

pub returns : goal.returns
unfolding with_bit
returns c = rw (shl_one 8 (7 - c.args.off) (omega arith))
