-- `bits::gather` meets its contract. The invariant: v is the value of the bytes so far.
-- Assumes nothing.
use mathlib.Core.Path.{◌≡◌}
use Prim.Native.Nat.{◌*◌}
use Rattle.bits.specs.Bits.{bits_at}
use Rattle.bits.proofs.gather.Given as goal

abbrev pub invariant-loop-x : goal.invariant-loop-x
invariant-loop-x l = l.v ≡ bits_at l.s (8 * l.first) (8 * l.x-index)
