-- `bits::same_bits` meets its contract. The invariant: the bits of the first k turns are equal.
-- Assumes nothing.
use mathlib.Core.Path.{◌≡◌}
use Prim.Native.Nat.{◌*◌}
use Rattle.bits.specs.Bits.{bits_at}
use Rattle.bits.proofs.same_bits.Given as goal

abbrev pub invariant-loop-k : goal.invariant-loop-k
invariant-loop-k l = bits_at l.x l.a (56 * l.k) ≡ bits_at l.y l.b (56 * l.k)
