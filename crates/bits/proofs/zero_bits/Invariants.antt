-- `bits::zero_bits` meets its contract: it compares with no bytes, whose bits are all 0. The invariant: the first k words are equal.
-- Assumes nothing.
use mathlib.Core.Path.{◌≡◌}
use mathlib.Core.List.{[]}
use Prim.Native.Nat.{◌*◌}
use Rattle.bits.specs.Bits.{bits_at}
use Rattle.bits.proofs.zero_bits.Given as goal

abbrev pub invariant-loop-k : goal.invariant-loop-k
invariant-loop-k l = bits_at l.x l.a (32 * l.k) ≡ bits_at [] 0 (32 * l.k)
