-- `bits::put_word` meets its contract. The invariant: of the n low bits of v the upper i are set.
-- Assumes nothing.
use mathlib.Core.Path.{◌≡◌}
use Prim.Native.Nat.{◌-◌, ◌/◌, ◌^◌}
use Rattle.bits.specs.Bits.{set_bits}
use Rattle.bits.proofs.put_word.Given as goal

abbrev pub invariant-loop-i : goal.invariant-loop-i
invariant-loop-i l = l.s ≡ set_bits l.initial.s l.pos l.i (l.v / 2 ^ (l.n - l.i))
