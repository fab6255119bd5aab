-- `bits::gather` meets its contract. The invariant: v is the value of the bytes so far.
-- Assumes nothing.
use Rattle.std.proofs.Common.{◌∙◌, sym, ◌+◌, ◌-◌, ◌*◌, drop, get_or-take, get_or-drop, refl, arith}
use Rattle.bits.proofs.Laws.{bits_at_zero, bits_at_bytes, bits_at_below}
use Rattle.bits.proofs.gather.Goals as goal

pub loop-x-init : goal.loop-x-init
loop-x-init c = sym (bits_at_zero _ _)

pub overflow_mul-v : goal.overflow_mul-v
overflow_mul-v c =
    let a = c.args in
    omega (arith, c.loop-x.invariant, bits_at_below a.s.now (8 * a.first) (8 * c.loop-x.x-index) 56 (omega arith))

pub overflow_add-v : goal.overflow_add-v
overflow_add-v c =
    let a = c.args in
    let i = c.loop-x.x-index in
    let byte = get_or-take (a.first + a.count - a.first) (drop a.first a.s.now) i 0 (omega arith) ∙ get_or-drop a.first a.s.now i 0 in
    omega (arith, byte, c.type_inv.s (a.first + i), c.loop-x.invariant, bits_at_below a.s.now (8 * a.first) (8 * i) 56 (omega arith))

pub loop-x-preserved : goal.loop-x-preserved
loop-x-preserved c =
    let a = c.args in
    let i = c.loop-x.x-index in
    let byte = get_or-take (a.first + a.count - a.first) (drop a.first a.s.now) i 0 (omega arith) ∙ get_or-drop a.first a.s.now i 0 in
    rw (byte, bits_at_bytes a.s.now a.first i (omega (arith, c.type_inv.s (a.first + i))), ← c.loop-x.invariant) refl
