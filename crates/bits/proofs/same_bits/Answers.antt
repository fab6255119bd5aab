-- `bits::same_bits` meets its contract. The invariant: the bits of the first k turns are equal.
-- Assumes nothing.
use mathlib.Core.Path.{◌≡◌, ◌∙◌, sym}
use Prim.Native.Nat.{◌+◌, ◌-◌, ◌*◌}
use Rattle.bits.proofs.Laws.{bits_at_zero}
use Rattle.bits.proofs.SameLaws.{turn_same, turn_differs, turn_last}
use native.Mathlib.Omega.{arith}
use Rattle.bits.proofs.same_bits.Goals as goal

pub loop-k-init : goal.loop-k-init
loop-k-init c = bits_at_zero _ _ ∙ sym (bits_at_zero _ _)

pub returns-then-seven : goal.returns-then-seven
returns-then-seven c =
    let a = c.args in
    let k = c.loop-k.k in
    let p : 8 * c.on.result.first + c.on.result.off ≡ a.a + 56 * k = omega (arith, c.on.ensures, c.at-left.ensures) in
    let q : 8 * c.on-in-loop-k.result.first + c.on-in-loop-k.result.off ≡ a.b + 56 * k = omega (arith, c.on-in-loop-k.ensures, c.at-right.ensures) in
    let l = rw (p, c.on.ensures.0 ∙ c.at-left.ensures.0) at c.seven.ensures in
    let r = rw (q, c.on-in-loop-k.ensures.0 ∙ c.at-right.ensures.0) at c.seven-in-loop-k.ensures in
    turn_differs a.x.now a.y.now a.a a.b (56 * k) 56 a.n (omega arith) (λ e. c.if-seven.true (l ∙ e ∙ sym r))

pub loop-k-preserved : goal.loop-k-preserved
loop-k-preserved c =
    let a = c.args in
    let k = c.loop-k.k in
    let p : 8 * c.on.result.first + c.on.result.off ≡ a.a + 56 * k = omega (arith, c.on.ensures, c.at-left.ensures) in
    let q : 8 * c.on-in-loop-k.result.first + c.on-in-loop-k.result.off ≡ a.b + 56 * k = omega (arith, c.on-in-loop-k.ensures, c.at-right.ensures) in
    let l = rw (p, c.on.ensures.0 ∙ c.at-left.ensures.0) at c.seven.ensures in
    let r = rw (q, c.on-in-loop-k.ensures.0 ∙ c.at-right.ensures.0) at c.seven-in-loop-k.ensures in
    let more : 56 * k + 56 ≡ 56 * (k + 1) = omega arith in
    rw more at (turn_same a.x.now a.y.now a.a a.b (56 * k) 56 c.loop-k.invariant (sym l ∙ c.if-seven.false ∙ r))

pub returns : goal.returns
returns c =
    let a = c.args in
    let k = c.turns-whole.result in
    let end : c.loop-k.k ≡ k = omega arith in
    let p : 8 * c.on-2.result.first + c.on-2.result.off ≡ a.a + 56 * k = omega (arith, c.on-2.ensures, c.at-left.ensures) in
    let q : 8 * c.on-3.result.first + c.on-3.result.off ≡ a.b + 56 * k = omega (arith, c.on-3.ensures, c.at-right.ensures) in
    rw (p, q, c.on-2.ensures.0 ∙ c.at-left.ensures.0, c.on-3.ensures.0 ∙ c.at-right.ensures.0) at c.same_rest.ensures
    ∙ turn_last a.x.now a.y.now a.a a.b (56 * k) (a.n - 56 * k) a.n (omega arith) (rw end at c.loop-k.invariant)
