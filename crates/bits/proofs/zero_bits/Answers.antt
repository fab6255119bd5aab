-- `bits::zero_bits` meets its contract: it compares with no bytes, whose bits are all 0. The invariant: the first k words are equal.
-- Assumes nothing.
use mathlib.Core.Path.{◌≡◌, ◌∙◌, sym, ap}
use mathlib.Core.List.{[]}
use Prim.Native.Nat.{ℕ, ◌+◌, ◌*◌, ◌/◌, ◌%◌}
use lib.Dec.{eqb}
use Rattle.bits.specs.Bits.{bits_at}
use Rattle.bits.proofs.Laws.{bits_at_zero}
use Rattle.bits.proofs.SameLaws.{bits_at_none, turn_same, turn_differs, turn_last}
use native.Mathlib.Omega.{arith}
use Rattle.bits.proofs.zero_bits.Goals as goal

pub loop-k-init : goal.loop-k-init
loop-k-init c = bits_at_zero _ _ ∙ sym (bits_at_zero _ _)

pub returns-then-word-ne0 : goal.returns-then-word-ne0
returns-then-word-ne0 c =
    let a = c.args in
    let k = c.loop-k.k in
    let p : 8 * c.on.result.first + c.on.result.off ≡ a.a + 32 * k = omega (arith, c.on.ensures, c.at-spot.ensures) in
    let l = rw (p, c.on.ensures.0 ∙ c.at-spot.ensures.0) at c.word.ensures in
    turn_differs a.x.now [] a.a 0 (32 * k) 32 a.n (omega arith) (λ e. c.if-word-ne0.true (l ∙ e ∙ bits_at_none _ _))
    ∙ ap (eqb (bits_at a.x.now a.a a.n)) (bits_at_none 0 a.n)

pub loop-k-preserved : goal.loop-k-preserved
loop-k-preserved c =
    let a = c.args in
    let k = c.loop-k.k in
    let p : 8 * c.on.result.first + c.on.result.off ≡ a.a + 32 * k = omega (arith, c.on.ensures, c.at-spot.ensures) in
    let l = rw (p, c.on.ensures.0 ∙ c.at-spot.ensures.0) at c.word.ensures in
    let more : 32 * k + 32 ≡ 32 * (k + 1) = omega arith in
    rw more at (turn_same a.x.now [] a.a 0 (32 * k) 32 c.loop-k.invariant (sym l ∙ c.if-word-ne0.false ∙ sym (bits_at_none _ _)))

pub returns : goal.returns
returns c =
    let a = c.args in
    let k = a.n / 32 in
    let end : c.loop-k.k ≡ k = omega arith in
    let p : 8 * c.on-2.result.first + c.on-2.result.off ≡ a.a + 32 * k = omega (arith, c.on-2.ensures, c.at-spot.ensures) in
    let l = rw (p, c.on-2.ensures.0 ∙ c.at-spot.ensures.0) at c.word-2.ensures in
    ap (λ (v : ℕ). eqb v 0) l
    ∙ ap (eqb (bits_at a.x.now (a.a + 32 * k) (a.n % 32))) (sym (bits_at_none (0 + 32 * k) (a.n % 32)))
    ∙ turn_last a.x.now [] a.a 0 (32 * k) (a.n % 32) a.n (omega arith) (rw end at c.loop-k.invariant)
    ∙ ap (eqb (bits_at a.x.now a.a a.n)) (bits_at_none 0 a.n)
