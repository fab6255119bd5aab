-- `bits::same_rest` meets its contract: the first 32 bits, and then what is left.
-- Assumes nothing.
use mathlib.Core.Path.{◌≡◌, ◌∙◌, sym}
use Prim.Native.Nat.{◌+◌, ◌-◌, ◌*◌}
use borrow.Author.Tests.{eqb-true, eqb-false}
use Rattle.bits.proofs.SameLaws.{turn_differs, turn_last}
use native.Mathlib.Omega.{arith}
use Rattle.bits.proofs.same_rest.Goals as goal

pub returns-then-same_word : goal.returns-then-same_word
returns-then-same_word c =
    let x = c.args.x in
    let y = c.args.y in
    let p : 8 * c.on.result.first + c.on.result.off ≡ 8 * x.first + x.off + 32 = omega (arith, c.on.ensures) in
    let q : 8 * c.on-then-same_word.result.first + c.on-then-same_word.result.off ≡ 8 * y.first + y.off + 32 = omega (arith, c.on-then-same_word.ensures) in
    let front = eqb-true _ _ (sym c.same_word-2.ensures ∙ c.if-same_word.true) in
    rw (p, q, c.on.ensures.0, c.on-then-same_word.ensures.0) at c.same_word-then-same_word.ensures
    ∙ turn_last x.bytes.now y.bytes.now (8 * x.first + x.off) (8 * y.first + y.off) 32 (c.args.n - 32) c.args.n (omega arith) front

pub returns-else-same_word : goal.returns-else-same_word
returns-else-same_word c =
    let x = c.args.x in
    let y = c.args.y in
    let p : 8 * x.first + x.off + 0 ≡ 8 * x.first + x.off = omega arith in
    let q : 8 * y.first + y.off + 0 ≡ 8 * y.first + y.off = omega arith in
    c.if-same_word.false ∙ turn_differs x.bytes.now y.bytes.now (8 * x.first + x.off) (8 * y.first + y.off) 0 32 c.args.n (omega arith)
    (rw (p, q) (eqb-false _ _ (sym c.same_word-2.ensures ∙ c.if-same_word.false)))
