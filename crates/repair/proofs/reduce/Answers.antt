-- `repair::reduce` meets its contract. Assumes nothing.
use Rattle.std.proofs.Common.{◌≡◌, ℕ, suc, ◌-◌, ◌<◌, arith, rules}
use Rattle.repair.proofs.Elimination.{fall_end, fall_pass, fall_stop, fall_take}
use Rattle.repair.proofs.reduce.Goals as goal

pred_of : (i : ℕ) → 0 < i → i ≡ suc (i - 1)
pred_of i h = omega arith

pub returns-then-held-eq0 : goal.returns-then-held-eq0
returns-then-held-eq0 c =
    let l = c.loop-at in (
      search rules,
      λ L m lin held.
          fall_stop L m _ _ l.at _ _ l.left.val l.left.comb (pred_of l.at c.loop-at-test.true) c.unit.ensures (l.invariant L m lin held)
          c.args.basis.now c.if-unit-left.true c.if-held-eq0.true,
    )

pub loop-at-preserved-then-unit-left : goal.loop-at-preserved-then-unit-left
loop-at-preserved-then-unit-left c =
    let l = c.loop-at in
    λ L m lin held.
    fall_take L m _ _ l.at _ _ l.left.val l.left.comb (pred_of l.at c.loop-at-test.true) c.unit.ensures (l.invariant L m lin held)
    c.args.basis.now lin held (omega arith) c.if-unit-left.true c.if-held-eq0.false

pub loop-at-preserved : goal.loop-at-preserved
loop-at-preserved c =
    let l = c.loop-at in
    λ L m lin held.
    fall_pass L m _ _ l.at _ _ l.left.val l.left.comb (pred_of l.at c.loop-at-test.true) c.unit.ensures (l.invariant L m lin held) c.if-unit-left.false

pub returns : goal.returns
returns c =
    let l = c.loop-at in
    (search rules, λ L m lin held. fall_end L m _ _ _ l.at l.left.val l.left.comb c.loop-at-test.false (l.invariant L m lin held))
