-- `repair::solve` meets its contract. Assumes nothing.
use Rattle.std.proofs.Common.{◌≡◌, suc, ◌-◌, subst, arith}
use Rattle.repair.specs.Basis.{Filled}
use Rattle.repair.proofs.Elimination.{filled_none, column_of, solved}
use Rattle.repair.proofs.solve.Goals as goal

pub loop-i-init : goal.loop-i-init
loop-i-init c = λ L lin cols. filled_none L lin

pub returns : goal.returns
returns c =
    let l = c.loop-i in
    let r = c.reduce in
    λ L lin cols.
    let f = l.invariant L lin cols in
    solved L lin l.i l.basis c.args.target r.result c.loop-i-test.false f r.ensures.0 (r.ensures.1 L l.i lin f.places)

pub loop-i-preserved : goal.loop-i-preserved
loop-i-preserved c =
    let a = c.args in
    let l = c.loop-i in
    let p : l.i ≡ suc (l.i - 1) = omega arith in
    λ L lin cols.
    c.insert.ensures L (l.i - 1) lin c.unit.ensures (column_of L lin a.cols.now cols (l.i - 1) c.unit.result (omega arith) c.unit.ensures)
    (subst (λ n. Filled L n l.basis) p (l.invariant L lin cols))
