-- `repair::columns` meets its contract. Assumes nothing.
use Rattle.std.proofs.Common.{refl, arith}
use lib.ListN.{length-set}
use Rattle.repair.proofs.Units.{column_start, column_next, columns_next}
use Rattle.repair.proofs.columns.Goals as goal

pub loop-col-init : goal.loop-col-init
loop-col-init c = (refl, λ k h. absurd (omega arith), column_start _ _ c.zeros-c.ensures)

pub loop-col-preserved : goal.loop-col-preserved
loop-col-preserved c =
    let l = c.loop-col in
    let n = c.args.n in (
      simp length-set l.invariant.0,
      columns_next n l.col-items l.col-index l.c l.invariant.0 (omega arith) l.invariant.2 l.invariant.1,
      column_next n l.col-index l.c c.step-c.result l.invariant.2 c.step-c.ensures,
    )
