-- `repair::solve` meets its contract. The loop's invariant: for each map that has these columns, the basis with i of them to come.
-- Assumes nothing.
use Rattle.std.proofs.Common.{ℕ}
use Rattle.repair.specs.Basis.{Linear, Columns, Filled}
use Rattle.repair.proofs.solve.Given as goal

abbrev pub invariant-loop-i : goal.invariant-loop-i
invariant-loop-i l = (L : ℕ → ℕ) → Linear L → Columns L l.cols → Filled L l.i l.basis
