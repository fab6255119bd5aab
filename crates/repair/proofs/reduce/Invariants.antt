-- `repair::reduce` meets its contract. The loop's invariant: for each linear map, what the reduction keeps on its way down.
-- Assumes nothing.
use Rattle.std.proofs.Common.{ℕ}
use Rattle.repair.specs.Basis.{Linear, Places}
use Rattle.repair.proofs.Elimination.{Falling}
use Rattle.repair.proofs.reduce.Given as goal

abbrev pub invariant-loop-at : goal.invariant-loop-at
invariant-loop-at l =
    (L : ℕ → ℕ) (m : ℕ) → Linear L → Places L m l.basis → Falling L m l.fn.v.val l.fn.v.comb l.at l.left.val l.left.comb
