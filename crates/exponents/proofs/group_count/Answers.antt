-- `exponents::group_count` meets its contract: each arm of the match is a case of the definition.
-- Assumes nothing.
use Prim.Native.Nat.{◌+◌, ◌-◌, ◌*◌}
use mathlib.Core.Path.{◌≡◌}
use native.Mathlib.Nat.{div-le_self}
use native.Mathlib.Omega.{arith}
use borrow.Author.Tests.{eq-eqb, ne_eqb}
use Rattle.exponents.specs.Set.{group_count}
use Rattle.exponents.proofs.group_count.Goals as goal

pub returns-in-5 : goal.returns-in-5
unfolding group_count
returns-in-5 c =
    let a = c.args in
    let h = div-le_self (a.end - a.start) (3 * a.g) in
    (simp (eq-eqb _ _ c.in-5.is), omega arith)

pub returns-in-6 : goal.returns-in-6
unfolding group_count
returns-in-6 c = (rw c.in-6.is, omega arith)

pub returns-in_default : goal.returns-in_default
unfolding group_count
returns-in_default c =
    let a = c.args in
    let h = div-le_self (a.end - 1 + 3 * a.g - 3) (3 * a.g) in
    let n : a.slot ≡ 5 → ⊥ = λ e. omega arith in
    let m : a.slot ≡ 6 → ⊥ = λ e. omega arith in
    (simp (ne_eqb _ _ n, ne_eqb _ _ m), omega arith)
