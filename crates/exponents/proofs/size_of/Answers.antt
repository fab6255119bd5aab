-- `exponents::size_of` meets its contract: each arm of the match is a case of the definition.
-- Assumes nothing.
use mathlib.Core.Path.{◌≡◌, refl}
use native.Mathlib.Omega.{arith}
use Rattle.exponents.specs.Set.{size_of}
use Rattle.exponents.proofs.size_of.Goals as goal

pub returns-in-1 : goal.returns-in-1
unfolding size_of
returns-in-1 c = rw c.in-1.is (refl, omega arith, omega arith)

pub returns-in-2 : goal.returns-in-2
unfolding size_of
returns-in-2 c = rw c.in-2.is (refl, omega arith, omega arith)

pub returns-in_default : goal.returns-in_default
unfolding size_of
returns-in_default c =
    let e : c.args.strategy ≡ 3 = omega arith in
    rw e (refl, omega arith, omega arith)
