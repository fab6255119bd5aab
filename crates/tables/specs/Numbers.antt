-- Signed numbers: the larger of two, the test of an equation, and in which range a number or every number of a list lies.
-- Assumes nothing.
use Rattle.std.specs.Prelude.{ℕ, ◌<◌, ◌≤◌, suc, List, get_or, ℤ, pos, negsuc, Bool, false, cond, eqb}
use Rattle.std.specs.Int.Signed.{lt_z}

-- z is `up z` less `dn z`, and one of the two is 0
abbrev pub up : ℤ → ℕ
up (pos n) = n
up (negsuc n) = 0

abbrev pub dn : ℤ → ℕ
dn (pos n) = 0
dn (negsuc n) = suc n

-- the larger of two
abbrev pub max_z : ℤ → ℤ → ℤ
max_z a b = cond (lt_z a b) b a

-- the test of an equation
abbrev pub eq_z : ℤ → ℤ → Bool
eq_z (pos a) (pos b) = eqb a b
eq_z (pos a) (negsuc b) = false
eq_z (negsuc a) (pos b) = false
eq_z (negsuc a) (negsuc b) = eqb a b

-- −lo ≤ z ≤ hi
pub record Within (lo hi : ℕ) (z : ℤ) : Type 0 where
  pub low : dn z ≤ lo
  pub high : up z ≤ hi

-- every number of a list lies there
pub record Each (lo hi : ℕ) (l : List ℤ) : Type 0 where
  pub at : (k : ℕ) → Within lo hi (get_or l k (pos 0))

-- the first n numbers are below m
pub record Upto (m : ℕ) (l : List ℕ) (n : ℕ) : Type 0 where
  pub at : (k : ℕ) → k < n → get_or l k 0 < m
