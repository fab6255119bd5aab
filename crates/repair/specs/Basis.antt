-- Linear equations over bits: a linear map of 16-bit numbers, given by what it makes of the 16 units, and a basis of 16 places, one
-- for each leading bit, by which the number is found that the map takes to a target.
-- Assumes nothing.
use Rattle.std.specs.Prelude.{◌≡◌, ◌⊎◌, ◌≢◌, List, [], ◌∷◌, ℕ, zero, suc, ◌%◌, ◌^◌, ◌<◌, ◌≤◌, length, get_or, map}
use Rattle.std.specs.Int.Bits.{bit_xor}
use Rattle.repair.specs.declared.Made.{Made}
use Rattle.repair.specs.declared.Reduced.{Reduced}

-- L is linear, stays below 2 ^ 16 and takes nothing there but 0 to 0
pub record Linear (L : ℕ → ℕ) : Type 0 where
  pub sums : (a b : ℕ) → L (bit_xor a b) ≡ bit_xor (L a) (L b)
  pub bounded : (x : ℕ) → x < 2 ^ 16 → L x < 2 ^ 16
  pub kernel : (x : ℕ) → x < 2 ^ 16 → L x ≡ 0 → x ≡ 0

-- column i is the image of the unit 2 ^ i
abbrev pub Columns : (ℕ → ℕ) → List ℕ → Type 0
Columns L cols = (i : ℕ) → i < 16 → get_or cols i 0 ≡ L (2 ^ i)

-- what place i holds: v, which leads with bit i or is 0, and the units x whose images make it, none of them below 2 ^ m
pub record Held (L : ℕ → ℕ) (m i v x : ℕ) : Type 0 where
  pub image : v ≡ L x
  pub leads : v ≢ 0 → (2 ^ i ≤ v) × (v < 2 ^ suc i)
  pub units : x % 2 ^ m ≡ 0
  pub small : x < 2 ^ 16

-- a place that is empty, and the numbers that the places of a basis hold
abbrev pub none : Made
none = record { val = 0; comb = 0 }

abbrev pub vals : List Made → List ℕ
vals basis = map (λ (p : Made). p.val) basis

abbrev pub Places : (ℕ → ℕ) → ℕ → List Made → Type 0
Places L m basis = (i : ℕ) → i < 16 → Held L m i (get_or basis i none).val (get_or basis i none).comb

-- how many places are empty
abbrev pub empties : List ℕ → ℕ
empties [] = 0
empties (zero ∷ vals) = suc (empties vals)
empties (suc v ∷ vals) = empties vals

-- the basis where m columns are still to come: as many places are empty
pub record Filled (L : ℕ → ℕ) (m : ℕ) (basis : List Made) : Type 0 where
  pub places_length : length basis ≡ 16
  pub places : Places L m basis
  pub empty : empties (vals basis) ≡ m

-- v reduced by the places: nothing is left, or what is left leads with the bit of an empty place
pub record Reduces (L : ℕ → ℕ) (m : ℕ) (basis : List Made) (v : Made) (r : Reduced) : Type 0 where
  pub keeps : bit_xor r.left.val (L r.left.comb) ≡ bit_xor v.val (L v.comb)
  pub stops : (r.left.val ≡ 0) ⊎ (((get_or basis r.at none).val ≡ 0) × (2 ^ r.at ≤ r.left.val) × (r.left.val < 2 ^ suc r.at))
  pub units : r.left.comb % 2 ^ m ≡ v.comb % 2 ^ m
  pub small : r.left.comb < 2 ^ 16
