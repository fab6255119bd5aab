-- A list given by a function of the place: `table n f` is f 0, .., f (n - 1).
-- Assumes nothing.
use Rattle.std.specs.Prelude.{ℕ, suc, zero, List, [], ◌∷◌, ◌&&◌, cond, ltb, leb, replicate, ℤ, pos}

-- f i, .., n of them
unfoldable pub from : {X : Type 0} → ℕ → ℕ → (ℕ → X) → List X
from i zero f = []
from i (suc n) f = f i ∷ from (suc i) n f

abbrev pub table : {X : Type 0} → ℕ → (ℕ → X) → List X
table n f = from 0 n f

-- n numbers 0, with which an array begins
abbrev pub noughts : ℕ → List ℤ
noughts n = replicate n (pos 0)

-- the value at a place of [start, end), and z outside
unfoldable pub inside : {X : Type 0} → ℕ → ℕ → X → (ℕ → X) → ℕ → X
inside start end z f k = cond (leb start k && ltb k end) (f k) z

-- f on [start, end), and g elsewhere
unfoldable pub blend : {X : Type 0} → ℕ → ℕ → (ℕ → X) → (ℕ → X) → ℕ → X
blend start end f g k = cond (leb start k && ltb k end) (f k) (g k)
