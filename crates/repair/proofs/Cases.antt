-- Cases: two numbers are equal or not.
-- Assumes nothing.
use mathlib.Core.Path.{◌≡◌}
use mathlib.Core.Logic.{◌≢◌}
use Prim.Native.Nat.{ℕ}
use native.Mathlib.Decide.{ℕ_discrete}

pub equal_or_not : (P : Type 0) (i j : ℕ) → (i ≡ j → P) → (i ≢ j → P) → P
equal_or_not P i j f g = go (ℕ_discrete i j)
  where
    go : Dec (i ≡ j) → P
    go (yes e) = f e
    go (no n) = g n
