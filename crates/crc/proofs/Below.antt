-- A test that passes at each number below n, carried to each of them.
-- Assumes nothing.
use mathlib.Core.Path.{◌≡◌, refl, ap, sym, ◌∙◌}
use mathlib.Core.Bool.{Bool, true, false, ◌&&◌}
use Prim.Native.Nat.{ℕ, zero, suc, ◌+◌, ◌<◌}
use native.Mathlib.Nat.{add-zero, zero-add, add-suc, suc-add, le_of_suc-le-suc, not-suc-le-zero}
use Rattle.crc.specs.Table.{all}

left : (a b : Bool) → a && b ≡ true → a ≡ true
left true b e = refl
left false b e = e

right : (a b : Bool) → a && b ≡ true → b ≡ true
right true b e = e
right false true e = refl
right false false e = e

each : (f : ℕ → Bool) (n i : ℕ) → all f n i ≡ true → (k : ℕ) → k < n → f (i + k) ≡ true
each f zero i e k h = absurd (not-suc-le-zero h)
each f (suc n) i e zero h = ap f (add-zero i) ∙ left (f i) (all f n (suc i)) e
each f (suc n) i e (suc k) h = ap f (add-suc i k ∙ sym (suc-add i k)) ∙ each f n (suc i) (right (f i) (all f n (suc i)) e) k (le_of_suc-le-suc h)

-- what one computed test shows of the numbers below n together holds of each
pub below : (f : ℕ → Bool) (n : ℕ) → all f n 0 ≡ true → (k : ℕ) → k < n → f k ≡ true
below f n e k h = ap f (sym (zero-add k)) ∙ each f n 0 e k h
