-- Counting: what the mantissas of a list of codes cost one after the other, from no open group on, is T. T does not depend on the order
-- of the walks.
-- Assumes nothing.
use Prim.Native.Nat.{ℕ, ◌+◌, ◌*◌, ◌%◌}
use mathlib.Core.Path.{◌≡◌, refl, sym, ◌∙◌, ap}
use mathlib.Core.Logic.{∥∥₁_elim}
use mathlib.Core.Bool.{Bool, true, false, cond}
use mathlib.Core.List.{List, [], ◌∷◌, ◌++◌, Perm, Permᴰ}
use native.Mathlib.Omega.{arith}
use native.Mathlib.Nat.{mul-one, mul-zero, ℕ_set}
use borrow.Author.Tests.{eqb-true, eqb-false}
use lib.Dec.{eqb}
use Rattle.walks.specs.declared.Groups.{Groups}
use Rattle.walks.specs.Walk.{width, share, cost, counted, Reachable}
use Rattle.walks.specs.Row.{sum_of, occurs, started, bits_t, Walk, codes_of, met_of, no_groups}
use Rattle.walks.proofs.Laws.{counted_reachable}

-- what the mantissas of a list cost in order, from groups g on
unfoldable pub costs : List ℕ → Groups → ℕ
costs [] g = 0
costs (b ∷ bs) g = cost g b + costs bs (counted g b)

-- and the groups after them
unfoldable pub after : List ℕ → Groups → Groups
after [] g = g
after (b ∷ bs) g = after bs (counted g b)

pub costs_append : (xs ys : List ℕ) (g : Groups) → costs (xs ++ ys) g ≡ costs xs g + costs ys (after xs g)
unfolding costs after
costs_append [] ys g = omega arith
costs_append (x ∷ xs) ys g = omega (arith, costs_append xs ys (counted g x))

pub after_append : (xs ys : List ℕ) (g : Groups) → after (xs ++ ys) g ≡ after ys (after xs g)
unfolding after
after_append [] ys g = refl
after_append (x ∷ xs) ys g = after_append xs ys (counted g x)

pub after_reachable : (bs : List ℕ) (g : Groups) → Reachable g → Reachable (after bs g)
unfolding after
after_reachable [] g h = h
after_reachable (b ∷ bs) g h = after_reachable bs (counted g b) (counted_reachable b g h)

-- After n₁, n₂, n₄ members of codes 1, 2, 4 the groups stand at the remainders, and the started groups are paid.
abbrev groups_at : ℕ → ℕ → ℕ → Groups
groups_at n₁ n₂ n₄ = record { g1 = n₁ % 3; g2 = n₂ % 3; g4 = n₄ % 2 }

abbrev paid : ℕ → ℕ → ℕ → ℕ
paid n₁ n₂ n₄ = 5 * started 3 n₁ + 7 * started 3 n₂ + 7 * started 2 n₄

-- 1 where the code is c
abbrev hit : ℕ → ℕ → ℕ
hit c b = cond (eqb b c) 1 0

-- a code is 1, 2, 4 or none of them
data Kind (b : ℕ) : Type 0 where
  one : b ≡ 1 → Kind b
  two : b ≡ 2 → Kind b
  four : b ≡ 4 → Kind b
  other : eqb b 1 ≡ false → eqb b 2 ≡ false → eqb b 4 ≡ false → Kind b

kind : (b : ℕ) → Kind b
kind b = go (eqb b 1) (eqb b 2) (eqb b 4) refl refl refl
  where
    go : (s t u : Bool) → eqb b 1 ≡ s → eqb b 2 ≡ t → eqb b 4 ≡ u → Kind b
    go true t u p q r = one (eqb-true b 1 p)
    go false true u p q r = two (eqb-true b 2 q)
    go false false true p q r = four (eqb-true b 4 r)
    go false false false p q r = other p q r

-- a member more starts a group exactly where the groups before it are full
three_more : (n : ℕ) → share (n % 3) 1 + started 3 n ≡ started 3 (n + 1)
three_more n = go (eqb (n % 3) 0) refl
  where
    go : (t : Bool) → eqb (n % 3) 0 ≡ t → cond t 1 0 + started 3 n ≡ started 3 (n + 1)
    go true e = omega (arith, eqb-true (n % 3) 0 e)
    go false e = let h = eqb-false (n % 3) 0 e in omega arith

pair_more : (n : ℕ) → share (n % 2) 1 + started 2 n ≡ started 2 (n + 1)
pair_more n = go (eqb (n % 2) 0) refl
  where
    go : (t : Bool) → eqb (n % 2) 0 ≡ t → cond t 1 0 + started 2 n ≡ started 2 (n + 1)
    go true e = omega (arith, eqb-true (n % 2) 0 e)
    go false e = let h = eqb-false (n % 2) 0 e in omega arith

share_weighs : (n w : ℕ) → share n w ≡ w * share n 1
share_weighs n w = go (eqb n 0)
  where
    go : (t : Bool) → cond t w 0 ≡ w * cond t 1 0
    go true = sym (mul-one w)
    go false = sym (mul-zero w)

-- one mantissa costs what its count adds to the started groups, or its width
one_paid : (b n₁ n₂ n₄ : ℕ)
    → cost (groups_at n₁ n₂ n₄) b + paid n₁ n₂ n₄ ≡ paid (n₁ + hit 1 b) (n₂ + hit 2 b) (n₄ + hit 4 b) + width b
unfolding cost width
one_paid b n₁ n₂ n₄ = go (kind b)
  where
    go : Kind b → cost (groups_at n₁ n₂ n₄) b + paid n₁ n₂ n₄ ≡ paid (n₁ + hit 1 b) (n₂ + hit 2 b) (n₄ + hit 4 b) + width b
    go (one e) = rw e (omega (arith, share_weighs (n₁ % 3) 5, three_more n₁))
    go (two e) = rw e (omega (arith, share_weighs (n₂ % 3) 7, three_more n₂))
    go (four e) = rw e (omega (arith, share_weighs (n₄ % 2) 7, pair_more n₄))
    go (other p q r) = simp (p, q, r) (omega arith)

one_counted : (b n₁ n₂ n₄ : ℕ) → counted (groups_at n₁ n₂ n₄) b ≡ groups_at (n₁ + hit 1 b) (n₂ + hit 2 b) (n₄ + hit 4 b)
unfolding counted
one_counted b n₁ n₂ n₄ = go (kind b)
  where
    same : {g h : Groups} → g.g1 ≡ h.g1 → g.g2 ≡ h.g2 → g.g4 ≡ h.g4 → g ≡ h
    same p q r = λ i. record { g1 = p i; g2 = q i; g4 = r i }

    go : Kind b → counted (groups_at n₁ n₂ n₄) b ≡ groups_at (n₁ + hit 1 b) (n₂ + hit 2 b) (n₄ + hit 4 b)
    go (one e) = rw e (same (omega arith) (omega arith) (omega arith))
    go (two e) = rw e (same (omega arith) (omega arith) (omega arith))
    go (four e) = rw e (same (omega arith) (omega arith) (omega arith))
    go (other p q r) = simp (p, q, r) (same (omega arith) (omega arith) (omega arith))

costs_paid : (bs : List ℕ) (n₁ n₂ n₄ : ℕ)
    → costs bs (groups_at n₁ n₂ n₄) + paid n₁ n₂ n₄ ≡ paid (n₁ + occurs 1 bs) (n₂ + occurs 2 bs) (n₄ + occurs 4 bs) + sum_of width bs
unfolding costs sum_of
costs_paid [] n₁ n₂ n₄ = omega arith
costs_paid (b ∷ bs) n₁ n₂ n₄ =
    rw (one_counted b n₁ n₂ n₄)
    (omega (arith, one_paid b n₁ n₂ n₄, costs_paid bs (n₁ + hit 1 b) (n₂ + hit 2 b) (n₄ + hit 4 b)))

-- from no open group on, the mantissas cost T
pub costs_T : (bs : List ℕ) → costs bs no_groups ≡ bits_t bs
unfolding bits_t
costs_T bs = omega (arith, costs_paid bs 0 0 0)

-- and so T of more codes is T, and what they cost after the others
pub T-append : (bs xs : List ℕ) → bits_t (bs ++ xs) ≡ bits_t bs + costs xs (after bs no_groups)
T-append bs xs =
    sym (costs_T (bs ++ xs)) ∙ costs_append bs xs no_groups ∙ ap (λ n. n + costs xs (after bs no_groups)) (costs_T bs)

-- Order.
sum_append : (f : ℕ → ℕ) (xs ys : List ℕ) → sum_of f (xs ++ ys) ≡ sum_of f xs + sum_of f ys
unfolding sum_of
sum_append f [] ys = omega arith
sum_append f (x ∷ xs) ys = omega (arith, sum_append f xs ys)

sum_order : (f : ℕ → ℕ) {ws vs : List Walk} → Permᴰ ws vs → sum_of f (met_of ws) ≡ sum_of f (met_of vs)
unfolding met_of
sum_order f Permᴰ.nil = refl
sum_order f (Permᴰ.cons {a = w} {b = v} {l₁ = ws} {l₂ = vs} e d) =
    omega (
      arith,
      sum_append f (codes_of w) (met_of ws),
      sum_append f (codes_of v) (met_of vs),
      ap (λ (k : Walk). sum_of f (codes_of k)) e,
      sum_order f d,
    )
sum_order f (Permᴰ.swap {a = w} {b = v} {a' = w'} {b' = v'} {l = ws} e₁ e₂) =
    omega (
      arith,
      sum_append f (codes_of w) (codes_of v ++ met_of ws),
      sum_append f (codes_of v) (met_of ws),
      sum_append f (codes_of w') (codes_of v' ++ met_of ws),
      sum_append f (codes_of v') (met_of ws),
      ap (λ (k : Walk). sum_of f (codes_of k)) e₁,
      ap (λ (k : Walk). sum_of f (codes_of k)) e₂,
    )
sum_order f (Permᴰ.trans d₁ d₂) = sum_order f d₁ ∙ sum_order f d₂

T-orderᴰ : {ws vs : List Walk} → Permᴰ ws vs → bits_t (met_of ws) ≡ bits_t (met_of vs)
unfolding bits_t
T-orderᴰ d = omega (arith, sum_order (hit 1) d, sum_order (hit 2) d, sum_order (hit 4) d, sum_order width d)

-- T is the same for the walks in any order
pub T-order : (ws vs : List Walk) → Perm ws vs → bits_t (met_of ws) ≡ bits_t (met_of vs)
T-order ws vs p = ∥∥₁_elim p (ℕ_set (bits_t (met_of ws)) (bits_t (met_of vs))) T-orderᴰ
