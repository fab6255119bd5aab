-- Laws of the walk: what each case of a mantissa comes to, that a refused walk stays, one turn of the loop over the bins, and what the
-- tests of the arguments say.
-- Assumes nothing.
use Prim.Native.Nat.{ℕ, ◌+◌, ◌-◌, ◌%◌, ◌≤◌, ◌<◌}
use mathlib.Core.Path.{◌≡◌, refl, sym, ◌∙◌, ap}
use mathlib.Core.Bool.{Bool, true, false, cond}
use mathlib.Core.List.{List, [], ◌∷◌}
use native.Mathlib.Omega.{arith}
use native.Mathlib.Nat.{add-zero}
use native.Mathlib.Numerals.{add-one}
use lib.Dec.{eqb, ltb}
use lib.ListN.{length, get_or, drop, drop_of_length-le}
use lib.Seq.{slice, drop-cons}
use borrow.Author.Tests.{ltb-false, lt-ltb, le-ltb, eqb-false, ne_eqb}
use Rattle.refusal.specs.Refusals.{Grounds, Outcome, taken, refused, refuse_if, past_limit, Ran, settle, then_run}
use Rattle.refusal.proofs.Laws.{run_stays}
use Rattle.syntax.specs.declared.Place.{Place}
use Rattle.syntax.specs.Reads.{ahead}
use Rattle.refusal.proofs.TestLaws.{or_false}
use Rattle.walks.specs.declared.Groups.{Groups}
use Rattle.walks.specs.Walk.{State, state, going, stopped, width, cost, counted, passing, moving_of, mantissa_of, walk_codes, unfit_walk, walk_of, Reachable}

-- the cases of a mantissa
module _ (b : ℕ) (p : Place) (g : Groups) where
  pub mantissa_above : 15 < b → stopped 13 (state p g) ≡ mantissa_of b (state p g)
  unfolding mantissa_of
  mantissa_above h = rw (lt-ltb 15 b h)

  -- code 0 takes no bits and is in no group
  pub mantissa_none : b ≡ 0 → going (state p g) ≡ mantissa_of b (state p g)
  unfolding mantissa_of cost counted width
  mantissa_none z = rw (z, add-zero)

  module _ (n : ℕ) (h : Groups) (low : b ≤ 15) (c : n ≡ cost g b) (e : h ≡ counted g b) where
    -- more bits than there are up to the limit, which are none past it
    pub mantissa_past : p.limit - p.pos < n → stopped 1 (state p h) ≡ mantissa_of b (state p g)
    unfolding mantissa_of
    mantissa_past l = rw (le-ltb 15 b low, ← c, ← e, ne_eqb n 0 (λ z. omega (arith, z, l)), lt-ltb p.limit (p.pos + n) (omega arith))

    pub mantissa_on_lem : n ≤ p.limit - p.pos → going (state (ahead p n) h) ≡ mantissa_of b (state p g)
    unfolding mantissa_of
    mantissa_on_lem l = rw (le-ltb 15 b low, ← c, ← e) (go (eqb n 0) refl)
      where
        go : (u : Bool) → eqb n 0 ≡ u
            → going (state (ahead p n) h) ≡ settle (state p h) (state (ahead p n) h) (cond u (taken tt) (past_limit (p.pos + n) p.limit p.pos (taken tt)))
        go true z = refl
        go false z = rw (le-ltb p.limit (p.pos + n) (let y = eqb-false n 0 z in omega arith))

-- how many members groups that a walk can leave have at most
pub groups_say : (g : Groups) → Reachable g → (g.g1 ≤ 2) × (g.g2 ≤ 2) × (g.g4 ≤ 1)
groups_say g e =
    let t = or_false (ltb 2 g.g1) _ e in
    let u = or_false (ltb 2 g.g2) _ t.1 in
    (ltb-false 2 g.g1 t.0, ltb-false 2 g.g2 u.0, ltb-false 1 g.g4 u.1)

groups_pass : (n₁ n₂ n₄ : ℕ) → n₁ ≤ 2 → n₂ ≤ 2 → n₄ ≤ 1 → Reachable (record { g1 = n₁; g2 = n₂; g4 = n₄ })
groups_pass n₁ n₂ n₄ a b c = rw (le-ltb 2 n₁ a, le-ltb 2 n₂ b, le-ltb 1 n₄ c)

-- counting leaves such groups
pub counted_reachable : (b : ℕ) (g : Groups) → Reachable g → Reachable (counted g b)
unfolding counted
counted_reachable b g h = go (eqb b 1) (eqb b 2) (eqb b 4)
  where
    s : (g.g1 ≤ 2) × (g.g2 ≤ 2) × (g.g4 ≤ 1)
    s = groups_say g h

    go : (t₁ t₂ t₄ : Bool)
        → Reachable
        (cond t₁ (record { g1 = (g.g1 + 1) % 3; g2 = g.g2; g4 = g.g4 })
        (cond t₂ (record { g1 = g.g1; g2 = (g.g2 + 1) % 3; g4 = g.g4 })
        (cond t₄ (record { g1 = g.g1; g2 = g.g2; g4 = (g.g4 + 1) % 2 })
        g)))
    go true t₂ t₄ = groups_pass ((g.g1 + 1) % 3) g.g2 g.g4 (omega arith) s.1 s.2
    go false true t₄ = groups_pass g.g1 ((g.g2 + 1) % 3) g.g4 s.0 (omega arith) s.2
    go false false true = groups_pass g.g1 g.g2 ((g.g4 + 1) % 2) s.0 s.1 (omega arith)
    go false false false = h

-- what holds of a state, of it with the mantissa counted, and then also moved over, holds after a mantissa
pub mantissa_either : (b : ℕ) (s : State) (P : State → Type 0) → P s → P (state s.place (counted s.groups b))
    → P (state (ahead s.place (cost s.groups b)) (counted s.groups b)) → P (mantissa_of b s).state
unfolding mantissa_of
mantissa_either b s P h i j = counts (refuse_if (ltb 15 b) 13 s.place.pos (taken tt))
  where
    g : Groups
    g = counted s.groups b

    moves : (o : Outcome Unit) → P (settle (state s.place g) (state (ahead s.place (cost s.groups b)) g) o).state
    moves (taken u) = j
    moves (refused k) = i

    counts : (o : Outcome Unit) → P (then_run (settle s (state s.place g) o) (λ _ t. moving_of (cost s.groups b) t)).state
    counts (taken u) = moves (passing s.place (cost s.groups b))
    counts (refused k) = h

-- a refused walk stays as it is
pub walk_stays : (bs : List ℕ) (r : Ran State Unit) {g : Grounds} → r.outcome ≡ refused g → walk_codes bs r ≡ r
unfolding walk_codes
walk_stays [] r e = refl
walk_stays (b ∷ bs) r e = ap (walk_codes bs) (sym (run_stays (λ _ s. mantissa_of b s) refl e)) ∙ walk_stays bs r e

-- one turn: r is what the mantissa of bin i comes to
module _ (bap : List ℕ) (i : ℕ) (s : State) (r : Ran State Unit) (below : i < length bap) (is : r ≡ mantissa_of (get_or bap i 0) s) where
  walk_one : walk_codes (drop i bap) (going s) ≡ walk_codes (drop (i + 1) bap) r
  unfolding walk_codes
  walk_one = rw (add-one, drop-cons bap i 0, is)

  -- it goes on
  pub walk_on_lem : r.outcome ≡ taken tt → walk_codes (drop (i + 1) bap) (going r.state) ≡ walk_codes (drop i bap) (going s)
  walk_on_lem e = sym (walk_one ∙ ap (λ o. walk_codes (drop (i + 1) bap) (record { outcome = o; state = r.state })) e)

  -- or it ends here
  pub walk_ends : {g : Grounds} → r.outcome ≡ refused g → r ≡ walk_codes (drop i bap) (going s)
  walk_ends e = sym (walk_one ∙ walk_stays (drop (i + 1) bap) r e)

pub walk_empty : (bap : List ℕ) (i : ℕ) (r : Ran State Unit) → length bap ≤ i → walk_codes (drop i bap) r ≡ r
unfolding walk_codes
walk_empty bap i r h = rw (drop_of_length-le bap h)

module _ (frame : List ℕ) (p : Place) (bap : List ℕ) (start end : ℕ) (g : Groups) where
  -- the two ways of a walk
  pub walk_unfit : unfit_walk (length frame) p start end g ≡ true → stopped 6 (state p g) ≡ walk_of frame p bap start end g
  unfolding walk_of
  walk_unfit e = rw e (sym (walk_stays (slice start end bap) (stopped 6 (state p g)) refl))

  pub walk_fit : unfit_walk (length frame) p start end g ≡ false → walk_codes (slice start end bap) (going (state p g)) ≡ walk_of frame p bap start end g
  unfolding walk_of
  walk_fit e = rw e
