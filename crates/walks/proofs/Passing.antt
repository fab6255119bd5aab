-- A walk over codes of 0 to 15 that starts within its limit passes exactly if what they cost is within the limit, and then it has moved
-- by just that. A walk leaves the limit.
-- Assumes nothing.
use Prim.Native.Nat.{ℕ, ◌+◌, ◌≤◌, ◌<◌}
use mathlib.Core.Path.{◌≡◌, refl, sym, ◌∙◌, ap, subst}
use mathlib.Core.Bool.{Bool, true, false, cond}
use mathlib.Core.List.{List, [], ◌∷◌}
use native.Mathlib.Omega.{arith}
use native.Mathlib.Nat.{add-zero, add_assoc}
use native.Mathlib.Decide.{dec_le}
use lib.Dec.{eqb}
use lib.ListN.{length}
use lib.Seq.{slice}
use borrow.Author.Tests.{le-ltb}
use Rattle.refusal.specs.Refusals.{Outcome, taken, refused, refuse_if, Ran, settle, follow}
use Rattle.refusal.proofs.Laws.{never}
use Rattle.syntax.specs.declared.Place.{Place}
use Rattle.syntax.specs.Reads.{ahead}
use Rattle.walks.specs.declared.Groups.{Groups}
use Rattle.walks.specs.Walk.{State, state, going, stopped, cost, counted, passing, mantissa_of, walk_codes, unfit_walk, walk_of}
use Rattle.walks.specs.Row.{Codes}
use Rattle.walks.proofs.Laws.{mantissa_either, mantissa_past, walk_stays}
use Rattle.walks.proofs.Counting.{costs, after}

-- bits within the limit are passed
passing_within : (p : Place) (n : ℕ) → p.pos + n ≤ p.limit → passing p n ≡ taken tt
passing_within p n h = rw (le-ltb p.limit (p.pos + n) h) (go (eqb n 0))
  where
    go : (t : Bool) → ◌≡◌ {A = Outcome Unit} (cond t (taken tt) (taken tt)) (taken tt)
    go true = refl
    go false = refl

-- one mantissa, within the limit or past it
module _ (b : ℕ) (p : Place) (g : Groups) (low : b ≤ 15) where
  mantissa_within : p.pos + cost g b ≤ p.limit → mantissa_of b (state p g) ≡ going (state (ahead p (cost g b)) (counted g b))
  unfolding mantissa_of
  mantissa_within h = rw (le-ltb 15 b low, passing_within p (cost g b) h)

  mantissa_stops : p.pos ≤ p.limit → p.limit < p.pos + cost g b → mantissa_of b (state p g) ≡ stopped 1 (state p (counted g b))
  mantissa_stops h l =
      sym (mantissa_past b p g (cost g b) (counted g b) low refl refl (omega arith))

pub walk_passes : (bs : List ℕ) (p : Place) (g : Groups) → Codes bs → p.pos + costs bs g ≤ p.limit
    → walk_codes bs (going (state p g)) ≡ going (state (ahead p (costs bs g)) (after bs g))
unfolding walk_codes costs after
walk_passes [] p g low h = rw add-zero
walk_passes (b ∷ bs) p g low h =
    ap (walk_codes bs) (mantissa_within b p g low.0 (omega arith))
    ∙ walk_passes bs (ahead p (cost g b)) (counted g b) low.1 (omega arith)
    ∙ ap (λ n. going (state (record { pos = n; limit = p.limit; block = p.block; count = p.count }) (after bs (counted g b))))
    (add_assoc p.pos (cost g b) (costs bs (counted g b)))

pub walk_within : (bs : List ℕ) (p : Place) (g : Groups) → Codes bs → p.pos ≤ p.limit
    → (walk_codes bs (going (state p g))).outcome ≡ taken tt → p.pos + costs bs g ≤ p.limit
unfolding walk_codes costs
walk_within [] p g low h d = omega arith
walk_within (b ∷ bs) p g low h d =
    go (dec_le (p.pos + cost g b) p.limit) (walk_within bs (ahead p (cost g b)) (counted g b) low.1)
  where
    go : Dec (p.pos + cost g b ≤ p.limit)
        → (p.pos + cost g b ≤ p.limit → (walk_codes bs (going (state (ahead p (cost g b)) (counted g b)))).outcome ≡ taken tt
        → p.pos + cost g b + costs bs (counted g b) ≤ p.limit)
        → p.pos + (cost g b + costs bs (counted g b)) ≤ p.limit
    go (yes l) ih =
        let k = ih l (subst (λ r. (walk_codes bs r).outcome ≡ taken tt) (mantissa_within b p g low.0 l) d) in omega arith
    go (no l) ih =
        let e = mantissa_stops b p g low.0 h (omega arith) in
        never (subst (λ r. r.outcome ≡ taken tt) (walk_stays bs (stopped 1 (state p (counted g b))) refl) (subst (λ r. (walk_codes bs r).outcome ≡ taken tt) e d))

-- the limit stays, whatever the walk comes to
pub walk_limit : (bs : List ℕ) (r : Ran State Unit) → (walk_codes bs r).state.place.limit ≡ r.state.place.limit
unfolding walk_codes
walk_limit [] r = refl
walk_limit (b ∷ bs) r = walk_limit bs (follow r.outcome r.state (λ _ s. mantissa_of b s)) ∙ go r.outcome
  where
    go : (o : Outcome Unit) → (follow o r.state (λ _ s. mantissa_of b s)).state.place.limit ≡ r.state.place.limit
    go (taken u) = mantissa_either b r.state (λ s. s.place.limit ≡ r.state.place.limit) refl refl refl
    go (refused g) = refl

pub walk_of_limit : (frame : List ℕ) (p : Place) (bap : List ℕ) (start end : ℕ) (g : Groups)
    → (walk_of frame p bap start end g).state.place.limit ≡ p.limit
unfolding walk_of
walk_of_limit frame p bap start end g =
    walk_limit (slice start end bap) (settle s s (refuse_if (unfit_walk (length frame) p start end g) 6 p.pos (taken tt)))
    ∙ go (refuse_if (unfit_walk (length frame) p start end g) 6 p.pos (taken tt))
  where
    s : State
    s = state p g

    go : (o : Outcome Unit) → (settle s s o).state.place.limit ≡ p.limit
    go (taken u) = refl
    go (refused k) = refl
