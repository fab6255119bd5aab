-- The tests before an element is logged: what is known where they are passed, that what is known passes them, and which refusals
-- can come.
-- Assumes nothing.
use Prim.Native.Nat.{ℕ, ◌+◌, ◌*◌, ◌≤◌, ◌<◌}
use mathlib.Core.Path.{◌≡◌, refl, sym, ap}
use mathlib.Core.List.{List, [], ◌∷◌}
use mathlib.Core.Bool.{Bool, true, false, cond, ◌||◌}
use mathlib.Core.Logic.{inl, inr}
use native.Mathlib.Omega.{arith}
use lib.Dec.{ltb, eqb}
use borrow.Author.Tests.{ltb-false, eqb-false, le-ltb, ne_eqb}
use types.Run.{OneOf}
use Rattle.refusal.specs.Refusals.{Grounds, Outcome, taken, refused}
use Rattle.refusal.proofs.Laws.{never, past_test}
use Rattle.syntax.specs.declared.Place.{Place}
use Rattle.syntax.specs.Reads.{room, unsound, fits, closes}
use Rattle.refusal.proofs.TestLaws.{or_false}

-- a sound cursor
pub sound_limit : (len : ℕ) (p : Place) → unsound len p ≡ false → (p.limit ≤ 32768) × (p.limit ≤ 8 * len)
sound_limit len p e =
    let a = or_false (ltb 32768 p.limit) _ e in (ltb-false 32768 p.limit a.0, ltb-false (8 * len) p.limit a.1)

pub limit_sound : (len : ℕ) (p : Place) → p.limit ≤ 32768 → p.limit ≤ 8 * len → unsound len p ≡ false
limit_sound len p s h = simp (le-ltb 32768 p.limit s, le-ltb (8 * len) p.limit h)

-- what is known where an element from bit start to bit end is logged
pub record Free (len words : ℕ) (p : Place) (start end : ℕ) : Type 0 where
  pub short : p.limit ≤ 32768
  pub held : p.limit ≤ 8 * len
  pub room_left : p.count < room words
  pub ordered : start ≤ end
  pub within : end ≤ p.limit

-- the room in words
pub room_words : (words count : ℕ) → count < room words → (count < 4096) × (8 * count + 8 ≤ words)
room_words words count h = omega arith

module _ (len words : ℕ) (p : Place) (width : ℕ) where
  -- an element from the cursor on
  fits_passed : fits len words p width ≡ taken tt → (a b c : Bool) → (unsound len p || ltb (room words) p.count) ≡ a
      → ltb p.limit (p.pos + width) ≡ b → eqb p.count (room words) ≡ c → (a ≡ false) × ((b ≡ false) × (c ≡ false))
  unfolding fits
  fits_passed e true b c x y z = never (simp x at e)
  fits_passed e false true true x y z = never (simp (x, y, z) at e)
  fits_passed e false true false x y z = never (simp (x, y, z) at e)
  fits_passed e false false true x y z = never (simp (x, y, z) at e)
  fits_passed e false false false x y z = (refl, (refl, refl))

  pub fits_free : fits len words p width ≡ taken tt → Free len words p p.pos (p.pos + width)
  fits_free e =
      let t = fits_passed e _ _ _ refl refl refl in
      let u = or_false (unsound len p) _ t.0 in
      let s = sound_limit len p u.0 in
      let m = ltb-false (room words) p.count u.1 in
      let n = eqb-false p.count (room words) t.1.1 in
      record { short = s.0; held = s.1; room_left = omega arith; ordered = omega arith; within = ltb-false p.limit (p.pos + width) t.1.0 }

  pub free_fits : Free len words p p.pos (p.pos + width) → fits len words p width ≡ taken tt
  unfolding fits
  free_fits f =
      let m : p.count ≤ room words = omega (arith, f.room_left) in
      simp (
        limit_sound len p f.short f.held,
        le-ltb (room words) p.count m,
        le-ltb p.limit (p.pos + width) f.within,
        ne_eqb p.count (room words) (λ e. omega (arith, f.room_left)),
      )

module _ (len words : ℕ) (p : Place) (start : ℕ) where
  -- a span that ends at the cursor
  pub closes_free : closes len words p start ≡ taken tt → Free len words p start p.pos
  unfolding closes
  closes_free e =
      let a = past_test (unsound len p || ltb (room words) p.count || ltb p.pos start || ltb p.limit p.pos) _ _ e in
      let c = past_test (eqb p.count (room words)) _ _ a.1 in
      let l = or_false (unsound len p || ltb (room words) p.count || ltb p.pos start) _ a.0 in
      let f = or_false (unsound len p || ltb (room words) p.count) _ l.0 in
      let u = or_false (unsound len p) _ f.0 in
      let s = sound_limit len p u.0 in
      let m = ltb-false (room words) p.count u.1 in
      let n = eqb-false p.count (room words) c.0 in
      record {
        short = s.0;
        held = s.1;
        room_left = omega arith;
        ordered = ltb-false p.pos start f.1;
        within = ltb-false p.limit p.pos l.1;
      }

  pub free_closes : Free len words p start p.pos → closes len words p start ≡ taken tt
  unfolding closes
  free_closes f =
      let m : p.count ≤ room words = omega (arith, f.room_left) in
      simp (
        limit_sound len p f.short f.held,
        le-ltb (room words) p.count m,
        le-ltb p.pos start f.ordered,
        le-ltb p.limit p.pos f.within,
        ne_eqb p.count (room words) (λ e. omega (arith, f.room_left)),
      )

-- a refusal at a bit, by one of some numbers
pub record Told (ks : List ℕ) (bit : ℕ) (g : Grounds) : Type 0 where
  pub number : OneOf ks g.number
  pub at : g.bit ≡ bit

-- the refusal that is told
told_is : {A : Type 0} (ks : List ℕ) (h g : Grounds) → ◌≡◌ {A = Outcome A} (refused h) (refused g) → OneOf ks h.number → Told ks h.bit g
told_is ks h g e n = let s : h ≡ g = cc in record { number = rw (← s) n; at = ap (λ (x : Grounds). x.bit) (sym s) }

-- comes from the test in front, or from those after it
pub told_first : {A : Type 0} (ks : List ℕ) (test : Bool) (h : Grounds) (next : Outcome A) {g : Grounds} → cond test (refused h) next ≡ refused g
    → OneOf ks h.number → (next ≡ refused g → Told ks h.bit g) → Told ks h.bit g
told_first ks true h next e n f = told_is ks h _ e n
told_first ks false h next e n f = f e

-- an element from the cursor on tells 6, 1 or 19 at the cursor's bit
fits_tells : (len words : ℕ) (p : Place) (width : ℕ) {g : Grounds} → fits len words p width ≡ refused g
    → (a b c : Bool) → (unsound len p || ltb (room words) p.count) ≡ a → ltb p.limit (p.pos + width) ≡ b
    → eqb p.count (room words) ≡ c → Told (6 ∷ 1 ∷ 19 ∷ []) p.pos g
unfolding fits
fits_tells len words p width e true b c x y z = told_is (6 ∷ 1 ∷ 19 ∷ []) _ _ (simp x at e) (inl refl)
fits_tells len words p width e false true true x y z = told_is (6 ∷ 1 ∷ 19 ∷ []) _ _ (simp (x, y, z) at e) (search (inl, inr))
fits_tells len words p width e false true false x y z = told_is (6 ∷ 1 ∷ 19 ∷ []) _ _ (simp (x, y, z) at e) (search (inl, inr))
fits_tells len words p width e false false true x y z = told_is (6 ∷ 1 ∷ 19 ∷ []) _ _ (simp (x, y, z) at e) (search (inl, inr))
fits_tells len words p width e false false false x y z = never (sym (simp (x, y, z) at e))

pub fits_told : (len words : ℕ) (p : Place) (width : ℕ) {g : Grounds} → fits len words p width ≡ refused g → Told (6 ∷ 1 ∷ 19 ∷ []) p.pos g
fits_told len words p width e = fits_tells len words p width e _ _ _ refl refl refl

-- a span that ends at the cursor tells 6 or 19
pub closes_told : (len words : ℕ) (p : Place) (start : ℕ) {g : Grounds} → closes len words p start ≡ refused g → Told (6 ∷ 19 ∷ []) p.pos g
unfolding closes
closes_told len words p start e =
    told_first (6 ∷ 19 ∷ []) (unsound len p || ltb (room words) p.count || ltb p.pos start || ltb p.limit p.pos) _ _ e (inl refl)
    (λ r. told_first (6 ∷ 19 ∷ []) (eqb p.count (room words)) _ _ r (inr refl) (λ n. never (sym n)))
