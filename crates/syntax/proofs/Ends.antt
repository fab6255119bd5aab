-- The ends of a read, a span, a closing and the sticky reader: what each comes to once its tests are known.
-- Assumes nothing.
use Prim.Native.Nat.{ℕ, ◌+◌, ◌-◌, ◌≤◌}
use mathlib.Core.Path.{◌≡◌, refl, sym, ap, ◌∙◌}
use mathlib.Core.List.{List}
use mathlib.Core.Bool.{Bool, true, false, cond}
use lib.ListN.{length}
use lib.Dec.{ltb}
use borrow.Author.Tests.{le-ltb}
use Rattle.refusal.specs.Refusals.{Grounds, Outcome, taken, refused, and_then, Ran, settle, follow, then_run}
use Rattle.refusal.proofs.Laws.{never, settle_moves, run_stops}
use Rattle.bits.specs.Bits.{bits_at}
use Rattle.syntax.specs.declared.Role.{Role}
use Rattle.syntax.specs.declared.Ask.{Ask}
use Rattle.syntax.specs.Reads.{Standing, fits, element_of, logged, read_of, span_ask, span_of, closes, close_of, next_of}
use Rattle.refusal.proofs.TestLaws.{clash}

module _ {S A : Type 0} (s s' : S) where
  -- a test, and then tests that give no value
  then_taken : (test : Bool) (g : Grounds) (o : Outcome Unit) (v : A) → test ≡ false → o ≡ taken tt
      → settle s s' (cond test (refused g) (and_then o (λ _. taken v))) ≡ record { outcome = taken v; state = s' }
  then_taken true g o v e f = clash e
  then_taken false g (taken x) v e f = refl
  then_taken false g (refused h) v e f = never f

-- a read that is taken, whose width is at most 32
module _ (frame : List ℕ) (st : Standing) (a : Ask) (narrow : a.width ≤ 32) where
  pub read_on_lem : (v : ℕ) → v ≡ bits_at frame st.place.pos a.width
      → fits (length frame) (length st.log) st.place a.width ≡ taken tt
      → ◌≡◌ {A = Ran Standing ℕ} (record { outcome = taken v; state = logged st (element_of st.place st.place.pos a v) (st.place.pos + a.width) })
      (read_of frame st a)
  unfolding read_of
  read_on_lem v e f = rw e (sym (then_taken _ _ (ltb 32 a.width) _ (fits (length frame) (length st.log) st.place a.width) _ (le-ltb 32 a.width narrow) f))

-- a span that is taken
module _ (len : ℕ) (st : Standing) (name : ℕ) (role : Role) (width : ℕ) where
  pub span_on : fits len (length st.log) st.place width ≡ taken tt
      → ◌≡◌ {A = Ran Standing Unit} (record { outcome = taken tt; state = logged st (element_of st.place st.place.pos (span_ask name role width) 0) (st.place.pos + width) })
      (span_of len st name role width)
  unfolding span_of
  span_on f = sym (settle_moves _ _ (fits len (length st.log) st.place width) f)

-- and a closing
module _ (len : ℕ) (st : Standing) (name : ℕ) (role : Role) (start : ℕ) where
  pub close_on : (next : ℕ) → next ≡ st.place.pos → closes len (length st.log) st.place start ≡ taken tt
      → ◌≡◌ {A = Ran Standing Unit}
      (record { outcome = taken tt; state = logged st (element_of st.place start (span_ask name role (st.place.pos - start)) 0) next })
      (close_of len st name role start)
  unfolding close_of
  close_on next e f = rw e (sym (settle_moves _ _ (closes len (length st.log) st.place start) f))

-- the sticky reader: one that was taken reads on, one that is refused stays
module _ (frame : List ℕ) (a : Ask) where
  pub next_is : (r : Ran Standing ℕ) → next_of frame a r ≡ then_run r (λ _ st. read_of frame st a)
  unfolding next_of
  next_is r = refl

  pub next_on : (r : Ran Standing ℕ) {v : ℕ} → r.outcome ≡ taken v → next_of frame a r ≡ read_of frame r.state a
  unfolding next_of
  next_on r e = ap (λ o. follow o r.state (λ _ st. read_of frame st a)) e

  pub next_stops : (r : Ran Standing ℕ) {g : Grounds} → r.outcome ≡ refused g
      → ◌≡◌ {A = Ran Standing ℕ} (record { outcome = refused g; state = r.state }) (next_of frame a r)
  unfolding next_of
  next_stops r e = run_stops (λ _ st. read_of frame st a) refl e

  pub next_stays : (r : Ran Standing ℕ) {g : Grounds} → r.outcome ≡ refused g → next_of frame a r ≡ r
  next_stays r e = sym (next_stops r e) ∙ ap {B = Ran Standing ℕ} (λ o. record { outcome = o; state = r.state }) (sym e)

-- an element that is asked for by an equal ask
pub asked : (frame : List ℕ) (q : Ran Standing ℕ) {x y : Ask} {p : Ran Standing ℕ} → x ≡ y → p ≡ next_of frame x q → p ≡ next_of frame y q
asked frame q {x} {y} {p} e f = f ∙ ap (λ (z : Ask). next_of frame z q) e
