-- Calls over a cursor, one after another: what is done with what the first comes to.
-- Assumes nothing.
use Prim.Native.Nat.{ℕ}
use mathlib.Core.Path.{◌≡◌, ap, ◌∙◌}
use mathlib.Core.List.{List}
use Rattle.refusal.specs.Refusals.{Grounds, Outcome, taken, refused, Ran, ends, then_run}
use Rattle.syntax.specs.declared.Ask.{Ask}
use Rattle.syntax.specs.declared.cursor.Cursor.{Cursor}
use Rattle.syntax.specs.Reads.{Standing, standing}
use Rattle.syntax.specs.Cursors.{Held, held_of, over, read_at}

pub held_along : {A B : Type 0} (c₀ : Cursor) (r : Ran Standing A) (f : List ℕ → Ran Standing A → Ran Standing B) {o : Outcome A} {c : Cursor} {log : List ℕ}
    → held_of o c log ≡ over c₀ r → over c (f c.bytes.now (ends (standing c.place log) o)) ≡ over c₀ (f c₀.bytes.now r)
held_along {A} {B} c₀ r f {o} {c} {log} e = λ i. over (record { bytes = same i; place = c.place }) (f (same i).now (was i))
  where
    was : ends (standing c.place log) o ≡ r
    was = ap {B = Ran Standing A} (λ (h : Ran Held A). ends (standing h.state.cursor.place h.state.log) h.outcome) e

    same : c.bytes ≡ c₀.bytes
    same = ap (λ (h : Ran Held A). h.state.cursor.bytes) e

-- what follows a call: a refusal is passed on
module _ {A B : Type 0} (c₀ : Cursor) (r : Ran Standing A) (next : List ℕ → A → Standing → Ran Standing B) {c : Cursor} {log : List ℕ} where
  pub held_stops : {x : Grounds} → held_of {A = A} (refused x) c log ≡ over c₀ r → held_of {A = B} (refused x) c log ≡ over c₀ (then_run r (next c₀.bytes.now))
  held_stops e = held_along c₀ r (λ frame q. then_run q (next frame)) e

  pub held_on : {a : A} → held_of (taken a) c log ≡ over c₀ r
      → over c (next c.bytes.now a (standing c.place log)) ≡ over c₀ (then_run r (next c₀.bytes.now))
  held_on e = held_along c₀ r (λ frame q. then_run q (next frame)) e

-- a read by the ask that is meant
pub read_asked : (c₀ : Cursor) (log₀ : List ℕ) {a b : Ask} → a ≡ b → {o : Outcome ℕ} {c : Cursor} {log : List ℕ}
    → held_of o c log ≡ read_at c₀ log₀ a → held_of o c log ≡ read_at c₀ log₀ b
read_asked c₀ log₀ p e = e ∙ ap (read_at c₀ log₀) p
