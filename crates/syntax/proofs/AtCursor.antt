-- A read at a cursor is the sticky reader's, over the contract of `read_next` as it is read from the code: what it answers and leaves is what
-- a reader comes to that was taken and stands there, whatever its value. Since a caller passes a refusal on by `?`, it reads no further, as that
-- reader stays. So what holds of the reader holds of the reads of the layers above.
-- Assumes nothing.
use Prim.Native.Nat.{ℕ}
use mathlib.Core.Path.{◌≡◌, refl, sym, ap, subst, ◌∙◌}
use mathlib.Core.List.{List}
use seplogic.Ra.Ura.{Ura}
use base.Logic.{SProp, ent}
use prog.Memory.{Memory}
use prog.Routine.{Routine}
use types.Logic.{Logic}
use contract.Lifetimes.{Lfts}
use contract.Monad.{Fun, fact, fact_mono}
use denote.Triple.Clauses.{Ended, Clauses, AtExit}
use denote.Triple.Entry.{Args, Res}
use Rattle.refusal.specs.Refusals.{taken, Ran, ends, outcome_of}
use Rattle.syntax.specs.Reads.{Standing, standing, next_of}
use Rattle.syntax.specs.declared.Ask.{Ask}
use Rattle.syntax.specs.declared.cursor.Cursor.{Cursor}
use Rattle.syntax.specs.Cursors.{Held, held_of, over, read_at}
use Rattle.syntax.specs.contracts.cursor.read_next as read_next
use Rattle.syntax.proofs.Ends.{next_on}
use Rattle.syntax.proofs.ReadLaws.{Keeps, next_keeps}
use Rattle.syntax.specs.Tiling.{Reached}
use Rattle.syntax.proofs.Reached.{next_reached}

-- what the clauses of a function over a cursor say of its parameters, its answer and the parameters at exit
abbrev Says : {M : Type 1} (𝓤 : Ura M) (T : Ended) → Clauses 𝓤 T → ((κs : Lfts T.signature.lifetimes) → Args T.signature κs → Res T.signature κs → AtExit T κs → Type 0) → Type 1
Says 𝓤 T c That =
    (κs : Lfts T.signature.lifetimes) (a : Args T.signature κs) (g : (c κs a).ghost) (x : Res T.signature κs) (s : AtExit T κs)
    → ent 𝓤 ((c κs a).ensures g x s) (fact 𝓤 (That κs a x s))

-- a reader that was taken with v and stands at the cursor, and what it comes to
abbrev there : Cursor → List ℕ → ℕ → Ran Standing ℕ
there c log v = ends (standing c.place log) (taken v)

abbrev onward : Cursor → List ℕ → Ask → ℕ → Ran Standing ℕ
onward c log ask v = next_of c.bytes.now ask (there c log v)

sticky : (c : Cursor) (log : List ℕ) (ask : Ask) (v : ℕ) {r : Ran Held ℕ} → r ≡ read_at c log ask → r ≡ over c (onward c log ask v)
sticky c log ask v p = p ∙ sym (ap (over c) (next_on c.bytes.now ask (there c log v) refl))

-- the parameters of `read_next`: c, log, ask
module _ {M : Type 1} {𝓤 : Ura M} (𝓛 : Logic 𝓤) (mem : Memory → SProp 𝓤) (run : Routine → Fun 𝓤) where
  pub read_next_sticky : Says 𝓤 read_next.ended (read_next.clauses 𝓛 mem run)
      (λ κs a x s. (v : ℕ) → held_of (outcome_of x) s.0.now s.1.0.now ≡ over a.0.now (onward a.0.now a.1.0.now a.1.1.0 v))
  read_next_sticky κs a g x s = fact_mono 𝓤 _ _ (λ p v. sticky a.0.now a.1.0.now a.1.1.0 v p)

  -- so the log of before stays in it, and one that reaches the cursor still does
  pub read_next_keeps : Says 𝓤 read_next.ended (read_next.clauses 𝓛 mem run)
      (λ κs a x s. Keeps (standing a.0.now.place a.1.0.now) (standing s.0.now.place s.1.0.now))
  read_next_keeps κs a g x s =
      fact_mono 𝓤 _ _ (λ p.
      subst (λ (h : Ran Held ℕ). Keeps (standing a.0.now.place a.1.0.now) (standing h.state.cursor.place h.state.log))
      (sym (sticky a.0.now a.1.0.now a.1.1.0 0 p))
      (next_keeps a.0.now.bytes.now a.1.1.0 (there a.0.now a.1.0.now 0)))

  pub read_next_reached : Says 𝓤 read_next.ended (read_next.clauses 𝓛 mem run)
      (λ κs a x s. Reached (standing a.0.now.place a.1.0.now) → Reached (standing s.0.now.place s.1.0.now))
  read_next_reached κs a g x s =
      fact_mono 𝓤 _ _ (λ p r.
      subst (λ (h : Ran Held ℕ). Reached (standing h.state.cursor.place h.state.log))
      (sym (sticky a.0.now a.1.0.now a.1.1.0 0 p))
      (next_reached a.0.now.bytes.now a.1.1.0 (there a.0.now a.1.0.now 0) r))
