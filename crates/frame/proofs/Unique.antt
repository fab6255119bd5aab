-- For each public function, any two results that its contract allows are equal, with the log and the cursor at exit where they are lent.
-- Assumes nothing.
use mathlib.Core.Path.{◌≡◌, refl, ap, sym, ◌∙◌}
use seplogic.Ra.Ura.{Ura}
use base.Logic.{SProp}
use prog.Memory.{Memory}
use prog.Routine.{Routine}
use types.Logic.{Logic}
use contract.Lifetimes.{Lfts}
use contract.Monad.{Fun}
use borrow.Fn.Kinds.{Dens, ended_of}
use denote.Triple.Clauses.{AtExit}
use Rattle.refusal.proofs.Unique.{answer_one}
use Rattle.syntax.specs.declared.Moved.{Moved}
use Rattle.syntax.proofs.Agree.{Agree, agree}
use Rattle.syntax.proofs.Unique.{moved_same}
use Rattle.frame.specs.declared.Stretch.{Stretch}
use Rattle.frame.proofs.read_tail.Kinds as read-tail-kinds
use Rattle.frame.proofs.read_tail.Reads as read-tail-reads
use Rattle.frame.specs.contracts.read_tail_at as read-tail-at

-- any two results that a contract allows are equal; the contracts are read from the code
pub tail_one : (κs : Lfts 2) (a : Dens κs read-tail-kinds.ps) (x y : Moved Stretch) (s t : AtExit (ended_of 2 read-tail-kinds.ps read-tail-kinds.r) κs)
    → read-tail-reads.Post κs a x s → read-tail-reads.Post κs a y t → (x ≡ y) × (s.1.0.now ≡ t.1.0.now)
tail_one κs a x y s t p q =
    let e = p ∙ sym q in
    (moved_same x y (ap (λ w. w.outcome) e) (ap (λ w. w.state.place) e), ap (λ w. w.state.log) e)

module _ {M : Type 1} {𝓤 : Ura M} (𝓛 : Logic 𝓤) (mem : Memory → SProp 𝓤) (run : Routine → Fun 𝓤) where
  pub tail_at_one : Agree 𝓤 read-tail-at.ended (read-tail-at.clauses 𝓛 mem run) (λ κs x y s t. (x ≡ y) × (s.0.now ≡ t.0.now) × (s.1.0.now ≡ t.1.0.now))
  tail_at_one κs a g h x y s t =
      agree 𝓤 _ _ _ (λ p q.
      let e = p ∙ sym q in
      (answer_one x y (ap (λ w. w.outcome) e) refl, ap (λ w. w.state.cursor) e, ap (λ w. w.state.log) e))
