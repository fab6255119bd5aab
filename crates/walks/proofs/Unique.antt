-- For each public function, any two results that its contract allows are equal, with the cursor at exit where it is lent.
-- Assumes nothing.
use mathlib.Core.Path.{◌≡◌, ap, sym, ◌∙◌}
use Rattle.std.specs.Prelude.{Result}
use seplogic.Ra.Ura.{Ura}
use base.Logic.{SProp}
use prog.Memory.{Memory}
use prog.Routine.{Routine}
use types.Logic.{Logic}
use contract.Monad.{Fun}
use Rattle.refusal.specs.declared.Refusal.{Refusal}
use Rattle.refusal.specs.Refusals.{Ran}
use Rattle.refusal.proofs.Unique.{answer_of, answer_back, one_answer}
use Rattle.refusal.proofs.Decides.{Decides}
use Rattle.syntax.specs.Cursors.{moved}
use Rattle.syntax.proofs.Agree.{Agree, agree}
use Rattle.walks.specs.declared.Walked.{Walked}
use Rattle.walks.specs.Walk.{State, walked_of}
use Rattle.walks.proofs.is_unfit_range.Kinds as is-unfit-range-kinds
use Rattle.walks.proofs.is_unfit_range.Reads as is-unfit-range-reads
use Rattle.walks.proofs.conventional.Kinds as conventional-kinds
use Rattle.walks.proofs.conventional.Reads as conventional-reads
use Rattle.walks.specs.contracts.conventional_at as conventional-at

-- the answer's meaning leads back to it
abbrev pub walked_back : Ran State Unit → Walked
walked_back r = record { answer = answer_of r.outcome; place = r.state.place; groups = r.state.groups }

pub walked_back_lem : (w : Walked) → walked_back (walked_of w) ≡ w
walked_back_lem w = ap (λ (a : Result Unit Refusal). record { answer = a; place = w.place; groups = w.groups }) (answer_back w.answer)

-- any two results that a contract allows are equal; the contracts are read from the code
pub is_unfit_range_one : Decides 0 is-unfit-range-kinds.ps is-unfit-range-kinds.r is-unfit-range-reads.Post
is_unfit_range_one κs a x y s t p q = p ∙ sym q

pub conventional_one : Decides 2 conventional-kinds.ps conventional-kinds.r conventional-reads.Post
conventional_one κs a x y s t = one_answer walked_of walked_back walked_back_lem x y

module _ {M : Type 1} {𝓤 : Ura M} (𝓛 : Logic 𝓤) (mem : Memory → SProp 𝓤) (run : Routine → Fun 𝓤) where
  pub conventional_at_one : Agree 𝓤 conventional-at.ended (conventional-at.clauses 𝓛 mem run) (λ κs x y s t. (x ≡ y) × (s.0.now ≡ t.0.now))
  conventional_at_one κs a g h x y s t =
      agree 𝓤 _ _ _ (λ p q.
      let same : x ≡ y = one_answer walked_of walked_back walked_back_lem x y p.0 q.0 in
      (same, p.1 ∙ ap (λ (z : Walked). moved a.0.now z.place) same ∙ sym q.1))
