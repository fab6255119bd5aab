-- For each public function, any two results that its contract allows are equal, with the log and the cursor at exit where they are lent.
-- Assumes nothing.
use mathlib.Core.Path.{◌≡◌, ap, sym, ◌∙◌}
use mathlib.Core.List.{List}
use Prim.Native.Nat.{ℕ}
use seplogic.Ra.Ura.{Ura}
use base.Logic.{SProp}
use prog.Memory.{Memory}
use prog.Routine.{Routine}
use types.Logic.{Logic}
use contract.Lifetimes.{Lfts}
use contract.Monad.{Fun}
use borrow.Fn.Kinds.{Dens, ended_of}
use denote.Triple.Clauses.{AtExit}
use Rattle.refusal.specs.Refusals.{Ran}
use Rattle.std.specs.Prelude.{Result}
use Rattle.refusal.specs.declared.Refusal.{Refusal}
use Rattle.refusal.proofs.Unique.{answer_of, answer_back}
use Rattle.syntax.specs.Cursors.{moved}
use Rattle.syntax.proofs.Agree.{Agree, agree}
use Rattle.exponents.specs.declared.Exponents.{Exponents}
use Rattle.exponents.specs.Reads.{Left, exponents_of}
use Rattle.exponents.proofs.read_exponents.Kinds as read-exponents-kinds
use Rattle.exponents.proofs.read_exponents.Reads as read-exponents-reads
use Rattle.exponents.specs.contracts.read_exponents_at as read-exponents-at

-- the answer's meaning leads back to it
abbrev pub exponents_back : Ran Left Unit → Exponents
exponents_back r = record { answer = answer_of r.outcome; place = r.state.standing.place; set = r.state.set }

pub exponents_back_lem : (x : Exponents) (log : List ℕ) → exponents_back (exponents_of x log) ≡ x
exponents_back_lem x log = ap (λ (a : Result Unit Refusal). record { answer = a; place = x.place; set = x.set }) (answer_back x.answer)

exponents_same : (x y : Exponents) (l m : List ℕ) → exponents_of x l ≡ exponents_of y m → x ≡ y
exponents_same x y l m e = sym (exponents_back_lem x l) ∙ ap exponents_back e ∙ exponents_back_lem y m

-- the contracts are read from the code
pub read_exponents_one : (κs : Lfts 2) (a : Dens κs read-exponents-kinds.ps) (x y : Exponents)
    (s t : AtExit (ended_of 2 read-exponents-kinds.ps read-exponents-kinds.r) κs)
    → read-exponents-reads.Post κs a x s → read-exponents-reads.Post κs a y t → (x ≡ y) × (s.1.0.now ≡ t.1.0.now)
read_exponents_one κs a x y s t p q =
    let e = p ∙ sym q in
    (exponents_same x y _ _ e, ap (λ (r : Ran Left Unit). r.state.standing.log) e)

module _ {M : Type 1} {𝓤 : Ura M} (𝓛 : Logic 𝓤) (mem : Memory → SProp 𝓤) (run : Routine → Fun 𝓤) where
  pub read_exponents_at_one : Agree 𝓤 read-exponents-at.ended (read-exponents-at.clauses 𝓛 mem run) (λ κs x y s t. (x ≡ y) × (s.0.now ≡ t.0.now) × (s.1.0.now ≡ t.1.0.now))
  read_exponents_at_one κs a g h x y s t =
      agree 𝓤 _ _ _ (λ p q.
      let e = p.0 ∙ sym q.0 in
      let same : x ≡ y = exponents_same x y _ _ e in
      (same, p.1 ∙ ap (λ (z : Exponents). moved a.0.now z.place) same ∙ sym q.1, ap (λ (r : Ran Left Unit). r.state.standing.log) e))
