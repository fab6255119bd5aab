-- Any two results that the contract of `allocate` allows are equal.
-- Assumes nothing.
use mathlib.Core.Path.{◌≡◌, sym, ap, ◌∙◌}
use contract.Lifetimes.{Lfts}
use borrow.Fn.Kinds.{Dens}
use borrow.Fn.Kinds as kinds
use denote.Triple.Clauses.{AtExit}
use Rattle.std.specs.Prelude.{Result}
use Rattle.refusal.specs.declared.Refusal.{Refusal}
use Rattle.refusal.proofs.Unique.{answer_one}
use Rattle.alloc.proofs.allocate.Kinds as allocate-kinds
use Rattle.alloc.proofs.allocate.Reads as allocate-reads

-- any two answers that the contract allows are equal, and so are the pointers at exit; the contract is read from the code
pub allocate_one : (κs : Lfts 4) (a : Dens κs allocate-kinds.ps) (x y : Result Unit Refusal) (s t : AtExit (kinds.ended_of 4 allocate-kinds.ps allocate-kinds.r) κs)
    → allocate-reads.Post κs a x s → allocate-reads.Post κs a y t → (x ≡ y) × (s.1.1.1.1.1.1.1.1.1.0.now ≡ t.1.1.1.1.1.1.1.1.1.0.now)
allocate_one κs a x y s t p q =
    let e = p ∙ sym q in
    (answer_one x y (ap (λ w. w.outcome) p) (ap (λ w. w.outcome) q), ap (λ w. w.state) e)
