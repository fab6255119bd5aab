-- For each public function, any two results that its contract allows are equal.
-- Assumes nothing.
use mathlib.Core.Path.{◌≡◌, ap, sym, ◌∙◌}
use Rattle.std.specs.Prelude.{Result}
use Rattle.refusal.specs.declared.Refusal.{Refusal}
use Rattle.refusal.proofs.Unique.{answer_one}
use Rattle.refusal.proofs.Decides.{Decides}
use contract.Lifetimes.{Lfts}
use borrow.Fn.Kinds.{Dens, ended_of}
use denote.Triple.Clauses.{AtExit}
use Rattle.bits.proofs.get.Kinds as get-kinds
use Rattle.bits.proofs.get.Reads as get-reads
use Rattle.bits.proofs.set.Kinds as set-kinds
use Rattle.bits.proofs.set.Reads as set_Reads
use Rattle.bits.proofs.range_eq.Kinds as range-eq-kinds
use Rattle.bits.proofs.range_eq.Reads as range-eq-reads
use Rattle.bits.proofs.range_zero.Kinds as range-zero-kinds
use Rattle.bits.proofs.range_zero.Reads as range-zero-reads

-- any two results that a contract allows are equal; the contracts are read from the code
pub get_one : Decides 1 get-kinds.ps get-kinds.r get-reads.Post
get_one κs a x y s t = answer_one x y

pub set_one : (κs : Lfts 1) (a : Dens κs set-kinds.ps) (x y : Result Unit Refusal) (s t : AtExit (ended_of 1 set-kinds.ps set-kinds.r) κs)
    → set_Reads.Post κs a x s → set_Reads.Post κs a y t → (x ≡ y) × (s.0.now ≡ t.0.now)
set_one κs a x y s t p q =
    (answer_one x y (ap (λ w. w.outcome) p) (ap (λ w. w.outcome) q), ap (λ w. w.state) (p ∙ sym q))

pub range_eq_one : Decides 2 range-eq-kinds.ps range-eq-kinds.r range-eq-reads.Post
range_eq_one κs a x y s t = answer_one x y

pub range_zero_one : Decides 1 range-zero-kinds.ps range-zero-kinds.r range-zero-reads.Post
range_zero_one κs a x y s t = answer_one x y
