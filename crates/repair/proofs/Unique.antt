-- For each public function, any two results that its contract allows are equal. The contracts are read from the code.
-- Assumes nothing.
use mathlib.Core.Path.{◌≡◌, refl, sym, ap, ◌∙◌}
use contract.Lifetimes.{Lfts}
use borrow.Fn.Kinds.{Dens, ended_of}
use denote.Triple.Clauses.{AtExit}
use Rattle.std.specs.Prelude.{Result, Ok, Err}
use Rattle.refusal.specs.declared.Refusal.{Refusal}
use Rattle.refusal.specs.Refusals.{Outcome, taken, refused}
use Rattle.refusal.proofs.Unique.{refusal_of, refusal_back, one_answer, answer_one}
use Rattle.refusal.proofs.Decides.{Decides}
use Rattle.repair.specs.declared.Status.{Status}
use Rattle.repair.specs.declared.Status.TheVariants as status
use Rattle.repair.specs.Repair.{Checked, both, second, status_of}
use Rattle.repair.proofs.crc_status.Kinds as crc-status-kinds
use Rattle.repair.proofs.crc_status.Reads as crc-status-reads
use Rattle.repair.proofs.repair.Kinds as repair-kinds
use Rattle.repair.proofs.repair.Reads as repair-reads

-- the answer's meaning leads back to it
abbrev pub status_back : Outcome Checked → Result Status Refusal
status_back (taken (both a b)) = Ok (status.Both a b)
status_back (taken (second b)) = Ok (status.Second b)
status_back (refused g) = Err (refusal_of g)

pub status_back_lem : (x : Result Status Refusal) → status_back (status_of x) ≡ x
status_back_lem (Ok (status.Both a b)) = refl
status_back_lem (Ok (status.Second b)) = refl
status_back_lem (Err r) = ap Err (refusal_back r)

pub crc_status_one : Decides 1 crc-status-kinds.ps crc-status-kinds.r crc-status-reads.Post
crc_status_one κs a x y s t = one_answer status_of status_back status_back_lem x y

pub repair_one : (κs : Lfts 1) (a : Dens κs repair-kinds.ps) (x y : Result Unit Refusal) (s t : AtExit (ended_of 1 repair-kinds.ps repair-kinds.r) κs)
    → repair-reads.Post κs a x s → repair-reads.Post κs a y t → (x ≡ y) × (s.1.0.now ≡ t.1.0.now)
repair_one κs a x y s t p q =
    (answer_one x y (ap (λ w. w.outcome) p) (ap (λ w. w.outcome) q), ap (λ w. w.state) (p ∙ sym q))
