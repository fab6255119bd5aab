-- For each public function, any two results that its contract allows are equal, with the log at exit where one is lent.
-- Assumes nothing.
use mathlib.Core.Path.{◌≡◌, refl, ap, sym, ◌∙◌}
use Prim.Native.Nat.{ℕ}
use seplogic.Ra.Ura.{Ura}
use base.Logic.{SProp}
use prog.Memory.{Memory}
use prog.Routine.{Routine}
use types.Logic.{Logic}
use contract.Lifetimes.{Lfts}
use contract.Monad.{Fun}
use borrow.Fn.Kinds.{Dens, ended_of}
use denote.Triple.Clauses.{AtExit}
use Rattle.refusal.specs.Refusals.{outcome_of}
use Rattle.refusal.proofs.Unique.{answer_one}
use Rattle.refusal.proofs.Decides.{Decides}
use Rattle.syntax.proofs.role_word.Kinds as role-word-kinds
use Rattle.syntax.proofs.role_word.Reads as role-word-reads
use Rattle.syntax.proofs.role_of.Kinds as role-of-kinds
use Rattle.syntax.proofs.role_of.Reads as role-of-reads
use Rattle.syntax.proofs.is_drc.Kinds as is-drc-kinds
use Rattle.syntax.proofs.is_drc.Reads as is-drc-reads
use Rattle.syntax.proofs.is_checksum.Kinds as is-checksum-kinds
use Rattle.syntax.proofs.is_checksum.Reads as is-checksum-reads
use Rattle.syntax.proofs.is_span.Kinds as is-span-kinds
use Rattle.syntax.proofs.is_span.Reads as is-span-reads
use Rattle.syntax.proofs.end.Kinds as end-kinds
use Rattle.syntax.proofs.end.Reads as end_reads
use Rattle.syntax.proofs.room_of.Kinds as room-of-kinds
use Rattle.syntax.proofs.room_of.Reads as room-of-reads
use Rattle.syntax.proofs.is_unsound.Kinds as is-unsound-kinds
use Rattle.syntax.proofs.is_unsound.Reads as is-unsound-reads
use Rattle.syntax.proofs.passes.Kinds as passes-kinds
use Rattle.syntax.proofs.passes.Reads as passes-reads
use Rattle.syntax.proofs.read_element.Kinds as read-element-kinds
use Rattle.syntax.proofs.read_element.Reads as read-element-reads
use Rattle.syntax.proofs.read_raw.Kinds as read-raw-kinds
use Rattle.syntax.proofs.read_raw.Reads as read-raw-reads
use Rattle.syntax.proofs.span.Kinds as span-kinds
use Rattle.syntax.proofs.span.Reads as span-reads
use Rattle.syntax.proofs.close_span.Kinds as close-span-kinds
use Rattle.syntax.proofs.close_span.Reads as close-span-reads
use Rattle.syntax.proofs.begin.Kinds as begin-kinds
use Rattle.syntax.proofs.begin.Reads as begin-reads
use Rattle.syntax.proofs.next.Kinds as next-kinds
use Rattle.syntax.proofs.next.Reads as next-reads
use Rattle.syntax.proofs.check_tiling.Kinds as check-tiling-kinds
use Rattle.syntax.proofs.check_tiling.Reads as check-tiling-reads
use Rattle.syntax.proofs.element_at.Kinds as element-at-kinds
use Rattle.syntax.proofs.element_at.Reads as element-at-reads
use Rattle.syntax.specs.contracts.cursor.open as opening
use Rattle.syntax.specs.contracts.cursor.position as position
use Rattle.syntax.specs.contracts.cursor.read_next as read_next
use Rattle.syntax.specs.contracts.cursor.raw_next as raw-next
use Rattle.syntax.specs.contracts.cursor.close_next as close-next
use Rattle.syntax.specs.declared.Moved.{Moved}
use Rattle.syntax.proofs.Agree.{Agree, agree}

-- an answer's meaning and its place lead back to it
pub moved_same : {A : Type 0} (x y : Moved A) → outcome_of x.answer ≡ outcome_of y.answer → x.place ≡ y.place → x ≡ y
moved_same x y e f = λ i. record { answer = answer_one x.answer y.answer e refl i; place = f i }

-- any two results that a contract allows are equal; the contracts are read from the code
pub role_word_one : Decides 0 role-word-kinds.ps role-word-kinds.r role-word-reads.Post
role_word_one κs a x y s t p q = p ∙ sym q

pub role_of_one : Decides 0 role-of-kinds.ps role-of-kinds.r role-of-reads.Post
role_of_one κs a x y s t p q = p ∙ sym q

pub is_drc_one : Decides 0 is-drc-kinds.ps is-drc-kinds.r is-drc-reads.Post
is_drc_one κs a x y s t p q = p ∙ sym q

pub is_checksum_one : Decides 0 is-checksum-kinds.ps is-checksum-kinds.r is-checksum-reads.Post
is_checksum_one κs a x y s t p q = p ∙ sym q

pub is_span_one : Decides 0 is-span-kinds.ps is-span-kinds.r is-span-reads.Post
is_span_one κs a x y s t p q = p ∙ sym q

pub end_one : Decides 0 end-kinds.ps end-kinds.r end_reads.Post
end_one κs a x y s t p q = p ∙ sym q

pub room_of_one : Decides 0 room-of-kinds.ps room-of-kinds.r room-of-reads.Post
room_of_one κs a x y s t p q = p ∙ sym q

pub is_unsound_one : Decides 0 is-unsound-kinds.ps is-unsound-kinds.r is-unsound-reads.Post
is_unsound_one κs a x y s t p q = p ∙ sym q

pub passes_one : Decides 0 passes-kinds.ps passes-kinds.r passes-reads.Post
passes_one κs a x y s t p q = p ∙ sym q

pub read_element_one : (κs : Lfts 2) (a : Dens κs read-element-kinds.ps) (x y : Moved ℕ) (s t : AtExit (ended_of 2 read-element-kinds.ps read-element-kinds.r) κs)
    → read-element-reads.Post κs a x s → read-element-reads.Post κs a y t → (x ≡ y) × (s.1.0.now ≡ t.1.0.now)
read_element_one κs a x y s t p q =
    let e = p ∙ sym q in
    (moved_same x y (ap (λ w. w.outcome) e) (ap (λ w. w.state.place) e), ap (λ w. w.state.log) e)

pub read_raw_one : Decides 1 read-raw-kinds.ps read-raw-kinds.r read-raw-reads.Post
read_raw_one κs a x y s t p q = let e = p ∙ sym q in moved_same x y (ap (λ w. w.outcome) e) (ap (λ w. w.state) e)

pub span_one : (κs : Lfts 2) (a : Dens κs span-kinds.ps) (x y : Moved Unit) (s t : AtExit (ended_of 2 span-kinds.ps span-kinds.r) κs)
    → span-reads.Post κs a x s → span-reads.Post κs a y t → (x ≡ y) × (s.1.0.now ≡ t.1.0.now)
span_one κs a x y s t p q =
    let e = p ∙ sym q in
    (moved_same x y (ap (λ w. w.outcome) e) (ap (λ w. w.state.place) e), ap (λ w. w.state.log) e)

pub close_span_one : (κs : Lfts 2) (a : Dens κs close-span-kinds.ps) (x y : Moved Unit) (s t : AtExit (ended_of 2 close-span-kinds.ps close-span-kinds.r) κs)
    → close-span-reads.Post κs a x s → close-span-reads.Post κs a y t → (x ≡ y) × (s.1.0.now ≡ t.1.0.now)
close_span_one κs a x y s t p q =
    let e = p ∙ sym q in
    (moved_same x y (ap (λ w. w.outcome) e) (ap (λ w. w.state.place) e), ap (λ w. w.state.log) e)

pub begin_one : Decides 0 begin-kinds.ps begin-kinds.r begin-reads.Post
begin_one κs a x y s t p q = p ∙ sym q

pub next_one : (κs : Lfts 2) (a : Dens κs next-kinds.ps) (x y : Moved ℕ) (s t : AtExit (ended_of 2 next-kinds.ps next-kinds.r) κs)
    → next-reads.Post κs a x s → next-reads.Post κs a y t → (x ≡ y) × (s.1.0.now ≡ t.1.0.now)
next_one κs a x y s t p q =
    let e = p ∙ sym q in
    (moved_same x y (ap (λ w. w.outcome) e) (ap (λ w. w.state.place) e), ap (λ w. w.state.log) e)

pub check_tiling_one : Decides 1 check-tiling-kinds.ps check-tiling-kinds.r check-tiling-reads.Post
check_tiling_one κs a x y s t = answer_one x y

pub element_at_one : Decides 1 element-at-kinds.ps element-at-kinds.r element-at-reads.Post
element_at_one κs a x y s t = answer_one x y

-- the same at a cursor, with the cursor at exit where it is lent
module _ {M : Type 1} {𝓤 : Ura M} (𝓛 : Logic 𝓤) (mem : Memory → SProp 𝓤) (run : Routine → Fun 𝓤) where
  pub open_one : Agree 𝓤 opening.ended (opening.clauses 𝓛 mem run) (λ κs x y s t. x ≡ y)
  open_one κs a g h x y s t = agree 𝓤 _ _ _ (λ p q. p ∙ sym q)

  pub position_one : Agree 𝓤 position.ended (position.clauses 𝓛 mem run) (λ κs x y s t. x ≡ y)
  position_one κs a g h x y s t = agree 𝓤 _ _ _ (λ p q. p ∙ sym q)

  pub read_next_one : Agree 𝓤 read_next.ended (read_next.clauses 𝓛 mem run) (λ κs x y s t. (x ≡ y) × (s.0.now ≡ t.0.now) × (s.1.0.now ≡ t.1.0.now))
  read_next_one κs a g h x y s t =
      agree 𝓤 _ _ _ (λ p q.
      let e = p ∙ sym q in
      (answer_one x y (ap (λ w. w.outcome) e) refl, ap (λ w. w.state.cursor) e, ap (λ w. w.state.log) e))

  pub raw_next_one : Agree 𝓤 raw-next.ended (raw-next.clauses 𝓛 mem run) (λ κs x y s t. (x ≡ y) × (s.0.now ≡ t.0.now))
  raw_next_one κs a g h x y s t =
      agree 𝓤 _ _ _ (λ p q. let e = p ∙ sym q in (answer_one x y (ap (λ w. w.outcome) e) refl, ap (λ w. w.state) e))

  pub close_next_one : Agree 𝓤 close-next.ended (close-next.clauses 𝓛 mem run) (λ κs x y s t. (x ≡ y) × (s.0.now ≡ t.0.now) × (s.1.0.now ≡ t.1.0.now))
  close_next_one κs a g h x y s t =
      agree 𝓤 _ _ _ (λ p q.
      let e = p ∙ sym q in
      (answer_one x y (ap (λ w. w.outcome) e) refl, ap (λ w. w.state.cursor) e, ap (λ w. w.state.log) e))
