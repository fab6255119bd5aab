-- For each public function, any two results that its contract allows are equal. Then what the contracts of a slot's segments come to for a
-- caller that keeps them: over those that it had, and over the state that holds them.
-- Assumes nothing.
use mathlib.Core.Path.{◌≡◌, sym, ap, ◌∙◌}
use Prim.Native.Nat.{ℕ}
use mathlib.Core.List.{List}
use mathlib.Core.Bool.{Bool}
use contract.Lifetimes.{Lfts}
use borrow.Fn.Kinds.{Dens, ended_of}
use denote.Triple.Clauses.{AtExit}
use Rattle.std.specs.Prelude.{Result}
use Rattle.refusal.specs.declared.Refusal.{Refusal}
use Rattle.refusal.specs.Refusals.{Ran, outcome_of, leaves}
use Rattle.refusal.proofs.Unique.{answer_one}
use Rattle.refusal.proofs.Decides.{Decides}
use Rattle.tables.specs.declared.Delta.{Delta}
use Rattle.syntax.specs.declared.Moved.{Moved}
use Rattle.syntax.specs.Reads.{Standing, standing, moved_of}
use Rattle.syntax.proofs.Unique.{moved_same}
use Rattle.blocks.specs.declared.AllocState.{AllocState}
use Rattle.blocks.specs.Block.{segments_at}
use Rattle.blocks.specs.Side.{with_delta, deltbae_of, delta_code_of, slot_delta_of, Settled, settled, settled_of, read_delta_of}
use Rattle.blocks.proofs.SideLaws.{code_in, read_in}
use Rattle.blocks.proofs.allocate_block.Kinds as allocate-block-kinds
use Rattle.blocks.proofs.allocate_block.Reads as allocate-block-reads
use Rattle.blocks.proofs.delta_code.Kinds as delta-code-kinds
use Rattle.blocks.proofs.delta_code.Reads as delta-code-reads
use Rattle.blocks.proofs.read_delta.Kinds as read-delta-kinds
use Rattle.blocks.proofs.read_delta.Reads as read-delta-reads

-- any two results that a contract allows are equal; the contracts are read from the code
pub allocate_block_one : (κs : Lfts 7) (a : Dens κs allocate-block-kinds.ps) (x y : Result Unit Refusal) (s t : AtExit (ended_of 7 allocate-block-kinds.ps allocate-block-kinds.r) κs)
    → allocate-block-reads.Post κs a x s → allocate-block-reads.Post κs a y t → (x ≡ y) × (s.1.1.1.1.1.1.1.1.0.now ≡ t.1.1.1.1.1.1.1.1.0.now)
allocate_block_one κs a x y s t p q = (answer_one x y (ap (λ w. w.outcome) p) (ap (λ w. w.outcome) q), ap (λ w. w.state) (p ∙ sym q))

pub delta_code_one : Decides 0 delta-code-kinds.ps delta-code-kinds.r delta-code-reads.Post
delta_code_one κs a x y s t = answer_one x y

pub read_delta_one : (κs : Lfts 2) (a : Dens κs read-delta-kinds.ps) (x y : Moved Delta) (s t : AtExit (ended_of 2 read-delta-kinds.ps read-delta-kinds.r) κs)
    → read-delta-reads.Post κs a x s → read-delta-reads.Post κs a y t → (x ≡ y) × (s.1.0.now ≡ t.1.0.now)
read_delta_one κs a x y s t p q =
    let e = p ∙ sym q in
    (moved_same x y (ap (λ w. w.outcome) e) (ap (λ w. w.state.place) e), ap (λ w. w.state.log) e)

-- where a call is refused its caller's segments stay: the state that such a caller has then
pub delta_code_leaves : (before : Delta) (slot code : ℕ) (block0 : Bool) (r : Result Delta Refusal)
    → outcome_of r ≡ deltbae_of before slot code block0 → leaves before (outcome_of r) ≡ leaves before (deltbae_of before slot code block0)
delta_code_leaves before slot code block0 r e = ap (leaves before) e

pub read_delta_settles : (before : Delta) (frame log : List ℕ) (st : Standing) (slot : ℕ) (m : Moved Delta)
    → moved_of m log ≡ slot_delta_of frame st slot → settled_of before (moved_of m log) ≡ settled_of before (slot_delta_of frame st slot)
read_delta_settles before frame log st slot m e = ap (settled_of before) e

-- the parameters of `delta_code`: before, slot, code, block0. What its contract says of a caller's segments, and of a state that holds them:
-- the call over the state
module _ (κs : Lfts 0) (a : Dens κs delta-code-kinds.ps) (x : Result Delta Refusal) (s : AtExit (ended_of 0 delta-code-kinds.ps delta-code-kinds.r) κs)
    (p : delta-code-reads.Post κs a x s) where
  pub delta_code_kept : leaves a.0 (outcome_of x) ≡ leaves a.0 (deltbae_of a.0 a.1.0 a.1.1.0 a.1.1.1.0)
  delta_code_kept = delta_code_leaves a.0 a.1.0 a.1.1.0 a.1.1.1.0 x p

  pub delta_code_in : (st : AllocState) → a.0 ≡ segments_at st a.1.0
      → ◌≡◌ {A = Ran AllocState Unit}
      (let r = leaves a.0 (outcome_of x) in record { outcome = r.outcome; state = with_delta st a.1.0 r.state })
      (delta_code_of st a.1.0 a.1.1.0 a.1.1.1.0)
  delta_code_in st e =
      code_in st a.1.0 a.1.1.0 a.1.1.1.0 (leaves a.0 (outcome_of x))
      (delta_code_kept ∙ ap (λ (d : Delta). leaves d (deltbae_of d a.1.0 a.1.1.0 a.1.1.1.0)) e)

-- the parameters of `read_delta`: frame, log, place, slot
module _ (κs : Lfts 2) (a : Dens κs read-delta-kinds.ps) (x : Moved Delta) (s : AtExit (ended_of 2 read-delta-kinds.ps read-delta-kinds.r) κs)
    (p : read-delta-reads.Post κs a x s) where
  pub read_delta_kept : (before : Delta)
      → settled_of before (moved_of x s.1.0.now) ≡ settled_of before (slot_delta_of a.0.now (standing a.1.1.0 a.1.0.now) a.1.1.1.0)
  read_delta_kept before = read_delta_settles before a.0.now s.1.0.now (standing a.1.1.0 a.1.0.now) a.1.1.1.0 x p

  pub read_delta_in : (st : AllocState)
      → ◌≡◌ {A = Ran (Settled AllocState) Unit}
      (let r = settled_of (segments_at st a.1.1.1.0) (moved_of x s.1.0.now) in
      record { outcome = r.outcome; state = settled r.state.standing (with_delta st a.1.1.1.0 r.state.state) })
      (read_delta_of a.0.now (standing a.1.1.0 a.1.0.now) st a.1.1.1.0)
  read_delta_in st =
      read_in st a.1.1.1.0 a.0.now (standing a.1.1.0 a.1.0.now) (settled_of (segments_at st a.1.1.1.0) (moved_of x s.1.0.now))
      (read_delta_kept (segments_at st a.1.1.1.0))
