-- Each case of what a slot and a block come to, as the code meets it.
-- Assumes nothing.
use Prim.Native.Nat.{ℕ}
use mathlib.Core.Path.{◌≡◌, refl, sym, ap, ◌∙◌}
use mathlib.Core.List.{List, []}
use mathlib.Core.Bool.{Bool, true, false, cond, not, ◌&&◌}
use lib.Dec.{eqb}
use Rattle.refusal.specs.declared.Refusal.{Refusal}
use Rattle.refusal.specs.Refusals.{Grounds, Outcome, taken, refused, told, refuse_if, and_then, Ran, outcome_of, ran_of}
use Rattle.tables.specs.declared.Delta.{Delta}
use Rattle.tables.specs.declared.Pointers.{Pointers}
use Rattle.tables.specs.Fits.{tables_fit, delta_fits}
use Rattle.alloc.specs.declared.Codes.{Codes}
use Rattle.alloc.specs.declared.Leak.{Leak}
use Rattle.alloc.specs.Params.{curve_of, levels_of, start_of}
use Rattle.alloc.specs.Answers.{filled, channel_of, allocate_of}
use Rattle.blocks.specs.declared.AllocState.{AllocState}
use Rattle.std.specs.Prelude.{Option, is_some, Result, Ok, Err}
use Rattle.blocks.specs.declared.Shared.{Shared}
use Rattle.refusal.proofs.Laws.{taken_same, never}
use Rattle.blocks.specs.Block.{shared_of, Slot, codes_fit, quiet_from, quiet, state_of, slots_from, silence, filled_slots, allocate_block_of}

-- the pointers of a slot, with what is told of them, and back
filled_back : (o : Outcome (List ℕ)) → state_of (filled o) ≡ o
filled_back (taken bap) = refl
filled_back (refused g) = refl

-- what a slot's answer says of what it comes to
module _ (r : Result Unit Refusal) (bap : List ℕ) {o : Outcome (List ℕ)} (e : ran_of r bap ≡ filled o) where
  slot_is : o ≡ and_then (outcome_of r) (λ _. taken bap)
  slot_is = sym (filled_back o) ∙ sym (ap (λ x. state_of x) e)

  pub slot_taken : r ≡ Ok tt → o ≡ taken bap
  slot_taken d = slot_is ∙ ap (λ (a : Result Unit Refusal). and_then (outcome_of a) (λ _. taken bap)) d

  pub slot_refused : {g : Refusal} → r ≡ Err g → o ≡ told g
  slot_refused d = slot_is ∙ ap (λ (a : Result Unit Refusal). and_then (outcome_of a) (λ _. taken bap)) d

-- a channel alone that is refused has zeros, as a slot has
pub alone_filled : (exp : List ℕ) (start end : ℕ) (k : Codes) (l : Option Leak) (d : Delta) (w : Pointers) (hearing log_add : List ℕ)
    → allocate_of exp start end k l d w hearing log_add ≡ filled (state_of (allocate_of exp start end k l d w hearing log_add))
unfolding allocate_of
alone_filled exp start end k l d w hearing log_add =
    ap (λ o. filled o)
    (sym
    (filled_back
    (refuse_if (not (tables_fit hearing log_add)) 21 0
    (and_then (curve_of k) (λ c.
    and_then (levels_of k) (λ v.
    and_then (start_of l) (λ b.
    refuse_if (not (delta_fits d)) 11 0
    (channel_of exp start end c v b d w hearing log_add))))))))

-- a block that has no slot: what it comes to
abbrev pub none_of : AllocState → ℕ → List ℕ → List ℕ → Outcome Unit
none_of st fscod hearing log_add = (allocate_block_of st fscod [] hearing log_add).outcome

-- what the first tests leave to the slots, and what they refuse, whether the block is quiet or not
abbrev then_shared : Outcome Unit → AllocState → ℕ → Outcome Shared
then_shared o st fscod = and_then o (λ _. taken (shared_of st fscod))

module _ (st : AllocState) (fscod : ℕ) (hearing log_add : List ℕ) where
  -- no slot, quiet or not, leaves nothing to refuse
  empty : (q : Bool) → taken tt ≡ (filled_slots (cond q (taken silence) (slots_from st fscod hearing log_add 0 []))).outcome
  unfolding slots_from
  empty true = refl
  empty false = refl

  -- a block with slots is tested for the same first
  block_after : (slots : List Slot)
      → allocate_block_of st fscod slots hearing log_add
      ≡ filled_slots (and_then (none_of st fscod hearing log_add) (λ _. cond (quiet st slots) (taken silence) (slots_from st fscod hearing log_add 0 slots)))
  unfolding allocate_block_of
  block_after slots =
      each (not (tables_fit hearing log_add)) (not (codes_fit st fscod)) (not (is_some st.csnroffst)) (not (is_some st.bai)) _ _ (empty (quiet st []))
    where
      each : (t k c b : Bool) (x y : Outcome (List (List ℕ))) → taken tt ≡ (filled_slots y).outcome
          → filled_slots (refuse_if t 21 0 (refuse_if k 11 0 (refuse_if c 10 0 (refuse_if b 10 0 x))))
          ≡ filled_slots (and_then (filled_slots (refuse_if t 21 0 (refuse_if k 11 0 (refuse_if c 10 0 (refuse_if b 10 0 y))))).outcome (λ _. x))
      each true k c b x y e = refl
      each false true c b x y e = refl
      each false false true b x y e = refl
      each false false false true x y e = refl
      each false false false false x y e = ap (λ (o : Outcome Unit). filled_slots (and_then o (λ _. x))) e

-- what the first tests pass is what the state shares, and what they refuse is refused
module _ (st : AllocState) (fscod : ℕ) where
  passes : {s : Shared} (o : Outcome Unit) → taken s ≡ then_shared o st fscod → (taken tt ≡ o) × (s ≡ shared_of st fscod)
  passes (taken _) e = (refl, taken_same e)
  passes (refused g) e = never (sym e)

  stops : {g : Grounds} (o : Outcome Unit) → refused g ≡ then_shared o st fscod → refused g ≡ o
  stops (taken _) e = never e
  stops (refused g) e = cc

  pub block_own : {s : Shared} (hearing log_add : List ℕ) → taken s ≡ then_shared (none_of st fscod hearing log_add) st fscod → s ≡ shared_of st s.fscod
  block_own hearing log_add e =
      let own = (passes (none_of st fscod hearing log_add) e).1 in
      own ∙ ap (λ (x : Shared). shared_of st x.fscod) (sym own)

-- the cases of a block, by what its first tests answer
module _ (st : AllocState) (fscod : ℕ) (slots : List Slot) (hearing log_add : List ℕ) where
  -- what the first tests come to, and what is then known of the slots
  abbrev rest : Outcome Unit → Bool → Ran (List (List ℕ)) Unit
  rest o q = filled_slots (and_then o (λ _. cond q (taken silence) (slots_from st fscod hearing log_add 0 slots)))

  block_by : {o : Outcome Unit} {q : Bool} → o ≡ none_of st fscod hearing log_add → quiet st slots ≡ q
      → rest o q ≡ allocate_block_of st fscod slots hearing log_add
  block_by e h = (λ i. rest (e i) (sym h i)) ∙ sym (block_after st fscod hearing log_add slots)

  pub block_stops : {g : Grounds} → refused g ≡ then_shared (none_of st fscod hearing log_add) st fscod
      → filled_slots (refused g) ≡ allocate_block_of st fscod slots hearing log_add
  block_stops e = block_by (stops st fscod _ e) refl

  module _ {s : Shared} (e : taken s ≡ then_shared (none_of st fscod hearing log_add) st fscod) where
    own : s ≡ shared_of st fscod
    own = (passes st fscod (none_of st fscod hearing log_add) e).1

    passed : taken tt ≡ none_of st fscod hearing log_add
    passed = (passes st fscod (none_of st fscod hearing log_add) e).0

    abbrev is_quiet : Bool
    is_quiet = eqb s.csnroffst 0 && quiet_from st.fsnroffst 0 slots

    quiet_is : quiet st slots ≡ is_quiet
    unfolding quiet
    quiet_is = ap (λ (x : Shared). eqb x.csnroffst 0 && quiet_from st.fsnroffst 0 slots) (sym own)

    pub block_quiet : is_quiet ≡ true → filled_slots (taken silence) ≡ allocate_block_of st fscod slots hearing log_add
    block_quiet h = block_by passed (quiet_is ∙ h)

    pub block_slots : is_quiet ≡ false → filled_slots (slots_from st s.fscod hearing log_add 0 slots) ≡ allocate_block_of st fscod slots hearing log_add
    block_slots h = ap (λ (x : Shared). filled_slots (slots_from st x.fscod hearing log_add 0 slots)) own ∙ block_by passed (quiet_is ∙ h)
