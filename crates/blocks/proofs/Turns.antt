-- One turn and the end of each loop over the slots: what the slots from slot i on make of what is known so far.
-- Assumes nothing.
use Prim.Native.Nat.{ℕ, suc, ◌+◌, ◌≤◌, ◌<◌}
use mathlib.Core.Path.{◌≡◌, refl, sym, ap, ◌∙◌}
use mathlib.Core.List.{List, [], ◌∷◌, ◌++◌, append-nil}
use mathlib.Core.Bool.{Bool, true, false, not, ◌&&◌, ◌||◌}
use native.Mathlib.Numerals.{add-one}
use native.Mathlib.Omega.{arith}
use lib.Dec.{eqb}
use borrow.Author.Tests.{ne_eqb}
use lib.ListN.{length, get_or, set, take, drop, drop_of_length-le, get_or-replicate}
use lib.Seq.{drop-cons, take-suc-set, append_snoc, take_all, get_or-set_other}
use Rattle.refusal.specs.Refusals.{Grounds, Outcome, taken, refused, and_then}
use Rattle.tables.specs.Bands.{zeros}
use Rattle.alloc.specs.Table.{table}
use Rattle.alloc.proofs.TableLaws.{length_table, get_d_table}
use Rattle.blocks.specs.declared.AllocState.{AllocState}
use Rattle.blocks.specs.Block.{Slot, slot_at, asked, quiet_from, slot_of, slots_from, silence}

-- the slots that are asked for
module _ (present high : List Bool) (exponents ranges : List (List ℕ)) where
  asked_on : (i : ℕ) → i < 7 → drop i (asked present high exponents ranges) ≡ slot_at present high exponents ranges i ∷ drop (i + 1) (asked present high exponents ranges)
  unfolding asked
  asked_on i h =
      let at = slot_at present high exponents ranges in
      rw add-one (drop-cons (table 7 at) i (at i) (omega (arith, length_table 7 at))
      ∙ ap (λ (s : Slot). s ∷ drop (suc i) (table 7 at)) (get_d_table 7 at i (at i) h))

  asked_end : (i : ℕ) → 7 ≤ i → drop i (asked present high exponents ranges) ≡ []
  unfolding asked
  asked_end i h =
      let at = slot_at present high exponents ranges in
      let past : length (table 7 at) ≤ i = omega (arith, length_table 7 at) in
      drop_of_length-le (table 7 at) past

-- whether no slot that is there has a fine offset
module _ (fs : List ℕ) (present high : List Bool) (exponents ranges : List (List ℕ)) (i : ℕ) where
  abbrev quiet_on : ℕ → Bool
  quiet_on k = quiet_from fs k (drop k (asked present high exponents ranges))

  module _ (h : i < 7) where
    quiet_one : quiet_on i ≡ ((not (get_or present i false) || eqb (get_or fs i 0) 0) && quiet_on (i + 1))
    unfolding quiet_from slot_at
    quiet_one = ap (quiet_from fs i) (asked_on present high exponents ranges i h) ∙ rw add-one

    pub quiet_not : get_or present i false ≡ true → (get_or fs i 0 ≡ 0 → ⊥) → false ≡ quiet_on i
    quiet_not p f = sym (quiet_one ∙ rw (p, ne_eqb _ 0 f))

    pub quiet_fine : get_or present i false ≡ true → get_or fs i 0 ≡ 0 → quiet_on (i + 1) ≡ quiet_on i
    quiet_fine p f = sym (quiet_one ∙ rw (p, f))

    pub quiet_absent : get_or present i false ≡ false → quiet_on (i + 1) ≡ quiet_on i
    quiet_absent p = sym (quiet_one ∙ rw p)

  pub quiet_end : 7 ≤ i → true ≡ quiet_on i
  unfolding quiet_from
  quiet_end h = rw (asked_end present high exponents ranges i h)

-- the rows from slot i on are zeros
abbrev pub Blank : ℕ → List (List ℕ) → Type 0
Blank i out = (k : ℕ) → i ≤ k → k < 7 → get_or out k [] ≡ zeros

pub blank_start : {out : List (List ℕ)} → out ≡ silence → Blank 0 out
blank_start e k l h = ap (λ (o : List (List ℕ)). get_or o k []) e ∙ get_or-replicate 7 k zeros [] h

pub blank_on : (out : List (List ℕ)) (i : ℕ) (row : List ℕ) → Blank i out → Blank (i + 1) (set out i row)
blank_on out i row blank k l h = get_or-set_other out i k row [] (λ e. absurd (omega (arith, e, l))) ∙ blank k (omega (arith, l)) h

-- rows that stand before the rest
abbrev pub after : List (List ℕ) → Outcome (List (List ℕ)) → Outcome (List (List ℕ))
after front o = and_then o (λ rest. taken (front ++ rest))

pub after_none : (o : Outcome (List (List ℕ))) → after [] o ≡ o
after_none (taken rest) = refl
after_none (refused g) = refl

after_one : (front : List (List ℕ)) (row : List ℕ) (o : Outcome (List (List ℕ)))
    → after (front ++ (row ∷ [])) o ≡ after front (and_then o (λ rest. taken (row ∷ rest)))
after_one front row (taken rest) = ap {B = Outcome (List (List ℕ))} taken (append_snoc front row rest)
after_one front row (refused g) = refl

-- the slots' pointers, where those of the slots before slot i stand in `out`
module _ (st : AllocState) (fscod : ℕ) (present high : List Bool) (exponents ranges : List (List ℕ)) (hearing log_add : List ℕ) (i : ℕ) (out : List (List ℕ)) where
  abbrev slots_on : ℕ → Outcome (List (List ℕ))
  slots_on k = slots_from st fscod hearing log_add k (drop k (asked present high exponents ranges))

  -- one slot more, and the rest after it
  abbrev onward : Outcome (List ℕ) → Outcome (List (List ℕ))
  onward o =
      and_then o (λ bap.
      and_then (slots_on (i + 1)) (λ rest.
      taken (bap ∷ rest)))

  module _ (h : i < 7) where
    slots_one : slots_on i ≡ onward (slot_of st fscod hearing log_add i (slot_at present high exponents ranges i))
    unfolding slots_from
    slots_one = ap (slots_from st fscod hearing log_add i) (asked_on present high exponents ranges i h) ∙ rw add-one

    pub slots_stop : {g : Grounds} → slot_of st fscod hearing log_add i (slot_at present high exponents ranges i) ≡ refused g
        → refused g ≡ after (take i out) (slots_on i)
    slots_stop e = sym (ap (λ o. after (take i out) o) (slots_one ∙ ap (λ o. onward o) e))

    pub slots_on_lem : {bap : List ℕ} → i < length out → slot_of st fscod hearing log_add i (slot_at present high exponents ranges i) ≡ taken bap
        → after (take (i + 1) (set out i bap)) (slots_on (i + 1)) ≡ after (take i out) (slots_on i)
    slots_on_lem {bap} k e =
        let front : take (i + 1) (set out i bap) ≡ take i out ++ (bap ∷ []) = rw add-one (take-suc-set out i bap k) in
        ap (λ (l : List (List ℕ)). after l (slots_on (i + 1))) front
        ∙ after_one (take i out) bap (slots_on (i + 1))
        ∙ sym (ap (λ o. after (take i out) o) (slots_one ∙ ap (λ o. onward o) e))

  pub slots_end : 7 ≤ i → length out ≤ i → taken out ≡ after (take i out) (slots_on i)
  unfolding slots_from
  slots_end h k = rw (asked_end present high exponents ranges i h, take_all i out k, append-nil out)
