-- Document 01, "Order over a block": past the block's own tests, 21, 11, 10 and 10, "slots 0 to 6, each: 12; 10 for leak; an empty range gives
-- zeros; 6 if end > 253; 8". The channel alone tests 21 and 11 again, and this says that there they never come.
-- Assumes nothing.
use Rattle.std.specs.Prelude.{ℕ, ◌<◌, ◌≡◌, List, [], ◌∷◌, Bool, true, false, ◌||◌, eqb, length, is_some}
use Rattle.refusal.specs.Refusals.{Outcome, taken, refused}
use Rattle.tables.specs.Fits.{tables_fit}
use Rattle.tables.specs.Slots.{slot_count}
use Rattle.blocks.specs.declared.AllocState.{AllocState}
use Rattle.blocks.specs.Block.{Slot, codes_fit, slot_of}

-- whether a number is one of these
unfoldable pub among : ℕ → List ℕ → Bool
among n [] = false
among n (k ∷ ks) = eqb n k || among n ks

-- a call is taken, or refused by one of these numbers
unfoldable pub by_one_of : {A : Type 0} → List ℕ → Outcome A → Bool
by_one_of ks (taken a) = true
by_one_of ks (refused g) = among g.number ks

-- a block's tests have passed
pub record Tested (st : AllocState) (fscod : ℕ) (hearing log_add : List ℕ) : Type 0 where
  pub tables : tables_fit hearing log_add ≡ true
  pub codes : codes_fit st fscod ≡ true
  pub csnroffst : is_some st.csnroffst ≡ true
  pub parameters : is_some st.bai ≡ true
  pub slots : length st.delta ≡ slot_count

-- then a slot is refused by 12, 10, 6 or 8 alone
abbrev pub InOrder : Type 0
InOrder =
    (st : AllocState) (fscod : ℕ) (hearing log_add : List ℕ) → Tested st fscod hearing log_add → (i : ℕ) → i < slot_count → (s : Slot)
    → by_one_of (12 ∷ 10 ∷ 6 ∷ 8 ∷ []) (slot_of st fscod hearing log_add i s) ≡ true
