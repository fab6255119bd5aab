-- The calling convention over a block: the pointers of all slots.
-- Assumes nothing.
use Rattle.std.specs.Prelude.{ℕ, List}
use Rattle.refusal.specs.Refusals.{Ran}
use Rattle.convention.specs.Replies.{Told, told, told_of}

-- what a caller is left with: what it is told, and the pointers
pub record Pointed : Type 0 where
  pub told : Told
  pub bap : List (List ℕ)

abbrev pub pointed : ℕ → ℕ → List (List ℕ) → Pointed
pointed k b bap = record { told = told k b; bap = bap }

abbrev pub pointed_of : Ran (List (List ℕ)) Unit → Pointed
pointed_of r = record { told = told_of r.outcome; bap = r.state }
