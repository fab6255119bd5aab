-- The calling convention over a mantissa walk: the cursor's position and the groups are read and written.
-- Assumes nothing.
use Rattle.std.specs.Prelude.{ℕ}
use Rattle.refusal.specs.Refusals.{Ran}
use Rattle.walks.specs.declared.Groups.{Groups}
use Rattle.walks.specs.Walk.{State}
use Rattle.convention.specs.Replies.{Told, told, told_of}

-- the groups, from a caller's numbers
abbrev pub groups_of : ℕ → ℕ → ℕ → Groups
groups_of g1 g2 g4 = record { g1 = g1; g2 = g2; g4 = g4 }

-- what a caller is left with: what it is told, the cursor's position, and the groups, which the next walk takes
pub record Carried : Type 0 where
  pub told : Told
  pub pos : ℕ
  pub groups : Groups

abbrev pub carried : ℕ → ℕ → ℕ → Groups → Carried
carried k b at g = record { told = told k b; pos = at; groups = g }

abbrev pub carried_of : Ran State Unit → Carried
carried_of r = record { told = told_of r.outcome; pos = r.state.place.pos; groups = r.state.groups }
