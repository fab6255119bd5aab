-- The calling convention over a tail: where the user bits stand, and what the cursor, its block and the log are then.
-- Assumes nothing.
use Rattle.std.specs.Prelude.{ℕ, List, ℤ}
use Rattle.refusal.specs.Refusals.{Ran}
use Rattle.syntax.specs.Reads.{Standing}
use Rattle.frame.specs.declared.Stretch.{Stretch}
use Rattle.capi.specs.Standings.{Stood, stood, stood_of}

-- a stretch of bits, from the room that it is written to
abbrev pub stretch : ℕ → ℕ → Stretch
stretch start width = record { start = start; width = width }

-- what a caller is left with after a tail: beside the reply, the cursor and the log, its block
pub record Closed : Type 0 where
  pub stood : Stood Stretch
  pub block : ℤ

abbrev pub closed : ℕ → Stretch → ℕ → ℕ → ℤ → ℕ → List ℕ → Closed
closed k user b at block count log = record { stood = stood k user b at count log; block = block }

abbrev pub closed_of : Ran Standing Stretch → Closed
closed_of r = record { stood = stood_of (stretch 0 0) r; block = r.state.place.block }
