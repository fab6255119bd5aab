-- The calling convention over an exponent set: beside the cursor and the log, the set is written.
-- Assumes nothing.
use Rattle.std.specs.Prelude.{ℕ, List}
use Rattle.refusal.specs.Refusals.{Ran}
use Rattle.exponents.specs.declared.ExpSet.{ExpSet}
use Rattle.exponents.specs.Reads.{Left}
use Rattle.capi.specs.Standings.{Moved, moved, moved_of}

-- a set, from the room that it is written to
abbrev pub set_of : List ℕ → ℕ → ℕ → ExpSet
set_of exp start end = record { exp = exp; start = start; end = end }

-- what a caller is left with: what it is told, the cursor and the log, and the set
pub record Unpacked : Type 0 where
  pub moved : Moved
  pub set : ExpSet

abbrev pub unpacked : ℕ → ℕ → ℕ → ℕ → List ℕ → ExpSet → Unpacked
unpacked k b at count log set = record { moved = moved k b at count log; set = set }

abbrev pub unpacked_of : Ran Left Unit → Unpacked
unpacked_of r = record { moved = moved_of (record { outcome = r.outcome; state = r.state.standing }); set = r.state.set }
