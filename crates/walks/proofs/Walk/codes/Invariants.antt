-- `walks::Walk::codes` meets its contract: what the rest of the codes makes of the state so far stays the same from turn to turn.
-- Assumes nothing.
use mathlib.Core.Path.{◌≡◌}
use lib.ListN.{drop}
use Rattle.walks.specs.Walk.{state, going, walk_codes}
use Rattle.walks.proofs.Walk.codes.Given as goal

abbrev pub invariant-loop-b : goal.invariant-loop-b
invariant-loop-b l =
    walk_codes (drop l.b-index l.bap) (going (state l.self.place l.self.groups)) ≡ walk_codes l.bap (going (state l.initial.self.place l.initial.self.groups))
