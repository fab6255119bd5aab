-- `aht::Over::six_gained` meets its contract: the loop makes the step six times.
-- Assumes nothing.
use mathlib.Core.Path.{◌≡◌}
use Rattle.aht.specs.Aht.{times, gained_on}
use Rattle.aht.specs.Tallies.{tally_of}
use Rattle.aht.proofs.Over.six_gained.Given as goal

abbrev pub invariant-loop-block : goal.invariant-loop-block
invariant-loop-block l =
    tally_of l.self.frame.now l.self.place l.t ≡ times l._block (gained_on l.self.frame.now l.s l.l) (tally_of l.self.frame.now l.self.place l.initial.t)
