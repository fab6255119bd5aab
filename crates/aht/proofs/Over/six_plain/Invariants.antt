-- `aht::Over::six_plain` meets its contract: the loop makes the step six times.
-- Assumes nothing.
use mathlib.Core.Path.{◌≡◌}
use Rattle.aht.specs.Aht.{times, read_on}
use Rattle.aht.specs.Tallies.{tally_of}
use Rattle.aht.proofs.Over.six_plain.Given as goal

abbrev pub invariant-loop-block : goal.invariant-loop-block
invariant-loop-block l =
    tally_of l.self.frame.now l.self.place l.t ≡ times l._block (read_on l.self.frame.now l.m) (tally_of l.self.frame.now l.self.place l.initial.t)
