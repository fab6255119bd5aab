-- `aht::Over::words` meets its contract: the loop makes the step n times.
-- Assumes nothing.
use Prim.Native.Nat.{◌+◌, ◌*◌, ◌≤◌}
use mathlib.Core.Path.{◌≡◌}
use Rattle.aht.specs.Aht.{times, word_on}
use Rattle.aht.specs.Tallies.{tally_of, word_width}
use Rattle.aht.proofs.Over.words.Given as goal

abbrev pub invariant-loop-word : goal.invariant-loop-word
invariant-loop-word l =
    (tally_of l.self.frame.now l.self.place l.t ≡ times l._word (word_on l.self.frame.now l.mode) (tally_of l.self.frame.now l.self.place l.initial.t))
    × (l.t.pos ≡ l.initial.t.pos + l._word * word_width l.mode) × (l.t.pos ≤ l.self.place.limit)
