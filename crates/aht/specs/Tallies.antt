-- What the code holds of an AHT walk on its way, and the widths and bounds that it works with. These follow the steps of private functions:
-- no public contract cites them.
-- Assumes nothing.
use Rattle.std.specs.Prelude.{ℕ, ◌-◌, ◌*◌, cond, List, eqb, Result, Ok, Err}
use Rattle.refusal.specs.declared.Why.{Why}
use Rattle.refusal.specs.Refusals.{number_of, Outcome, taken, refused, grounds}
use Rattle.bits.specs.Bits.{bits_at}
use Rattle.syntax.specs.declared.Place.{Place}
use Rattle.aht.specs.declared.Over.{Over}
use Rattle.aht.specs.declared.Tally.{Tally}
use Rattle.aht.specs.Aht.{Walk, tallied, going, sections}

-- a place at another bit
abbrev pub place_at : Place → ℕ → Place
place_at p bit = record { pos = bit; limit = p.limit; block = p.block; count = p.count }

-- what was read last: the `last` bits before a tally's bit
abbrev pub last_of : List ℕ → Tally → ℕ
last_of frame t = bits_at frame (t.pos - t.last) t.last

-- what a tally means over a frame from place p on, of a walk that goes on
abbrev pub tally_of : List ℕ → Place → Tally → Walk
tally_of frame p t = going (last_of frame t) (tallied (place_at p t.pos) t.tags)

-- the same after a step, by what the step answers: it is refused at the tally's bit
abbrev pub course_of : Result Unit Why → ℕ → ℕ → Outcome ℕ
course_of (Ok _) bit v = taken v
course_of (Err why) bit v = refused (grounds (number_of why) bit)

abbrev pub step_of : List ℕ → Place → Result Unit Why → Tally → Walk
step_of frame p r t = record { outcome = course_of r t.pos (last_of frame t); state = tallied (place_at p t.pos) t.tags }

-- both over what a walk goes over
abbrev pub stood : Over → Tally → Walk
stood o t = tally_of o.frame.now o.place t

abbrev pub went : Over → Result Unit Why → Tally → Walk
went o r t = step_of o.frame.now o.place r t

-- how many bits a gain word has, and all words of n active bins
abbrev pub word_width : ℕ → ℕ
word_width mode = cond (eqb mode 3) 5 1

abbrev pub gain_bits : ℕ → ℕ → ℕ
gain_bits mode n = sections mode n * word_width mode
