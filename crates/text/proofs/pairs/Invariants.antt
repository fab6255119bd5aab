-- `text::pairs` meets its contract. The invariant: what the rest of the pairs adds to the first i bytes is what the whole word says.
-- Assumes nothing.
use Rattle.std.proofs.Common.{◌≡◌, ◌*◌, take, drop, []}
use Rattle.text.specs.Text.{after_pairs}
use Rattle.text.proofs.pairs.Given as goal

abbrev pub invariant-loop-i : goal.invariant-loop-i
invariant-loop-i l = after_pairs (take l.i l.out) (drop (2 * l.i) l.word) ≡ after_pairs [] l.word
