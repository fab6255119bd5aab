-- `text::decimal` meets its contract. The invariant: what the rest of the digits makes of v is the number of the whole word.
-- Assumes nothing.
use Rattle.std.proofs.Common.{◌≡◌, ◌≤◌, drop}
use Rattle.text.specs.Text.{after_digits}
use Rattle.text.proofs.decimal.Given as goal

abbrev pub invariant-loop-b : goal.invariant-loop-b
invariant-loop-b l = (l.v ≤ l.most) × (after_digits l.most l.v (drop l.b-index l.word) ≡ after_digits l.most 0 l.word)
