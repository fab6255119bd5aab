-- `text::find` meets its contract.
-- Assumes nothing.
use Rattle.std.proofs.Common.{arith}
use Rattle.std.proofs.lemmas.Grind.{common_steps}
use Rattle.text.specs.Text.{ahead}
use Rattle.text.proofs.Laws.{ahead_length}
use Rattle.text.proofs.find.Goals as goal

pub returns-in-Some-clause-value : goal.returns-in-Some-clause-value
returns-in-Some-clause-value c = grind (arith, common_steps, ahead_length)

pub returns-in-None-clause-value : goal.returns-in-None-clause-value
unfolding ahead
returns-in-None-clause-value c = grind (arith, common_steps)
