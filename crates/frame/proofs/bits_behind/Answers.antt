-- `frame::bits_behind` meets its contract.
-- Assumes nothing.
use Rattle.frame.specs.Tail.{behind}
use Rattle.frame.proofs.bits_behind.Goals as goal

pub returns-then-aux : goal.returns-then-aux
unfolding behind
returns-then-aux c = rw c.if-aux.true

pub returns-else-aux : goal.returns-else-aux
unfolding behind
returns-else-aux c = rw c.if-aux.false
