-- `exponents::run::put_run` meets its contract: after i turns i bins are stored.
-- Assumes nothing.
use mathlib.Core.Path.{◌≡◌}
use lib.ListN.{replicate}
use lib.Seq.{sets}
use Rattle.exponents.proofs.run.put_run.Given as goal

abbrev pub invariant-loop-i : goal.invariant-loop-i
invariant-loop-i l = l.exp ≡ sets l.initial.exp l.at (replicate l.i l.e)
