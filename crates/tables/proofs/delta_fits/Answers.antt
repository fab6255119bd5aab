-- `tables::delta_fits` meets its contract: the count, then each of three lists up to it.
-- Assumes nothing.
use native.Mathlib.Omega.{arith}
use Rattle.std.proofs.lemmas.Bool.Decides.{nat_tests}
use Rattle.tables.specs.Fits.{delta_fits}
use Rattle.tables.proofs.FitLaws.{upto_whole}
use Rattle.tables.proofs.delta_fits.Goals as goal

pub returns-then-all_upto-2 : goal.returns-then-all_upto-2
unfolding delta_fits
returns-then-all_upto-2 c = grind (arith, nat_tests, c.if-n-le8.branch, c.if-all_upto.branch, upto_whole)

pub returns-else-all_upto-2 : goal.returns-else-all_upto-2
unfolding delta_fits
returns-else-all_upto-2 c = grind (arith, nat_tests, c.if-n-le8.branch, c.if-all_upto.branch, upto_whole)
