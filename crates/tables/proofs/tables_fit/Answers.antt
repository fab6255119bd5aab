-- `tables::tables_fit` meets its contract: one table, then the other.
-- Assumes nothing.
use mathlib.Core.Path.{sym, ◌∙◌}
use Rattle.tables.specs.Fits.{tables_fit}
use Rattle.tables.proofs.FitLaws.{lent_is}
use Rattle.tables.proofs.tables_fit.Goals as goal

pub returns-then-lent_fits : goal.returns-then-lent_fits
unfolding tables_fit
returns-then-lent_fits c =
    rw (sym (c.lent_fits.ensures ∙ lent_is 150 4095 c.args.hearing.now) ∙ c.if-lent_fits.true)
    (c.lent_fits-then-lent_fits.ensures ∙ lent_is 256 64 c.args.latab.now)

pub returns-else-lent_fits : goal.returns-else-lent_fits
unfolding tables_fit
returns-else-lent_fits c = rw (sym (c.lent_fits.ensures ∙ lent_is 150 4095 c.args.hearing.now) ∙ c.if-lent_fits.false) c.if-lent_fits.false
