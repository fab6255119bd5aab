-- `tables::band_of` meets its contract: the rule by ranges is the band's of every bin, by one computed test.
-- Assumes nothing.
use native.Mathlib.Omega.{arith}
use borrow.Author.Tests.{lt-ltb, le-ltb}
use Rattle.tables.proofs.BandLaws.{band_rule, rule_is, band_past}
use Rattle.tables.proofs.band_of.Goals as goal

pub returns-in-0-to-27 : goal.returns-in-0-to-27
unfolding band_rule
returns-in-0-to-27 c = rw (← rule_is c.args.b.0 (omega arith), lt-ltb c.args.b.0 28 (omega arith))

pub returns-in-28-to-48 : goal.returns-in-28-to-48
unfolding band_rule
returns-in-28-to-48 c =
    rw (
      ← rule_is c.args.b.0 (omega arith),
      le-ltb c.args.b.0 28 (omega arith),
      lt-ltb c.args.b.0 49 (omega arith),
    )

pub returns-in-49-to-84 : goal.returns-in-49-to-84
unfolding band_rule
returns-in-49-to-84 c =
    rw (
      ← rule_is c.args.b.0 (omega arith),
      le-ltb c.args.b.0 28 (omega arith),
      le-ltb c.args.b.0 49 (omega arith),
      lt-ltb c.args.b.0 85 (omega arith),
    )

pub returns-in-85-to-132 : goal.returns-in-85-to-132
unfolding band_rule
returns-in-85-to-132 c =
    rw (
      ← rule_is c.args.b.0 (omega arith),
      le-ltb c.args.b.0 28 (omega arith),
      le-ltb c.args.b.0 49 (omega arith),
      le-ltb c.args.b.0 85 (omega arith),
      lt-ltb c.args.b.0 133 (omega arith),
    )

pub returns-in-133-to-252 : goal.returns-in-133-to-252
unfolding band_rule
returns-in-133-to-252 c =
    rw (
      ← rule_is c.args.b.0 (omega arith),
      le-ltb c.args.b.0 28 (omega arith),
      le-ltb c.args.b.0 49 (omega arith),
      le-ltb c.args.b.0 85 (omega arith),
      le-ltb c.args.b.0 133 (omega arith),
    )

pub returns-in_default : goal.returns-in_default
returns-in_default c = band_past c.args.b.0 (omega arith)
