-- `tables::start_of` meets its contract: the rule by ranges is the printed list, by one computed test.
-- Assumes nothing.
use native.Mathlib.Omega.{arith}
use borrow.Author.Tests.{lt-ltb, le-ltb}
use Rattle.tables.proofs.BandLaws.{start_rule, start_rule_is, start_past}
use Rattle.tables.proofs.start_of.Goals as goal

pub returns-in-0-to-27 : goal.returns-in-0-to-27
unfolding start_rule
returns-in-0-to-27 c =
    rw (
      ← start_rule_is c.args.k.0 (omega arith),
      lt-ltb c.args.k.0 28 (omega arith),
    )

pub returns-in-28-to-34 : goal.returns-in-28-to-34
unfolding start_rule
returns-in-28-to-34 c =
    rw (
      ← start_rule_is c.args.k.0 (omega arith),
      le-ltb c.args.k.0 28 (omega arith),
      lt-ltb c.args.k.0 35 (omega arith),
    )

pub returns-in-35-to-40 : goal.returns-in-35-to-40
unfolding start_rule
returns-in-35-to-40 c =
    rw (
      ← start_rule_is c.args.k.0 (omega arith),
      le-ltb c.args.k.0 28 (omega arith),
      le-ltb c.args.k.0 35 (omega arith),
      lt-ltb c.args.k.0 41 (omega arith),
    )

pub returns-in-41-to-44 : goal.returns-in-41-to-44
unfolding start_rule
returns-in-41-to-44 c =
    rw (
      ← start_rule_is c.args.k.0 (omega arith),
      le-ltb c.args.k.0 28 (omega arith),
      le-ltb c.args.k.0 35 (omega arith),
      le-ltb c.args.k.0 41 (omega arith),
      lt-ltb c.args.k.0 45 (omega arith),
    )

pub returns-in-45-to-49 : goal.returns-in-45-to-49
unfolding start_rule
returns-in-45-to-49 c =
    rw (
      ← start_rule_is c.args.k.0 (omega arith),
      le-ltb c.args.k.0 28 (omega arith),
      le-ltb c.args.k.0 35 (omega arith),
      le-ltb c.args.k.0 41 (omega arith),
      le-ltb c.args.k.0 45 (omega arith),
    )

pub returns-in_default : goal.returns-in_default
returns-in_default c = start_past c.args.k.0 (omega arith)
