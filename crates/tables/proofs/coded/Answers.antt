-- `tables::coded` meets its contract: what a list has at the code's place.
-- Assumes nothing.
use mathlib.Core.Path.{◌∙◌, ap}
use Rattle.tables.specs.Codes.{coded_of}
use Rattle.tables.proofs.CodeLaws.{code_got}
use Rattle.tables.proofs.coded.Goals as goal

pub returns : goal.returns
returns g c =
    ap coded_of c.copied.ensures
    ∙ code_got c.args.table.now c.args.code c.get.result c.get.ensures.lookup.0 c.get.ensures.lookup.1
