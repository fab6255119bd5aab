-- `repair::crc1_of` meets its contract. Assumes nothing.
use mathlib.Core.Path.{◌∙◌}
use Prim.Native.Nat.{◌+◌, ◌*◌, ◌^◌, ◌<◌}
use borrow.Author.Rules.{rules}
use lib.ListN.{length}
use Rattle.crc.specs.Crc.{idle}
use Rattle.crc.proofs.Ends.{crc1_found}
use Rattle.repair.proofs.Units.{idle_map}
use Rattle.repair.proofs.crc1_of.Goals as goal

pub returns : goal.returns
returns c =
    let xs = c.args.rest.now in
    let n = 8 * (length xs + 2) in
    let h : c.solve.result < 2 ^ 16 = search rules in
    crc1_found c.solve.result xs h (c.solve.ensures (idle n) (idle_map n) c.columns-cols.ensures ∙ c.crc16-target.ensures)
