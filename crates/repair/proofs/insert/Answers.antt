-- `repair::insert` meets its contract. Assumes nothing.
use Rattle.std.proofs.Common.{suc}
use Rattle.repair.proofs.Elimination.{filled_more}
use Rattle.repair.proofs.insert.Goals as goal

pub returns : goal.returns
returns c =
    let a = c.args in
    let r = c.reduce-new.ensures in
    λ L m lin eu ec b.
    filled_more L lin m a.basis.now a.column.comb a.column.val eu ec b c.reduce-new.result r.0 (r.1 L (suc m) lin b.places)
