-- `exponents::group` meets its contract: it is what is read, unpacked.
-- Assumes nothing.
use Rattle.std.proofs.lemmas.Result.{err_from_is_err_and}
use Rattle.exponents.specs.Turns.{laid_of}
use Rattle.exponents.proofs.Ways.{group_stays, group_above, group_ends}
use Rattle.exponents.proofs.group.Goals as goal

pub returns-in_err-value-clause-laid : goal.returns-in_err-value-clause-laid
returns-in_err-value-clause-laid c =
    let a = c.args in
    let p = err_from_is_err_and c.from_residual.result c.from_residual.ensures.1 in
    rw (p.1, p.2) (group_stays a.run.now.size (laid_of a.run.now a.exp.now) a.c.now _ c.in_err-value.ensures)

pub returns-then-value-gt124-clause-laid : goal.returns-then-value-gt124-clause-laid
returns-then-value-gt124-clause-laid c =
    let a = c.args in
    rw c.at.ensures (group_above a.run.now.size (laid_of a.run.now a.exp.now) a.c.now _ c.in_ok-value.ensures c.if-value-gt124.true)

pub returns-clause-laid : goal.returns-clause-laid
returns-clause-laid c =
    let a = c.args in
    group_ends a.run.now.size (laid_of a.run.now a.exp.now) a.c.now _ c.in_ok-value.ensures c.if-value-gt124.false c.unpack.ensures.laid
