-- `blocks::slot_delta` meets its contract: 6, or the segments that deltnseg announces.
-- Assumes nothing.
use native.Mathlib.Omega.{arith}
use Rattle.std.proofs.lemmas.Result.{err_from_is_err_and}
use Rattle.blocks.specs.Side.{nseg_ask}
use Rattle.blocks.proofs.Held.{read_asked}
use Rattle.blocks.proofs.SideLaws.{read_below, nseg_stops}
use Rattle.blocks.proofs.slot_delta.Goals as goal

pub returns-in_err-nseg : goal.returns-in_err-nseg
returns-in_err-nseg c =
    let a = c.args in
    let p = err_from_is_err_and c.from_residual.result c.from_residual.ensures.1 in
    rw (p.1, p.2) (nseg_stops a.slot a.c.now a.log.now c.if-slot-gt-LFE.false (read_asked a.c.now a.log.now c.field.ensures c.in_err-nseg.ensures))

pub segments-requires-clause-room : goal.segments-requires-clause-room
segments-requires-clause-room c =
    omega (arith, read_below _ _ (nseg_ask c.args.slot) (read_asked c.args.c.now c.args.log.now c.field.ensures c.in_ok-nseg.ensures))
