-- `blocks::segment` meets its contract: three elements are a segment.
-- Assumes nothing.
use native.Mathlib.Omega.{arith}
use Rattle.std.proofs.lemmas.Result.{err_from_is_err_and}
use Rattle.blocks.specs.Side.{offst_ask, len_ask, ba_ask}
use Rattle.blocks.proofs.Held.{read_asked}
use Rattle.blocks.proofs.SideLaws.{read_below, offset_stops, len_stops, ba_stops, segment_read}
use Rattle.blocks.proofs.segment.Goals as goal

pub returns-in_err-offset-clause-run : goal.returns-in_err-offset-clause-run
returns-in_err-offset-clause-run c =
    let a = c.args in
    let p = err_from_is_err_and c.from_residual.result c.from_residual.ensures.1 in
    rw (p.1, p.2) (offset_stops a.slot a.delta.now a.c.now a.log.now (read_asked a.c.now a.log.now c.field.ensures c.in_err-offset.ensures))

pub returns-in_err-len-clause-run : goal.returns-in_err-len-clause-run
returns-in_err-len-clause-run c =
    let a = c.args in
    let r = c.from_residual-in_err-len in
    let p = err_from_is_err_and r.result r.ensures.1 in
    rw (p.1, p.2)
    (len_stops a.slot a.delta.now a.c.now a.log.now (read_asked a.c.now a.log.now c.field.ensures c.in_ok-offset.ensures)
    (read_asked _ _ c.field-2.ensures c.in_err-len.ensures))

pub returns-in_err-ba-clause-run : goal.returns-in_err-ba-clause-run
returns-in_err-ba-clause-run c =
    let a = c.args in
    let r = c.from_residual-in_err-ba in
    let p = err_from_is_err_and r.result r.ensures.1 in
    rw (p.1, p.2)
    (ba_stops a.slot a.delta.now a.c.now a.log.now (read_asked a.c.now a.log.now c.field.ensures c.in_ok-offset.ensures)
    (read_asked _ _ c.field-2.ensures c.in_ok-len.ensures) (read_asked _ _ c.field-3.ensures c.in_err-ba.ensures))

pub overflow_cast-offset : goal.overflow_cast-offset
overflow_cast-offset c =
    let a = c.args in
    omega (arith, read_below a.c.now a.log.now (offst_ask a.slot) (read_asked _ _ c.field.ensures c.in_ok-offset.ensures))

pub overflow_cast-len : goal.overflow_cast-len
overflow_cast-len c =
    omega (arith, read_below _ _ (len_ask c.args.slot) (read_asked c.read_next.new.c c.read_next.new.log c.field-2.ensures c.in_ok-len.ensures))

pub overflow_cast-ba : goal.overflow_cast-ba
overflow_cast-ba c =
    omega (arith, read_below _ _ (ba_ask c.args.slot) (read_asked c.read_next-2.new.c c.read_next-2.new.log c.field-3.ensures c.in_ok-ba.ensures))

pub returns-clause-run : goal.returns-clause-run
returns-clause-run c =
    let a = c.args in
    segment_read a.slot a.delta.now a.c.now a.log.now (read_asked a.c.now a.log.now c.field.ensures c.in_ok-offset.ensures)
    (read_asked _ _ c.field-2.ensures c.in_ok-len.ensures) (read_asked _ _ c.field-3.ensures c.in_ok-ba.ensures) c.put_segment.ensures
