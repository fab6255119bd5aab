-- `frame::elements` meets its contract: the steps of the definition, one after another.
-- Assumes nothing.
use Rattle.std.proofs.lemmas.Result.{err_from_is_err_and}
use Rattle.frame.proofs.Runs.{bits_stop, length_stop, last_stop, frame_told}
use Rattle.frame.proofs.elements.Goals as goal

pub returns-in_err-read_bits : goal.returns-in_err-read_bits
returns-in_err-read_bits c =
    let a = c.args in
    let p = err_from_is_err_and c.from_residual.result c.from_residual.ensures.1 in
    rw (p.1, p.2) (bits_stop a.total a.codec a.c.now a.log.now c.has_aux-aux.ensures c.bits_behind.ensures c.in_err-read_bits.ensures)

pub returns-in_err-length : goal.returns-in_err-length
returns-in_err-length c =
    let a = c.args in
    let r = c.from_residual-in_err-length in
    let p = err_from_is_err_and r.result r.ensures.1 in
    rw (p.1, p.2)
    (length_stop a.total a.codec a.c.now a.log.now c.has_aux-aux.ensures c.bits_behind.ensures c.in_ok-read_bits.ensures c.in_err-length.ensures)

pub returns-in_err-last_three : goal.returns-in_err-last_three
returns-in_err-last_three c =
    let a = c.args in
    let r = c.from_residual-in_err-last_three in
    let p = err_from_is_err_and r.result r.ensures.1 in
    rw (p.1, p.2)
    (last_stop a.total a.codec a.c.now a.log.now c.has_aux-aux.ensures c.bits_behind.ensures c.in_ok-read_bits.ensures c.in_ok-length.ensures
    c.in_err-last_three.ensures)

pub returns-in_err-check_frame : goal.returns-in_err-check_frame
returns-in_err-check_frame c =
    let a = c.args in
    let r = c.from_residual-in_err-check_frame in
    let p = err_from_is_err_and r.result r.ensures.1 in
    rw (p.1, p.2)
    (frame_told a.total a.codec a.c.now a.log.now c.has_aux-aux.ensures c.bits_behind.ensures c.in_ok-read_bits.ensures c.in_ok-length.ensures
    c.in_ok-last_three.ensures c.in_err-check_frame.ensures)

pub returns : goal.returns
returns c =
    let a = c.args in
    frame_told a.total a.codec a.c.now a.log.now c.has_aux-aux.ensures c.bits_behind.ensures c.in_ok-read_bits.ensures c.in_ok-length.ensures
    c.in_ok-last_three.ensures c.in_ok-check_frame.ensures
