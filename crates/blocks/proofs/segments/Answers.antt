-- `blocks::segments` meets its contract: after so many turns it has read so many segments.
-- Assumes nothing.
use native.Mathlib.Omega.{arith}
use Rattle.std.proofs.lemmas.Result.{err_from_is_err_and}
use Rattle.blocks.proofs.SideLaws.{segments_halt}
use Rattle.blocks.proofs.segments.Goals as goal

pub returns-in_err-segment : goal.returns-in_err-segment
returns-in_err-segment c =
    let p = err_from_is_err_and c.from_residual.result c.from_residual.ensures.1 in
    rw (p.1, p.2) (segments_halt c.args.slot c.loop.counter c.args.c.now _ c.loop.invariant.1 c.in_err-segment.ensures.run (omega arith))
