-- `capi::state::put_segments` meets its contract: a refused call changes nothing.
-- Assumes nothing.
use Rattle.capi.proofs.Rows.{kept_told}
use Rattle.capi.proofs.state.put_segments.Goals as goal

pub returns-in-Err : goal.returns-in-Err
returns-in-Err c = kept_told c.args.rows.now c.args.slot c.lacks_row-lacks.ensures.1 c.in-Err.is c.tell.ensures
