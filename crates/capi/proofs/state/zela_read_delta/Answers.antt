-- `capi::state::zela_read_delta` meets its contract: it hands over what the call below it answers.
-- Assumes nothing.
use mathlib.Core.Path.{ap, ◌∙◌}
use mir.Facts.{to_z-of_z}
use Rattle.refusal.specs.Refusals.{Ran, then_run}
use Rattle.syntax.specs.declared.Place.{Place}
use Rattle.syntax.specs.Reads.{Standing, standing, moved_of}
use Rattle.tables.specs.declared.Delta.{Delta}
use Rattle.blocks.specs.Side.{with_delta, reached, slot_delta_of, settled_of, read_delta_of}
use Rattle.capi.specs.States.{state_from, gathered_of}
use Rattle.capi.proofs.Rows.{gathered_put}
use Rattle.capi.proofs.state.zela_read_delta.Goals as goal

pub returns : goal.returns
unfolding read_delta_of
returns c =
    let a = c.args in
    gathered_put a.state.now a.slot (moved_of c.read_delta-read.result c.read_delta-read.new.log) c.put_segments.ensures
    ∙ ap (λ (p : Ran Standing Delta). gathered_of a.state.now (settled_of (state_from a.state.now) (then_run p (λ d st. reached (with_delta (state_from a.state.now) a.slot d) st))))
    (c.read_delta-read.ensures
    ∙ ap (λ (p : Place). slot_delta_of a.frame.now (standing p a.log.now) a.slot) (rw (to_z-of_z c.ranges.block) at c.place_of-place.ensures))
