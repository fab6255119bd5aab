-- `blocks::fill_slots` meets its contract: the rows before slot i stand in their places, those from there on are zeros, and what the rest
-- makes of them stays the same from turn to turn.
-- Assumes nothing.
use mathlib.Core.Path.{◌∙◌}
use native.Mathlib.Omega.{arith}
use lib.ListN.{length-set}
use Rattle.blocks.specs.Block.{slot_at}
use Rattle.blocks.proofs.Cases.{slot_taken}
use Rattle.blocks.proofs.Turns.{blank_on, slots_on_lem}
use Rattle.blocks.proofs.fill_slots.Goals as goal

pub loop-i-preserved : goal.loop-i-preserved
unfolding slot_at
loop-i-preserved c =
    let a = c.args in
    let n = c.loop-i.invariant.0 in
    let e = slot_taken c.fill_slot-one.result _ c.fill_slot-one.ensures c.in_default.is in (
      length-set c.loop-i.bap c.loop-i.i _ ∙ n,
      blank_on c.loop-i.bap c.loop-i.i _ c.loop-i.invariant.1,
      slots_on_lem a.block.state.now a.block.shared.fscod a.present.now a.high.now a.exponents.now a.ranges.now a.block.hearing.now a.block.log_add.now c.loop-i.i c.loop-i.bap (omega arith) (omega arith) e
          ∙ c.loop-i.invariant.2,
    )
