-- `blocks::fill_slots` meets its contract: the rows before slot i stand in their places, those from there on are zeros, and what the rest
-- makes of them stays the same from turn to turn.
-- Assumes nothing.
use mathlib.Core.Path.{◌≡◌}
use lib.ListN.{length, drop, take}
use Rattle.blocks.specs.Block.{asked, slots_from}
use Rattle.blocks.proofs.Turns.{Blank, after}
use Rattle.blocks.proofs.fill_slots.Given as goal

abbrev pub invariant-loop-i : goal.invariant-loop-i
invariant-loop-i l =
    (length l.bap ≡ 7) × Blank l.i l.bap
    × (after (take l.i l.bap) (slots_from l.block.state.now l.block.shared.fscod l.block.hearing.now l.block.log_add.now l.i (drop l.i (asked l.present l.high l.exponents l.ranges)))
    ≡ slots_from l.block.state.now l.block.shared.fscod l.block.hearing.now l.block.log_add.now 0 (asked l.present l.high l.exponents l.ranges))
