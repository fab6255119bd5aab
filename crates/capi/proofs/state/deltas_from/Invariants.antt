-- `capi::state::deltas_from` meets its contract: the slots so far have their rows.
-- Assumes nothing.
use Prim.Native.Nat.{◌+◌}
use mathlib.Core.Path.{◌≡◌}
use Rattle.alloc.specs.Table.{table, inside}
use Rattle.blocks.specs.Block.{no_delta}
use Rattle.capi.specs.States.{row_at, segments_from}
use Rattle.capi.proofs.state.deltas_from.Given as goal

abbrev pub invariant-loop-slot : goal.invariant-loop-slot
invariant-loop-slot l = l.deltas ≡ table 7 (inside 0 l.slot no_delta (λ k. segments_from (row_at l.rows (k + 1))))
