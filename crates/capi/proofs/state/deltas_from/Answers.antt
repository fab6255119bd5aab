-- `capi::state::deltas_from` meets its contract: the slots so far have their rows.
-- Assumes nothing.
use mathlib.Core.Path.{◌≡◌, ap, ◌∙◌}
use native.Mathlib.Omega.{arith}
use Rattle.alloc.specs.Table.{table, inside}
use Prim.Native.Nat.{ℕ, ◌+◌}
use Rattle.blocks.specs.Block.{no_delta}
use Rattle.capi.specs.States.{row_at, segments_from}
use Rattle.capi.proofs.Rows.{from_one}
use Rattle.capi.proofs.state.deltas_from.Goals as goal

pub returns : goal.returns
returns c =
    let f = λ (k : ℕ). segments_from (row_at c.args.rows.now k) in
    let all : c.loop-slot.slot ≡ 7 = omega arith in
    c.loop-slot.invariant ∙ ap (λ (n : ℕ). table 7 (inside 0 n no_delta (λ k. f (k + 1)))) all ∙ from_one 7 no_delta f
