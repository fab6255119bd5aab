-- `blocks::quiet_slots` meets its contract: whether the slots from slot i on have no fine offset stays the same from turn to turn.
-- Assumes nothing.
use Prim.Native.Nat.{ℕ}
use mathlib.Core.Path.{◌≡◌}
use mathlib.Core.Bool.{Bool}
use mathlib.Core.List.{List}
use lib.ListN.{drop}
use Rattle.blocks.specs.Block.{asked, quiet_from}
use Rattle.blocks.proofs.quiet_slots.Given as goal

abbrev pub invariant-loop-i : goal.invariant-loop-i
invariant-loop-i l =
    (high : List Bool) (exponents ranges : List (List ℕ))
    → quiet_from l.state.fsnroffst l.i (drop l.i (asked l.present high exponents ranges)) ≡ quiet_from l.state.fsnroffst 0 (asked l.present high exponents ranges)
