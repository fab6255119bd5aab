-- `blocks::segments` meets its contract: what has been read is the segments so far, as many as turns.
-- Assumes nothing.
use Prim.Native.Nat.{◌≤◌}
use mathlib.Core.Path.{◌≡◌}
use Rattle.refusal.specs.Refusals.{taken}
use Rattle.syntax.specs.Reads.{standing}
use Rattle.syntax.specs.Cursors.{held_of, over}
use Rattle.blocks.specs.Block.{no_delta}
use Rattle.blocks.specs.Side.{segments_of, reached}
use Rattle.blocks.proofs.segments.Given as goal

abbrev pub invariant-loop : goal.invariant-loop
invariant-loop l =
    let s = l.initial in
    (l.delta.count ≤ l.counter)
    × (held_of (taken l.delta) l.c l.log ≡ over s.c (segments_of s.c.bytes.now l.slot l.counter (reached no_delta (standing s.c.place s.log))))
