-- `alloc::next_segment` meets its contract: a segment begins where the last one ended.
-- Assumes nothing.
use mathlib.Core.Path.{subst, sym}
use native.Mathlib.Omega.{arith}
use mir.Syntax.{w32}
use mir.Val.{SFits}
use mir.Facts.{to_z-of_z}
use Rattle.tables.specs.Numbers.{Within}
use Rattle.alloc.proofs.RangeLaws.{delta_within}
use Rattle.alloc.proofs.next_segment.Goals as goal

pub add_segment-requires : goal.add_segment-requires
add_segment-requires c =
    let f : SFits w32 c.delta_of-d.result = record { sfits = c.delta_of-d.type_inv } in
    let w = subst (Within 512 512) (sym c.delta_of-d.ensures) (delta_within c.args.ba c.requires.4) in
    (c.requires.0, rw (to_z-of_z f) w, omega arith, omega arith)
