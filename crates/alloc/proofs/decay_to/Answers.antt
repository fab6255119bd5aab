-- `alloc::decay_to` meets its contract: neither difference leaves an i32.
-- Assumes nothing.
use native.Mathlib.Omega.{arith}
use lib.IntN.{ℤ, ◌-ℤ◌}
use mir.Syntax.{w32}
use mir.Val.{SFits}
use mir.Facts.{to_z-of_z}
use Rattle.tables.specs.Numbers.{Within}
use Rattle.alloc.specs.Excite.{decayed}
use Rattle.tables.proofs.Signed.{sfits, min_law}
use Rattle.alloc.proofs.decay_to.Goals as goal

f-sub : (a b : ℤ) → Within 131072 131072 a → Within 0 2048 b → SFits w32 (a -ℤ b)
f-sub a b h k =
    let m = min_law a b in
    sfits _ (omega arith) (omega arith)

pub returns : goal.returns
unfolding decayed
returns c =
    let f1 = c.ranges.power in
    let f2 = c.ranges.gain in
    let f3 = c.ranges.leak in
    let f4 = c.ranges.decay in
    let g1 = f-sub c.args.leak c.args.decay c.requires.0 c.requires.1 in
    let g2 = f-sub c.args.power c.args.gain c.requires.2 c.requires.3 in
    let r : SFits w32 c.max.result = record { sfits = c.max.type_inv } in
    simp to_z-of_z (simp to_z-of_z at c.max.ensures.value)
