-- `alloc::step_first` meets its contract: the leaks stay.
-- Assumes nothing.
use native.Mathlib.Omega.{arith}
use lib.IntN.{ℤ, ◌-ℤ◌}
use mir.Syntax.{w32}
use mir.Val.{SFits}
use mir.Facts.{to_z-of_z}
use Rattle.tables.specs.Numbers.{Within}
use Rattle.alloc.specs.Excite.{step_first}
use Rattle.tables.proofs.Signed.{sfits, min_law, within_fits}
use Rattle.alloc.proofs.step_first.Goals as goal
use Rattle.std.proofs.Common.{rules}

module _ (p g l : ℤ) (h : Within 131072 131072 p) (k : Within 0 2048 g) (m : Within 0 2048 l) where
  f-1 : SFits w32 (p -ℤ g)
  f-1 =
      let a = min_law p g in
      sfits _ (omega arith) (omega arith)

  f-2 : SFits w32 (p -ℤ g -ℤ l)
  f-2 =
      let a = min_law p g in
      let b = min_law (p -ℤ g) l in
      sfits _ (omega arith) (omega arith)

pub returns : goal.returns
unfolding step_first
returns c =
    let fp = c.ranges.p in
    let fl = c.ranges.low in
    let fg = within_fits 0 2048 c.requires.1 tt tt in
    let g1 = f-1 c.args.p c.args.c.fgain c.args.low c.requires.0 c.requires.1 c.requires.2 in
    let g2 = f-2 c.args.p c.args.c.fgain c.args.low c.requires.0 c.requires.1 c.requires.2 in
    let ff : SFits w32 c.args.s.fast = search rules in
    let fs : SFits w32 c.args.s.slow = search rules in
    simp to_z-of_z
