-- `alloc::step_begin` meets its contract: both leaks begin at the power less a gain.
-- Assumes nothing.
use lib.IntN.{ℤ, ◌-ℤ◌}
use mir.Syntax.{w32}
use mir.Val.{SFits}
use mir.Facts.{to_z-of_z}
use Rattle.tables.specs.Numbers.{Within}
use Rattle.alloc.specs.Excite.{step_begin}
use Rattle.tables.proofs.Signed.{within_fits, within_sub}
use Rattle.alloc.proofs.step_begin.Goals as goal

module _ (p g l : ℤ) (h : Within 131072 131072 p) (k : Within 0 2048 g) (m : Within 0 384 l) where
  f-1 : SFits w32 (p -ℤ g)
  f-1 = within_fits 133120 131072 (within_sub 131072 131072 0 2048 p g h k) tt tt

  f-2 : SFits w32 (p -ℤ g -ℤ l)
  f-2 = within_fits 133504 131072 (within_sub 133120 131072 0 384 (p -ℤ g) l (within_sub 131072 131072 0 2048 p g h k) m) tt tt

pub returns : goal.returns
unfolding step_begin
returns c =
    let fp = c.ranges.p in
    let fq = c.ranges.q in
    let fl = c.ranges.low in
    let fg = within_fits 0 2048 c.requires.1.fg tt tt in
    let sg = within_fits 0 2048 c.requires.1.sg tt tt in
    let g1 = f-1 c.args.p c.args.c.fgain c.args.low c.requires.0 c.requires.1.fg c.requires.2 in
    let g2 = f-2 c.args.p c.args.c.fgain c.args.low c.requires.0 c.requires.1.fg c.requires.2 in
    let g3 = f-1 c.args.p c.args.c.sgain c.args.low c.requires.0 c.requires.1.sg c.requires.2 in
    simp to_z-of_z (rw (simp to_z-of_z at c.begins.ensures))
