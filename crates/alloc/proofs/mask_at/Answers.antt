-- `alloc::mask_at` meets its contract: the knee raises the excitation of a weak band.
-- Assumes nothing.
use Prim.Native.Nat.{◌<◌, ◌^◌}
use native.Mathlib.Omega.{arith}
use lib.IntN.{ℤ, ◌-ℤ◌, ◌+ℤ◌}
use lib.Signed.{shr_z}
use mir.Syntax.{w32}
use mir.Val.{SFits}
use mir.Facts.{to_z-of_z, to_z_pos}
use Rattle.tables.specs.Numbers.{Within}
use Rattle.alloc.specs.Clauses.{mask_at}
use Rattle.tables.proofs.Signed.{within_fits, within_sub, within_add, shr4_law}
use Rattle.alloc.proofs.mask_at.Goals as goal

module _ (e p k : ℤ) (h : Within 262144 262144 e × Within 131072 131072 p × Within 0 4096 k) where
  w_1 : Within 131072 135168 (k -ℤ p)
  w_1 = within_sub 0 4096 131072 131072 k p h.2 h.1

  w_2 : Within 131072 135168 (shr_z (k -ℤ p) 4)
  w_2 =
      let w = w_1 in
      let s = shr4_law (k -ℤ p) in
      record { low = omega arith; high = omega arith }

  f-1 : SFits w32 (k -ℤ p)
  f-1 = within_fits 131072 135168 w_1 tt tt

  f-2 : SFits w32 (shr_z (k -ℤ p) 4)
  f-2 = within_fits 131072 135168 w_2 tt tt

  f-3 : SFits w32 (e +ℤ shr_z (k -ℤ p) 4)
  f-3 = within_fits 393216 397312 (within_add 262144 262144 131072 135168 e (shr_z (k -ℤ p) 4) h.0 w_2) tt tt

pub returns-then-power-knee : goal.returns-then-power-knee
unfolding mask_at
returns-then-power-knee c =
    let fe = c.ranges.excite in
    let fp = c.ranges.power in
    let fk = c.ranges.knee in
    let g1 = f-1 c.args.excite c.args.power c.args.knee c.requires in
    let g2 = f-2 c.args.excite c.args.power c.args.knee c.requires in
    let g3 = f-3 c.args.excite c.args.power c.args.knee c.requires in
    let h : c.args.hth < 2 ^ 31 = omega arith in
    let r : SFits w32 c.max.result = record { sfits = c.max.type_inv } in
    let t = simp to_z-of_z at c.if-power-knee.true in
    simp to_z-of_z (rw t (rw (to_z_pos w32 h) at (simp to_z-of_z at c.max.ensures.value)))
