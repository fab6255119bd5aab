-- `tables::snr_of` meets its contract: every step fits, and past either table there is nothing.
-- Assumes nothing.
use Prim.Native.Nat.{ℕ, ◌<◌, ◌≤◌, ◌^◌}
use native.Mathlib.Omega.{arith}
use borrow.Author.Tests.{le-ltb}
use lib.IntN.{pos, ◌-ℤ◌, ◌+ℤ◌, ◌*ℤ◌}
use mir.Syntax.{w32}
use mir.Val.{SFits}
use mir.Facts.{to_z-of_z, to_z_pos}
use Rattle.tables.specs.Codes.{snr_of, fine_of, snr_offset}
use Rattle.tables.proofs.Signed.{sfits, min_law, add_law, mul_law}
use Rattle.tables.proofs.snr_of.Goals as goal

module _ (a b : ℕ) (h : (a ≤ 63) × (b ≤ 15)) where
  f-1 : SFits w32 (pos a -ℤ pos 15)
  f-1 =
      let l = min_law (pos a) (pos 15) in
      sfits _ (omega arith) (omega arith)

  f-2 : SFits w32 (pos 16 *ℤ (pos a -ℤ pos 15))
  f-2 =
      let l = min_law (pos a) (pos 15) in
      let m = mul_law 16 (pos a -ℤ pos 15) in
      sfits _ (omega arith) (omega arith)

  f-3 : SFits w32 (pos 16 *ℤ (pos a -ℤ pos 15) +ℤ pos b)
  f-3 =
      let l = min_law (pos a) (pos 15) in
      let m = mul_law 16 (pos a -ℤ pos 15) in
      let d = add_law (pos 16 *ℤ (pos a -ℤ pos 15)) (pos b) in
      sfits _ (omega arith) (omega arith)

  f-4 : SFits w32 (pos 4 *ℤ (pos 16 *ℤ (pos a -ℤ pos 15) +ℤ pos b))
  f-4 =
      let l = min_law (pos a) (pos 15) in
      let m = mul_law 16 (pos a -ℤ pos 15) in
      let d = add_law (pos 16 *ℤ (pos a -ℤ pos 15)) (pos b) in
      let n = mul_law 4 (pos 16 *ℤ (pos a -ℤ pos 15) +ℤ pos b) in
      sfits _ (omega arith) (omega arith)

pub returns-in-0-to-63-0-to-15 : goal.returns-in-0-to-63-0-to-15
unfolding snr_of fine_of snr_offset
returns-in-0-to-63-0-to-15 c =
    let h : c.args.csnr < 2 ^ 31 = omega arith in
    let h' : c.args.fsnr < 2 ^ 31 = omega arith in
    let k : (c.args.csnr ≤ 63) × (c.args.fsnr ≤ 15) = (omega arith, omega arith) in
    let f = f-1 c.args.csnr c.args.fsnr k in
    let g = f-2 c.args.csnr c.args.fsnr k in
    let i = f-3 c.args.csnr c.args.fsnr k in
    let l = f-4 c.args.csnr c.args.fsnr k in
    rw (le-ltb 63 c.args.csnr (omega arith), le-ltb 15 c.args.fsnr (omega arith)) (simp (to_z_pos, to_z-of_z))
