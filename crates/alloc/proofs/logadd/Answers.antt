-- `alloc::logadd` meets its contract: the distance is the place in the table.
-- Assumes nothing.
use Prim.Native.Nat.{◌<◌, ◌^◌, ◌/◌, min}
use mathlib.Core.Path.{◌≡◌}
use native.Mathlib.Omega.{arith}
use lib.ListN.{get_or}
use lib.IntN.{pos, ◌-ℤ◌, ◌+ℤ◌, nat_abs}
use mir.Syntax.{w32}
use mir.Val.{SFits}
use mir.Facts.{to_z-of_z, to_z_pos}
use Rattle.tables.specs.Numbers.{max_z}
use Rattle.alloc.specs.Clauses.{logadd}
use Rattle.tables.proofs.Signed.{sfits, add_law, max_law, same}
use Rattle.alloc.proofs.logadd.Goals as goal

pub returns : goal.returns
unfolding logadd
returns c =
    let fa = c.ranges.a in
    let fb = c.ranges.b in
    let max-is : (c.max.result ≡ max_z c.args.a c.args.b) = simp to_z-of_z at c.max.ensures.value in
    let d = simp to_z-of_z at c.abs_diff.ensures in
    let at-is : (c.min-at.result ≡ min (nat_abs (c.args.a -ℤ c.args.b) / 2) 255) = cc c.min-at.ensures in
    let byte : (get_or c.args.latab.now c.min-at.result 0 < 2 ^ 31) = omega (arith, c.fits-latab c.min-at.result) in
    let b = c.fits-latab c.min-at.result in
    let m = max_law c.args.a c.args.b in
    let l = same max-is in
    let s = add_law c.max.result (pos (get_or c.args.latab.now c.min-at.result 0)) in
    let fits-add : (SFits w32 (c.max.result +ℤ pos (get_or c.args.latab.now c.min-at.result 0))) = sfits _ (omega (arith, c.requires)) (omega (arith, c.requires)) in
    let f : SFits w32 c.max.result = record { sfits = c.max.type_inv } in
    simp (to_z-of_z, to_z_pos) (rw (max-is, at-is))
