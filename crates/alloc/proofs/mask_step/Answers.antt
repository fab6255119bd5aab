-- `alloc::mask_step` meets its contract: every step fits, and the cut is a remainder and a quotient.
-- Assumes nothing.
use Prim.Native.Nat.{ℕ, ◌<◌, ◌*◌, ◌/◌, ◌%◌, ◌^◌}
use mathlib.Core.Path.{◌≡◌, ap}
use native.Mathlib.Omega.{arith}
use lib.IntN.{ℤ, pos, nat_abs, ◌-ℤ◌, ◌+ℤ◌}
use mir.Syntax.{w32}
use mir.Val.{SFits}
use mir.Facts.{to_z-of_z, to_z_pos}
use Rattle.tables.specs.Numbers.{Within, up, dn}
use Rattle.alloc.specs.Clauses.{mask_step}
use Rattle.tables.proofs.Signed.{sfits, min_law, add_law, max_law, same, parts, abs_law}
use Rattle.alloc.proofs.RangeLaws.{max_is}
use Rattle.alloc.proofs.mask_step.Goals as goal
use Rattle.std.specs.Int.{int_max}
use mathlib.Core.Path.{◌∙◌}

module _ (mask snr floor : ℤ) (h : Within 1048576 1048576 mask × Within 960 3132 snr × Within 2048 1024 floor) where
  f-1 : SFits w32 (mask -ℤ snr)
  f-1 =
      let l = min_law mask snr in
      sfits _ (omega arith) (omega arith)

  f-2 : SFits w32 (mask -ℤ snr -ℤ floor)
  f-2 =
      let l = min_law mask snr in
      let l' = min_law (mask -ℤ snr) floor in
      sfits _ (omega arith) (omega arith)

  small : up (mask -ℤ snr -ℤ floor) < 2097152
  small =
      let l = min_law mask snr in
      let l' = min_law (mask -ℤ snr) floor in
      let p = parts (mask -ℤ snr -ℤ floor) in
      omega arith

  f-3 : (n : ℕ) → n < 8192 → SFits w32 (pos n +ℤ floor)
  f-3 n k =
      let l = add_law (pos n) floor in
      sfits _ (omega arith) (omega arith)

pub returns : goal.returns
unfolding mask_step
returns c =
    let left : ((dn c.max-m.result ≡ 0) × (up c.max-m.result ≡ up (c.args.mask -ℤ c.args.snr -ℤ c.args.floor))) = let fm = c.ranges.mask in
    let fs = c.ranges.snr in
    let ff = c.ranges.floor in
    let f1 = f-1 c.args.mask c.args.snr c.args.floor c.requires in
    let f2 = f-2 c.args.mask c.args.snr c.args.floor c.requires in
    let g : c.max-m.result ≡ int_max (c.args.mask -ℤ c.args.snr -ℤ c.args.floor) (pos 0) = simp to_z-of_z at c.max-m.ensures.value in
    let e = same (g ∙ max_is (c.args.mask -ℤ c.args.snr -ℤ c.args.floor) (pos 0)) in
    let m = max_law (c.args.mask -ℤ c.args.snr -ℤ c.args.floor) (pos 0) in
    (omega arith, omega arith) in
    let cut : (nat_abs c.max-m.result % 8192 / 32 * 32 < 2 ^ 31) = omega arith in
    let f : SFits w32 c.max-m.result = record { sfits = c.max-m.type_inv } in
    let ff = c.ranges.floor in
    let h = cut in
    let g = f-3 c.args.mask c.args.snr c.args.floor c.requires (nat_abs c.max-m.result % 8192 / 32 * 32) (omega arith) in
    let e : nat_abs c.max-m.result ≡ up (c.args.mask -ℤ c.args.snr -ℤ c.args.floor) = omega (arith, left, abs_law c.max-m.result) in
    simp (to_z-of_z, to_z_pos) (ap (λ (n : ℕ). pos (n % 8192 / 32 * 32) +ℤ c.args.floor) e)
