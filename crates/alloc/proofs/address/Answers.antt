-- `alloc::address` meets its contract: what is above the mask, held between 0 and 63.
-- Assumes nothing.
use Prim.Native.Nat.{min}
use mathlib.Core.Path.{◌≡◌, ◌∙◌, ap}
use native.Mathlib.Omega.{arith}
use lib.IntN.{ℤ, pos, negsuc, nat_abs, ◌-ℤ◌}
use lib.Signed.{shr_z}
use mir.Syntax.{w32}
use mir.Val.{SFits}
use mir.Facts.{to_z-of_z}
use Rattle.std.specs.Int.{int_max, int_min}
use Rattle.std.proofs.lemmas.Int.{ints}
use Rattle.tables.specs.Numbers.{up}
use Rattle.alloc.specs.Clauses.{address}
use Rattle.alloc.proofs.address.Goals as goal

held : (d : ℤ) → nat_abs (int_max (pos 0) (int_min d (pos 63))) ≡ min (up d) 63
held (pos n) = grind (arith, ints)
held (negsuc n) = grind (arith, ints)

pub returns : goal.returns
unfolding address
returns c =
    let f : SFits w32 c.above.result = record { sfits = c.above.type_inv } in
    let g : SFits w32 c.clamp.result = record { sfits = c.clamp.type_inv } in
    let fp = c.ranges.psd in
    let fm = c.ranges.m in
    let is : c.above.result ≡ shr_z (c.args.psd -ℤ c.args.m) 32 = simp to_z-of_z at c.above.ensures in
    let e = ap nat_abs (simp to_z-of_z at c.clamp.ensures.value) ∙ held c.above.result in
    simp to_z-of_z (e ∙ ap (λ (z : ℤ). min (up z) 63) is, omega (arith, e))
