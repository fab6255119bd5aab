-- `alloc::point` meets its contract: each turn puts one bin's pointer.
-- Assumes nothing.
use Prim.Native.Nat.{ℕ}
use mathlib.Core.Path.{◌≡◌, ap, ◌∙◌}
use mathlib.Core.List.{List}
use native.Mathlib.Omega.{arith}
use lib.ListN.{get_or, set}
use lib.IntN.{pos}
use mir.Facts.{to_z-of_z}
use Rattle.tables.proofs.Signed.{within_fits}
use Rattle.alloc.specs.Clauses.{address}
use Rattle.alloc.proofs.Turns.{pointed_turn, pointed_none}
use Rattle.alloc.proofs.point.Goals as goal

pub loop-i-init : goal.loop-i-init
loop-i-init c =
    let a = c.args in
    pointed_none a.baptab.now (λ (j : ℕ). get_or a.psd.now j (pos 0)) _ a.lo a.out.now c.told-out

pub loop-i-preserved : goal.loop-i-preserved
loop-i-preserved c =
    let f = c.ranges.m in
    let g = within_fits 29568 3072 (c.requires.0.at c.loop-i.i) tt tt in
    let at : c.address.result ≡ address (get_or c.args.psd.now c.loop-i.i (pos 0)) c.args.m = simp to_z-of_z at c.address.ensures.0 in
    let i = simp to_z-of_z at c.loop-i.invariant in
    simp to_z-of_z (ap (λ (x : List ℕ). set x c.loop-i.i (get_or c.args.baptab.now c.address.result 0)) i ∙ pointed_turn c.args.baptab.now (λ (j : ℕ). get_or c.args.psd.now j (pos 0)) c.args.m c.args.lo c.loop-i.i c.args.out.now (get_or c.args.baptab.now c.address.result 0) (omega arith) (ap (λ (j : ℕ). get_or c.args.baptab.now j 0) at))
