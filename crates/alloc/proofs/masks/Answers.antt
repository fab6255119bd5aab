-- `alloc::masks` meets its contract: each turn fills one band's place.
-- Assumes nothing.
use Prim.Native.Nat.{ℕ, ◌+◌, ◌*◌}
use mathlib.Core.Path.{ap, ◌∙◌}
use mathlib.Core.List.{List}
use native.Mathlib.Omega.{arith}
use lib.ListN.{get_or, set}
use lib.IntN.{ℤ, pos}
use mir.Syntax.{w32}
use mir.Val.{SFits, to_z, of_z}
use mir.Facts.{to_z-of_z}
use Rattle.alloc.specs.Clauses.{mask_at, masks_of}
use Rattle.tables.proofs.Signed.{within_fits}
use Rattle.alloc.proofs.TableLaws.{fill_start}
use Rattle.alloc.proofs.Turns.{masks_turn}
use Rattle.alloc.proofs.masks.Goals as goal

pub loop-k-init : goal.loop-k-init
unfolding masks_of
loop-k-init c =
    let a = c.args in
    c.requires.6 ∙ fill_start 50 a.first.0 (pos 0) (λ (k : ℕ). mask_at (get_or a.excite.now k (pos 0)) (get_or a.power.now k (pos 0)) (to_z w32 (of_z w32 a.knee)) (get_or a.hearing.now (50 * a.fscod + k) 0))

pub loop-k-preserved : goal.loop-k-preserved
loop-k-preserved c =
    let a = c.args in
    let f = within_fits 262144 262144 (c.requires.3.at c.loop-k.k) tt tt in
    let g = within_fits 131072 131072 (c.requires.4.at c.loop-k.k) tt tt in
    let h = c.ranges.knee in
    let r : SFits w32 c.mask_at.result = record { sfits = c.mask_at.type_inv } in
    let i = simp to_z-of_z at c.loop-k.invariant in
    simp to_z-of_z (ap (λ (x : List ℤ). set x c.loop-k.k c.mask_at.result) i ∙ masks_turn (λ (j : ℕ). get_or a.excite.now j (pos 0)) (λ (j : ℕ). get_or a.power.now j (pos 0)) a.knee a.hearing.now a.fscod a.first.0 c.loop-k.k c.mask_at.result (omega arith) (simp to_z-of_z at c.mask_at.ensures))
