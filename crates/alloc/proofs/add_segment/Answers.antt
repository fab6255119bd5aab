-- `alloc::add_segment` meets its contract: the bands of a segment that there are get its step added.
-- Assumes nothing.
use Prim.Native.Nat.{ℕ, ◌<◌, min}
use mathlib.Core.Path.{◌≡◌, ap, sym, ◌∙◌}
use mathlib.Core.List.{List}
use native.Mathlib.Omega.{arith}
use lib.ListN.{get_or, set}
use lib.IntN.{ℤ, pos, ◌+ℤ◌}
use mir.Syntax.{w32}
use mir.Val.{SFits, to_z, of_z}
use native.Mathlib.Nat.{le_refl}
use mir.Facts.{to_z-of_z}
use Rattle.alloc.specs.Table.{blend}
use Rattle.alloc.specs.Clauses.{add_segment}
use Rattle.tables.proofs.Signed.{within_fits, within_add}
use Rattle.alloc.proofs.TableLaws.{table_of, get_d_table, blend_after}
use Rattle.alloc.proofs.Turns.{segment_turn, segment_clip}
use Rattle.alloc.proofs.add_segment.Goals as goal

-- the place that a turn stores to is as it was
old : (delta : ℤ) (a k : ℕ) (m mask : List ℤ) → mask ≡ add_segment delta a k m → k < 50 → get_or mask k (pos 0) ≡ get_or m k (pos 0)
unfolding add_segment
old delta a k m mask i h =
    ap (λ (x : List ℤ). get_or x k (pos 0)) i
    ∙ get_d_table 50 (blend a k (λ (j : ℕ). get_or m j (pos 0) +ℤ delta) (λ (j : ℕ). get_or m j (pos 0))) k (pos 0) h
    ∙ blend_after a k (λ (j : ℕ). get_or m j (pos 0) +ℤ delta) (λ (j : ℕ). get_or m j (pos 0)) k (le_refl k)

pub loop-k-init : goal.loop-k-init
unfolding add_segment
loop-k-init c =
    let m = c.args.mask.now in
    table_of 50 (min c.args.a 50) (λ (j : ℕ). get_or m j (pos 0) +ℤ to_z w32 (of_z w32 c.args.delta)) m (pos 0) c.told-mask
    ∙ ap (λ (i : ℕ). add_segment (to_z w32 (of_z w32 c.args.delta)) (min c.args.a 50) i m) (sym c.min-k.ensures)

pub overflow_add-mask : goal.overflow_add-mask
overflow_add-mask c =
    let o : get_or c.loop-k.mask c.loop-k.k (pos 0) ≡ get_or c.args.mask.now c.loop-k.k (pos 0) = old _ _ _ _ _ c.loop-k.invariant (omega (arith, c.min-k-end.ensures)) in
    let w = c.requires.0.at c.loop-k.k in
    let f : SFits w32 (get_or c.loop-k.mask c.loop-k.k (pos 0)) = rw o (within_fits 1048576 1048576 w tt tt) in
    let d = c.ranges.delta in
    let g : SFits w32 (get_or c.loop-k.mask c.loop-k.k (pos 0) +ℤ c.args.delta) =
    rw o
    (within_fits 1049088 1049088 (within_add 1048576 1048576 512 512 (get_or c.args.mask.now c.loop-k.k (pos 0)) c.args.delta w c.requires.1) tt tt) in
    simp to_z-of_z g

pub loop-k-preserved : goal.loop-k-preserved
loop-k-preserved c =
    let o : get_or c.loop-k.mask c.loop-k.k (pos 0) ≡ get_or c.args.mask.now c.loop-k.k (pos 0) = old _ _ _ _ _ c.loop-k.invariant (omega (arith, c.min-k-end.ensures)) in
    let w = c.requires.0.at c.loop-k.k in
    let f : SFits w32 (get_or c.loop-k.mask c.loop-k.k (pos 0)) = rw o (within_fits 1048576 1048576 w tt tt) in
    let d = c.ranges.delta in
    let g : SFits w32 (get_or c.loop-k.mask c.loop-k.k (pos 0) +ℤ c.args.delta) =
    rw o
    (within_fits 1049088 1049088 (within_add 1048576 1048576 512 512 (get_or c.args.mask.now c.loop-k.k (pos 0)) c.args.delta w c.requires.1) tt tt) in
    let i = simp to_z-of_z at c.loop-k.invariant in
    simp to_z-of_z (ap (λ (x : List ℤ). set x c.loop-k.k (get_or c.loop-k.mask c.loop-k.k (pos 0) +ℤ c.args.delta)) i ∙ segment_turn c.args.delta (min c.args.a 50) c.loop-k.k c.args.mask.now (get_or c.loop-k.mask c.loop-k.k (pos 0) +ℤ c.args.delta) (omega (arith, c.min-k.ensures)) (ap (λ (x : ℤ). x +ℤ c.args.delta) o))

pub returns : goal.returns
returns c =
    let d = c.ranges.delta in
    let e : c.loop-k.k ≡ min c.args.b 50 = omega (arith, c.min-k-end.ensures, c.min-k.ensures) in
    simp to_z-of_z at c.loop-k.invariant
    ∙ ap (λ (i : ℕ). add_segment c.args.delta (min c.args.a 50) i c.args.mask.now) e
    ∙ segment_clip c.args.delta c.args.a c.args.b c.args.mask.now
