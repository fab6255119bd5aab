-- `alloc::step_full` meets its contract: the three stretches of low bands.
-- Assumes nothing.
use mathlib.Core.Path.{◌≡◌, sym, ◌∙◌}
use native.Mathlib.Omega.{arith}
use borrow.Author.Tests.{lt-ltb, le-ltb}
use mir.Facts.{to_z-of_z}
use Rattle.tables.specs.Numbers.{Within}
use Rattle.alloc.specs.Excite.{step_full, low_next}
use Rattle.tables.proofs.Signed.{within_fits, widen}
use Rattle.alloc.proofs.RangeLaws.{low_next_within}
use Rattle.alloc.proofs.step_full.Goals as goal

pub step_first-requires : goal.step_first-requires
step_first-requires c =
    let low-is : (c.low_next-low.result ≡ low_next c.args.last c.args.s.low c.args.p c.args.q c.args.k.0) = let f = within_fits 0 384 c.requires.3.low tt tt in
    let p = c.ranges.p in
    let q = c.ranges.q in
    simp to_z-of_z at c.low_next-low.ensures in
    let low-within : (Within 0 384 c.low_next-low.result) = rw low-is (low_next_within c.args.last c.args.s.low c.args.p c.args.q c.args.k.0 c.requires.3.low) in
    let p = c.ranges.p in
    let l = low-within in
    let f = within_fits 0 384 l tt tt in
    simp to_z-of_z (c.requires.0, c.requires.2.fg, widen 0 2048 l (omega arith) (omega arith))

pub returns-then-n-lt2 : goal.returns-then-n-lt2
unfolding step_full
returns-then-n-lt2 c =
    let low-is : (c.low_next-low.result ≡ low_next c.args.last c.args.s.low c.args.p c.args.q c.args.k.0) = let f = within_fits 0 384 c.requires.3.low tt tt in
    let p = c.ranges.p in
    let q = c.ranges.q in
    simp to_z-of_z at c.low_next-low.ensures in
    let low-within : (Within 0 384 c.low_next-low.result) = rw low-is (low_next_within c.args.last c.args.s.low c.args.p c.args.q c.args.k.0 c.requires.3.low) in
    let p = c.ranges.p in
    let l = low-within in
    let f = within_fits 0 384 l tt tt in
    rw (lt-ltb c.args.k.0 2 c.if-n-lt2.true, ← low-is) (simp to_z-of_z at c.step_first.ensures)

pub step_begin-requires : goal.step_begin-requires
step_begin-requires c =
    let low-is : (c.low_next-low.result ≡ low_next c.args.last c.args.s.low c.args.p c.args.q c.args.k.0) = let f = within_fits 0 384 c.requires.3.low tt tt in
    let p = c.ranges.p in
    let q = c.ranges.q in
    simp to_z-of_z at c.low_next-low.ensures in
    let low-within : (Within 0 384 c.low_next-low.result) = rw low-is (low_next_within c.args.last c.args.s.low c.args.p c.args.q c.args.k.0 c.requires.3.low) in
    let p = c.ranges.p in
    let l = low-within in
    let f = within_fits 0 384 l tt tt in
    simp to_z-of_z (c.requires.0, c.requires.2, l)

pub returns-then-opening : goal.returns-then-opening
unfolding step_full
returns-then-opening c =
    let low-is : (c.low_next-low.result ≡ low_next c.args.last c.args.s.low c.args.p c.args.q c.args.k.0) = let f = within_fits 0 384 c.requires.3.low tt tt in
    let p = c.ranges.p in
    let q = c.ranges.q in
    simp to_z-of_z at c.low_next-low.ensures in
    let low-within : (Within 0 384 c.low_next-low.result) = rw low-is (low_next_within c.args.last c.args.s.low c.args.p c.args.q c.args.k.0 c.requires.3.low) in
    let p = c.ranges.p in
    let q = c.ranges.q in
    let l = low-within in
    let f = within_fits 0 384 l tt tt in
    rw
    (le-ltb c.args.k.0 2 c.if-n-lt2.false, sym c.opening.ensures ∙ c.if-opening.true, ← low-is)
    (simp to_z-of_z at c.step_begin.ensures)

pub step_low-requires : goal.step_low-requires
step_low-requires c =
    let low-is : (c.low_next-low.result ≡ low_next c.args.last c.args.s.low c.args.p c.args.q c.args.k.0) = let f = within_fits 0 384 c.requires.3.low tt tt in
    let p = c.ranges.p in
    let q = c.ranges.q in
    simp to_z-of_z at c.low_next-low.ensures in
    let low-within : (Within 0 384 c.low_next-low.result) = rw low-is (low_next_within c.args.last c.args.s.low c.args.p c.args.q c.args.k.0 c.requires.3.low) in
    let p = c.ranges.p in
    let l = low-within in
    let f = within_fits 0 384 l tt tt in
    simp to_z-of_z (c.requires.0, c.requires.2, c.requires.3, l)

pub returns : goal.returns
unfolding step_full
returns c =
    let low-is : (c.low_next-low.result ≡ low_next c.args.last c.args.s.low c.args.p c.args.q c.args.k.0) = let f = within_fits 0 384 c.requires.3.low tt tt in
    let p = c.ranges.p in
    let q = c.ranges.q in
    simp to_z-of_z at c.low_next-low.ensures in
    let low-within : (Within 0 384 c.low_next-low.result) = rw low-is (low_next_within c.args.last c.args.s.low c.args.p c.args.q c.args.k.0 c.requires.3.low) in
    let p = c.ranges.p in
    let l = low-within in
    let f = within_fits 0 384 l tt tt in
    rw (le-ltb c.args.k.0 2 c.if-n-lt2.false, sym c.opening.ensures ∙ c.if-opening.false, ← low-is)
    (simp to_z-of_z at c.step_low.ensures)
