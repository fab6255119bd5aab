-- `alloc::deltas` meets its contract: each turn adds one segment.
-- Assumes nothing.
use Prim.Native.Nat.{◌<◌}
use native.Mathlib.Omega.{arith}
use Rattle.tables.proofs.Signed.{widen}
use Rattle.alloc.proofs.RangeLaws.{deltas_each, segment_end_le}
use Rattle.alloc.proofs.Turns.{deltas_next, deltas_zero, segment_end_next}
use Rattle.alloc.proofs.deltas.Goals as goal

pub loop-n-init : goal.loop-n-init
loop-n-init c =
    let z = deltas_zero c.args.d.offset c.args.d.len c.args.d.ba c.args.mask.now in
    (z.0, z.1)

pub next_segment-band-requires : goal.next_segment-band-requires
next_segment-band-requires c =
    let a = c.args in
    let n = c.loop-n.n in
    let h : c.loop-n.n < a.d.count = omega arith in
    let e = deltas_each a.d.offset a.d.len a.d.ba a.mask.now c.loop-n.n (λ k p. c.requires.1.ba.at k (omega arith)) c.requires.0 in
    let b = segment_end_le a.d.offset a.d.len c.loop-n.n (λ k p. c.requires.1.offset.at k (omega arith)) (λ k p. c.requires.1.len.at k (omega arith)) in (
      rw c.loop-n.invariant.0 (record { at = λ k. widen 1048576 1048576 (e.at k) (omega arith) (omega arith) }),
      omega arith,
      omega (arith, c.requires.1.offset.at c.loop-n.n h),
      omega (arith, c.requires.1.len.at c.loop-n.n h),
      c.requires.1.ba.at c.loop-n.n h,
    )

pub loop-n-preserved : goal.loop-n-preserved
loop-n-preserved c =
    let a = c.args in
    let e = c.next_segment-band.ensures in
    let m = c.loop-n.invariant.0 in
    let b = c.loop-n.invariant.1 in
    let d = deltas_next a.d.offset a.d.len a.d.ba a.mask.now c.loop-n.n in
    let f = segment_end_next a.d.offset a.d.len c.loop-n.n in
    (rw d (rw (← m, ← b) e.0), rw f (rw (← b) e.1))
