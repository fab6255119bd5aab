-- `alloc::step_low` meets its contract: both leaks decay, and the compensation is taken off.
-- Assumes nothing.
use mathlib.Core.Path.{◌≡◌, subst, sym}
use lib.IntN.{ℤ, ◌-ℤ◌}
use mir.Syntax.{w32}
use mir.Val.{SFits}
use mir.Facts.{to_z-of_z}
use Rattle.alloc.specs.Excite.{step_low, decayed}
use Rattle.tables.proofs.Signed.{within_fits, within_sub}
use Rattle.alloc.proofs.RangeLaws.{decayed_within}
use Rattle.alloc.proofs.step_low.Goals as goal

pub overflow_sub-fast : goal.overflow_sub-fast
overflow_sub-fast c =
    let fast-is : (c.decay_to-fast.result ≡ decayed c.args.s.fast c.args.c.fdecay c.args.p c.args.c.fgain) = let t = c.requires.1 in
    let k = c.requires.2 in
    let f = within_fits 131072 131072 k.fast tt tt in
    let p = c.ranges.p in
    let d = within_fits 0 2048 t.fd tt tt in
    let g = within_fits 0 2048 t.fg tt tt in
    simp to_z-of_z at c.decay_to-fast.ensures in
    let f-sub : (SFits w32 (c.decay_to-fast.result -ℤ c.args.low)) = subst (λ (z : ℤ). SFits w32 (z -ℤ c.args.low)) (sym fast-is)
    (within_fits 133504 131072 (within_sub 133120 131072 0 384 (decayed c.args.s.fast c.args.c.fdecay c.args.p c.args.c.fgain) c.args.low (decayed_within c.args.s.fast c.args.c.fdecay c.args.p c.args.c.fgain c.requires.2.fast c.requires.1.fd c.requires.0 c.requires.1.fg) c.requires.3) tt tt) in
    let l = c.ranges.low in
    let a : SFits w32 c.decay_to-fast.result = record { sfits = c.decay_to-fast.type_inv } in
    simp to_z-of_z f-sub

pub returns : goal.returns
unfolding step_low
returns c =
    let fast-is : (c.decay_to-fast.result ≡ decayed c.args.s.fast c.args.c.fdecay c.args.p c.args.c.fgain) = let t = c.requires.1 in
    let k = c.requires.2 in
    let f = within_fits 131072 131072 k.fast tt tt in
    let p = c.ranges.p in
    let d = within_fits 0 2048 t.fd tt tt in
    let g = within_fits 0 2048 t.fg tt tt in
    simp to_z-of_z at c.decay_to-fast.ensures in
    let slow-is : (c.decay_to-slow.result ≡ decayed c.args.s.slow c.args.c.sdecay c.args.p c.args.c.sgain) = let t = c.requires.1 in
    let k = c.requires.2 in
    let f = within_fits 131072 131072 k.slow tt tt in
    let p = c.ranges.p in
    let d = within_fits 0 2048 t.sd tt tt in
    let g = within_fits 0 2048 t.sg tt tt in
    simp to_z-of_z at c.decay_to-slow.ensures in
    let f-sub : (SFits w32 (c.decay_to-fast.result -ℤ c.args.low)) = subst (λ (z : ℤ). SFits w32 (z -ℤ c.args.low)) (sym fast-is)
    (within_fits 133504 131072 (within_sub 133120 131072 0 384 (decayed c.args.s.fast c.args.c.fdecay c.args.p c.args.c.fgain) c.args.low (decayed_within c.args.s.fast c.args.c.fdecay c.args.p c.args.c.fgain c.requires.2.fast c.requires.1.fd c.requires.0 c.requires.1.fg) c.requires.3) tt tt) in
    let l = c.ranges.low in
    let a : SFits w32 c.decay_to-fast.result = record { sfits = c.decay_to-fast.type_inv } in
    let b : SFits w32 c.decay_to-slow.result = record { sfits = c.decay_to-slow.type_inv } in
    let m : SFits w32 c.max.result = record { sfits = c.max.type_inv } in
    let d = f-sub in
    simp to_z-of_z (rw (simp to_z-of_z at c.max.ensures.value, fast-is, slow-is))
