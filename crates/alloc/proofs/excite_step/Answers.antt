-- `alloc::excite_step` meets its contract: the low bands of a channel that begins at band 0, and all others.
-- Assumes nothing.
use Prim.Native.Nat.{◌+◌}
use mathlib.Core.Path.{sym, ◌∙◌}
use mir.Facts.{to_z-of_z}
use Rattle.alloc.specs.Excite.{step}
use Rattle.tables.proofs.Signed.{within_fits}
use Rattle.alloc.proofs.excite_step.Goals as goal

pub returns-then-is_low : goal.returns-then-is_low
unfolding step
returns-then-is_low c =
    let p = c.requires.1.at c.args.k.0 in
    let q = c.requires.1.at (c.args.k.0 + 1) in
    let fp = within_fits 65536 131072 p tt tt in
    let fq = within_fits 65536 131072 q tt tt in
    rw (sym c.is_low.ensures ∙ c.if-is_low.true, ← c.is_last-last.ensures)
    (simp to_z-of_z at c.step_full.ensures)

pub returns : goal.returns
unfolding step
returns c =
    let p = c.requires.1.at c.args.k.0 in
    let fp = within_fits 65536 131072 p tt tt in
    rw (sym c.is_low.ensures ∙ c.if-is_low.false) (simp to_z-of_z at c.step_high.ensures)
