-- `alloc::band_sum` meets its contract: each turn adds one bin's power.
-- Assumes nothing.
use Prim.Native.Nat.{ℕ, ◌-◌}
use mathlib.Core.Path.{sym, ◌∙◌, ap}
use native.Mathlib.Omega.{arith}
use lib.ListN.{get_or}
use lib.IntN.{ℤ, pos}
use mir.Syntax.{w32}
use mir.Val.{SFits}
use mir.Facts.{to_z-of_z}
use Rattle.alloc.specs.Clauses.{logadd}
use Rattle.tables.proofs.Signed.{same, within_fits}
use Rattle.alloc.proofs.RangeLaws.{band_sum_within}
use Rattle.alloc.proofs.Turns.{band_sum_next, band_sum_first}
use Rattle.alloc.proofs.band_sum.Goals as goal

pub loop-j-init : goal.loop-j-init
loop-j-init c =
    let f = within_fits 29568 3072 (c.requires.2.at c.args.lo) tt tt in
    to_z-of_z f ∙ sym (band_sum_first c.args.latab.now (λ (k : ℕ). get_or c.args.psd.now k (pos 0)) c.args.lo)

pub logadd-acc-requires : goal.logadd-acc-requires
logadd-acc-requires c =
    let w = band_sum_within c.args.latab.now (λ (k : ℕ). get_or c.args.psd.now k (pos 0)) c.args.lo (c.loop-j.j - 1 - c.args.lo) (λ k. omega (arith, c.fits-latab k)) c.requires.2.at in
    let v = c.requires.2.at c.loop-j.j in
    let f = within_fits 29568 3072 v tt tt in
    let e = same c.loop-j.invariant in
    (record { low = omega arith; high = omega arith }, rw (to_z-of_z f) (record { low = omega arith; high = omega arith }))

pub loop-j-preserved : goal.loop-j-preserved
loop-j-preserved c =
    let f : SFits w32 c.logadd-acc.result = record { sfits = c.logadd-acc.type_inv } in
    let g = within_fits 29568 3072 (c.requires.2.at c.loop-j.j) tt tt in
    to_z-of_z f ∙ rw (to_z-of_z g) at c.logadd-acc.ensures ∙ ap (λ (x : ℤ). logadd c.args.latab.now x (get_or c.args.psd.now c.loop-j.j (pos 0))) c.loop-j.invariant ∙ sym (band_sum_next c.args.latab.now (λ (k : ℕ). get_or c.args.psd.now k (pos 0)) c.args.lo c.loop-j.j (omega arith))
