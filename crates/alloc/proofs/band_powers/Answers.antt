-- `alloc::band_powers` meets its contract: each turn fills one band's place.
-- Assumes nothing.
use Prim.Native.Nat.{ℕ, ◌<◌, ◌+◌, ◌-◌}
use mathlib.Core.Path.{ap, sym, ◌∙◌}
use mathlib.Core.List.{List}
use native.Mathlib.Omega.{arith}
use lib.ListN.{get_or, set}
use lib.IntN.{ℤ, pos}
use mir.Syntax.{w32}
use mir.Val.{SFits}
use mir.Facts.{to_z-of_z}
use Rattle.tables.specs.Bands.{band_of}
use Rattle.alloc.specs.Clauses.{band_power, band_powers}
use Rattle.alloc.proofs.TableLaws.{fill_start, fill_turn}
use Rattle.alloc.proofs.band_powers.Goals as goal

pub loop-k-init : goal.loop-k-init
unfolding band_powers
loop-k-init c =
    let a = c.args in
    let e = c.bands.ensures.is.0 in
    c.requires.1
    ∙ fill_start 50 (band_of a.bins.start.0) (pos 0) (band_power a.latab.now (λ (j : ℕ). get_or a.psd.now j (pos 0)) a.bins.start.0 a.bins.end.0)
    ∙ ap (band_powers a.latab.now (λ (j : ℕ). get_or a.psd.now j (pos 0)) a.bins.start.0 a.bins.end.0) (sym e)

pub loop-k-preserved : goal.loop-k-preserved
unfolding band_powers
loop-k-preserved c =
    let a = c.args in
    let b : c.loop-k.k < band_of (c.args.bins.end.0 - 1) + 1 = omega (arith, c.bands.ensures.is.1) in
    let f : SFits w32 c.band_power.result = record { sfits = c.band_power.type_inv } in
    rw (to_z-of_z f) (ap (λ (x : List ℤ). set x c.loop-k.k c.band_power.result) c.loop-k.invariant ∙ fill_turn 50 (band_of a.bins.start.0) c.loop-k.k (pos 0) (band_power a.latab.now (λ (j : ℕ). get_or a.psd.now j (pos 0)) a.bins.start.0 a.bins.end.0) c.band_power.result (omega (arith, c.bands.ensures.is.0)) c.band_power.ensures)
