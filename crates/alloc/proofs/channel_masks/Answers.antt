-- `alloc::channel_masks` meets its contract: powers, excitation and masks follow one another, each in its range.
-- Assumes nothing.
use Prim.Native.Nat.{ℕ, ◌≤◌}
use mathlib.Core.Path.{◌≡◌, refl, subst, sym, ap, ◌∙◌}
use mathlib.Core.List.{List}
use native.Mathlib.Omega.{arith}
use lib.IntN.{ℤ}
use mir.Facts.{to_z-of_z}
use Rattle.tables.specs.Numbers.{Each}
use Rattle.tables.specs.Bands.{band_of}
use Rattle.alloc.specs.Clauses.{band_powers, masks_of}
use Rattle.alloc.specs.Excite.{excite_of}
use Rattle.alloc.specs.Channel.{of, stop_of, masks_from}
use Rattle.tables.proofs.Signed.{widen, within_fits}
use Rattle.alloc.proofs.RangeLaws.{band_powers_each, excite_each, masks_each}
use Rattle.alloc.proofs.channel_masks.Goals as goal

wide : (l : List ℤ) → Each 65536 131072 l → Each 131072 131072 l
wide l e = record { at = λ k. widen 131072 131072 (e.at k) (omega arith) (omega arith) }

pub excitation-requires : goal.excitation-requires
unfolding stop_of
excitation-requires c =
    let bands : (let a = c.args in (c.bands.result.0.0 ≡ band_of a.bins.start.0) × (c.bands.result.1.0 ≡ stop_of a.bins.end.0) × (band_of a.bins.start.0 ≤ stop_of a.bins.end.0) × (stop_of a.bins.end.0 ≤ 50)) = let e = c.bands.ensures in (e.is.0, e.is.1, omega arith, omega arith) in
    let power : (List ℤ) = c.band_powers.new.out in
    let power-is : (let a = c.args in power ≡ band_powers a.latab.now (of a.psd.now) a.bins.start.0 a.bins.end.0 (stop_of a.bins.end.0)) = c.band_powers.ensures in
    let power-each : (Each 65536 131072 power) = let a = c.args in
    subst (Each 65536 131072) (sym power-is)
    (band_powers_each a.latab.now a.psd.now a.bins.start.0 a.bins.end.0 c.args.bins.range.0 c.args.bins.range.1 (λ i. omega (arith, c.fits-latab i)) c.requires.0) in
    let b = bands in
    (omega arith, omega arith, power-each, c.requires.1.curve, c.requires.1.begun, refl)

pub masks-requires : goal.masks-requires
unfolding stop_of
masks-requires c =
    let bands : (let a = c.args in (c.bands.result.0.0 ≡ band_of a.bins.start.0) × (c.bands.result.1.0 ≡ stop_of a.bins.end.0) × (band_of a.bins.start.0 ≤ stop_of a.bins.end.0) × (stop_of a.bins.end.0 ≤ 50)) = let e = c.bands.ensures in (e.is.0, e.is.1, omega arith, omega arith) in
    let power : (List ℤ) = c.band_powers.new.out in
    let excite : (List ℤ) = c.excitation.new.out in
    let power-is : (let a = c.args in power ≡ band_powers a.latab.now (of a.psd.now) a.bins.start.0 a.bins.end.0 (stop_of a.bins.end.0)) = c.band_powers.ensures in
    let power-each : (Each 65536 131072 power) = let a = c.args in
    subst (Each 65536 131072) (sym power-is)
    (band_powers_each a.latab.now a.psd.now a.bins.start.0 a.bins.end.0 c.args.bins.range.0 c.args.bins.range.1 (λ i. omega (arith, c.fits-latab i)) c.requires.0) in
    let excite-is : (let a = c.args in excite ≡ excite_of a.p.curve (band_of a.bins.start.0) (stop_of a.bins.end.0) (of power) a.p.begun (stop_of a.bins.end.0)) = let b = bands in
    let a = c.args in
    c.excitation.ensures
    ∙ ap (λ (i : ℕ). excite_of a.p.curve i (c.bands.result.1.0) (of power) a.p.begun (c.bands.result.1.0)) b.0
    ∙ ap (λ (i : ℕ). excite_of a.p.curve (band_of a.bins.start.0) i (of power) a.p.begun i) b.1 in
    let excited-each : (Each 262144 262144 excite) = let a = c.args in
    subst (Each 262144 262144) (sym excite-is)
    (excite_each a.p.curve (band_of a.bins.start.0) (stop_of a.bins.end.0) (stop_of a.bins.end.0) (of power) a.p.begun c.requires.1.curve power-each.at c.requires.1.begun) in
    let b = bands in
    let v = c.requires.1.levels in
    let f = within_fits 0 4096 v.knee tt tt in
    simp to_z-of_z (v.fscod, omega arith, omega arith, excited-each, wide power power-each, v.knee, c.requires.2)

pub returns : goal.returns
unfolding masks_from stop_of
returns c =
    let bands : (let a = c.args in (c.bands.result.0.0 ≡ band_of a.bins.start.0) × (c.bands.result.1.0 ≡ stop_of a.bins.end.0) × (band_of a.bins.start.0 ≤ stop_of a.bins.end.0) × (stop_of a.bins.end.0 ≤ 50)) = let e = c.bands.ensures in (e.is.0, e.is.1, omega arith, omega arith) in
    let power : (List ℤ) = c.band_powers.new.out in
    let excite : (List ℤ) = c.excitation.new.out in
    let power-is : (let a = c.args in power ≡ band_powers a.latab.now (of a.psd.now) a.bins.start.0 a.bins.end.0 (stop_of a.bins.end.0)) = c.band_powers.ensures in
    let power-each : (Each 65536 131072 power) = let a = c.args in
    subst (Each 65536 131072) (sym power-is)
    (band_powers_each a.latab.now a.psd.now a.bins.start.0 a.bins.end.0 c.args.bins.range.0 c.args.bins.range.1 (λ i. omega (arith, c.fits-latab i)) c.requires.0) in
    let excite-is : (let a = c.args in excite ≡ excite_of a.p.curve (band_of a.bins.start.0) (stop_of a.bins.end.0) (of power) a.p.begun (stop_of a.bins.end.0)) = let b = bands in
    let a = c.args in
    c.excitation.ensures
    ∙ ap (λ (i : ℕ). excite_of a.p.curve i (c.bands.result.1.0) (of power) a.p.begun (c.bands.result.1.0)) b.0
    ∙ ap (λ (i : ℕ). excite_of a.p.curve (band_of a.bins.start.0) i (of power) a.p.begun i) b.1 in
    let excited-each : (Each 262144 262144 excite) = let a = c.args in
    subst (Each 262144 262144) (sym excite-is)
    (excite_each a.p.curve (band_of a.bins.start.0) (stop_of a.bins.end.0) (stop_of a.bins.end.0) (of power) a.p.begun c.requires.1.curve power-each.at c.requires.1.begun) in
    let mask_is : (let a = c.args in c.masks.new.out ≡ masks_of (of excite) (of power) a.p.levels.knee a.hearing.now a.p.levels.fscod (band_of a.bins.start.0) (stop_of a.bins.end.0)) = let a = c.args in
    let b = bands in
    let v = c.requires.1.levels in
    let f = within_fits 0 4096 v.knee tt tt in
    simp to_z-of_z at c.masks.ensures
    ∙ ap (λ (i : ℕ). masks_of (of excite) (of power) a.p.levels.knee a.hearing.now a.p.levels.fscod i (c.bands.result.1.0)) b.0
    ∙ ap (masks_of (of excite) (of power) a.p.levels.knee a.hearing.now a.p.levels.fscod (band_of a.bins.start.0)) b.1 in
    let a = c.args in (
      mask_is
          ∙ ap (λ (l : List ℤ). masks_of (of l) (of power) a.p.levels.knee a.hearing.now a.p.levels.fscod (band_of a.bins.start.0) (stop_of a.bins.end.0)) excite-is
          ∙ ap (λ (l : List ℤ). masks_of (of (excite_of a.p.curve (band_of a.bins.start.0) (stop_of a.bins.end.0) (of l) a.p.begun (stop_of a.bins.end.0))) (of l) a.p.levels.knee a.hearing.now a.p.levels.fscod (band_of a.bins.start.0) (stop_of a.bins.end.0)) power-is,
      subst (Each 524288 524288) (sym mask_is) (masks_each excite power a.p.levels.knee a.hearing.now a.p.levels.fscod (band_of a.bins.start.0) (stop_of a.bins.end.0) excited-each (wide power power-each) c.requires.1.levels.knee (λ i. omega (arith, c.fits-hearing i))),
    )
