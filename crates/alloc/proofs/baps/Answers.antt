-- `alloc::baps` meets its contract: each turn fills the places of one band's bins.
-- Assumes nothing.
use Prim.Native.Nat.{ℕ, ◌<◌, ◌≤◌, ◌+◌, ◌-◌, min, max}
use mathlib.Core.Path.{◌≡◌, ap, sym, subst, ◌∙◌}
use native.Mathlib.Omega.{arith}
use lib.ListN.{get_or}
use lib.IntN.{pos}
use mir.Syntax.{w32}
use mir.Val.{to_z, of_z}
use mir.Facts.{to_z-of_z}
use Rattle.tables.specs.Numbers.{Within}
use Rattle.tables.specs.Bands.{band_start, band_of}
use Rattle.tables.proofs.Signed.{within_fits, widen}
use Rattle.tables.proofs.BandLaws.{band_low, band_high, band_mono, band_is, start_mono}
use Rattle.alloc.specs.Clauses.{baps_of, bap_at, mask_step, pointed}
use Rattle.alloc.proofs.TableLaws.{fill_start}
use Rattle.alloc.proofs.RangeLaws.{mask_step_within}
use Rattle.alloc.proofs.Turns.{baps_band}
use Rattle.alloc.proofs.baps.Goals as goal

pub loop-k-init : goal.loop-k-init
unfolding baps_of
loop-k-init c =
    let a = c.args in
    let l = band_low a.bins.start.0 (omega arith) in
    let e : a.bins.start.0 ≡ min (max (band_start c.bands.result.0.0) a.bins.start.0) a.bins.end.0 = rw c.bands.ensures.is.0 (omega arith) in
    c.requires.4
    ∙ fill_start 256 a.bins.start.0 0 (bap_at a.baptab.now (λ (j : ℕ). get_or a.psd.now j (pos 0)) (λ (j : ℕ). get_or a.mask.now j (pos 0)) (to_z w32 (of_z w32 a.snr)) (to_z w32 (of_z w32 a.floor)))
    ∙ ap (baps_of a.baptab.now (λ (j : ℕ). get_or a.psd.now j (pos 0)) (λ (j : ℕ). get_or a.mask.now j (pos 0)) (to_z w32 (of_z w32 a.snr)) (to_z w32 (of_z w32 a.floor)) a.bins.start.0) e

pub point-requires : goal.point-requires
point-requires c =
    let fb = within_fits 1048576 1048576 (c.requires.1.at c.loop-k.k) tt tt in
    let fs = c.ranges.snr in
    let ff = c.ranges.floor in
    let mask_is : c.mask_step-m.result ≡ mask_step (get_or c.args.mask.now c.loop-k.k (pos 0)) c.args.snr c.args.floor = simp to_z-of_z at c.mask_step-m.ensures in
    let within : Within 2048 9216 c.mask_step-m.result =
    subst (Within 2048 9216) (sym mask_is)
    (mask_step_within (get_or c.args.mask.now c.loop-k.k (pos 0)) c.args.snr c.args.floor c.requires.3) in
    let f = within_fits 2048 9216 within tt tt in
    simp to_z-of_z (
      c.requires.0,
      widen 2048 16384 within (omega arith) (omega arith),
      omega arith,
      omega arith,
    )

pub loop-k-preserved : goal.loop-k-preserved
loop-k-preserved c =
    let a = c.args in
    let lo : ℕ = c.of_band.result.0.0 in
    let hi : ℕ = c.of_band.result.1.0 in
    let fb = within_fits 1048576 1048576 (c.requires.1.at c.loop-k.k) tt tt in
    let fs = c.ranges.snr in
    let ff = c.ranges.floor in
    let mask_is : c.mask_step-m.result ≡ mask_step (get_or c.args.mask.now c.loop-k.k (pos 0)) c.args.snr c.args.floor = simp to_z-of_z at c.mask_step-m.ensures in
    let within : Within 2048 9216 c.mask_step-m.result =
    subst (Within 2048 9216) (sym mask_is)
    (mask_step_within (get_or c.args.mask.now c.loop-k.k (pos 0)) c.args.snr c.args.floor c.requires.3) in
    let fm = within_fits 2048 9216 within tt tt in
    let is = c.of_band.ensures.is in
    let small : c.loop-k.k < 50 = omega arith in
    let shared : (j : ℕ) → lo ≤ j → j < hi → c.mask_step-m.result ≡ mask_step (get_or c.args.mask.now (band_of j) (pos 0)) c.args.snr c.args.floor =
    λ j p q. mask_is ∙ ap (λ (i : ℕ). mask_step (get_or c.args.mask.now i (pos 0)) c.args.snr c.args.floor) (sym (band_is j c.loop-k.k small (omega (arith, is)) (omega (arith, is)))) in
    let now : min (max (band_start c.loop-k.k) a.bins.start.0) a.bins.end.0 ≡ lo = omega (arith, is) in
    let after = band_high a.bins.start.0 (omega arith) in
    let mono = start_mono (band_of a.bins.start.0 + 1) (c.loop-k.k + 1) (omega (arith, c.bands.ensures)) (omega arith) in
    let next : hi ≡ min (max (band_start (c.loop-k.k + 1)) a.bins.start.0) a.bins.end.0 = omega (arith, is, after, mono) in
    let i = simp to_z-of_z at c.loop-k.invariant in
    let p = simp to_z-of_z at c.point.ensures in
    simp to_z-of_z (
    p
    ∙ ap (pointed a.baptab.now (λ (j : ℕ). get_or a.psd.now j (pos 0)) c.mask_step-m.result lo hi) (i ∙ ap (baps_of a.baptab.now (λ (j : ℕ). get_or a.psd.now j (pos 0)) (λ (j : ℕ). get_or a.mask.now j (pos 0)) a.snr a.floor a.bins.start.0) now)
    ∙ baps_band a.baptab.now (λ (j : ℕ). get_or a.psd.now j (pos 0)) (λ (j : ℕ). get_or a.mask.now j (pos 0)) a.snr a.floor c.mask_step-m.result a.bins.start.0 lo hi (omega (arith, is)) (omega arith) shared
    ∙ ap (baps_of a.baptab.now (λ (j : ℕ). get_or a.psd.now j (pos 0)) (λ (j : ℕ). get_or a.mask.now j (pos 0)) a.snr a.floor a.bins.start.0) next
    )

pub returns : goal.returns
returns c =
    let a = c.args in
    let u = band_high (a.bins.end.0 - 1) (omega arith) in
    let m = band_mono a.bins.start.0 (a.bins.end.0 - 1) (omega arith) (omega arith) in
    let k : c.loop-k.k ≡ band_of (a.bins.end.0 - 1) + 1 = omega (arith, c.bands.ensures) in
    let e : min (max (band_start c.loop-k.k) a.bins.start.0) a.bins.end.0 ≡ a.bins.end.0 = rw k (omega arith) in
    let fs = c.ranges.snr in
    let ff = c.ranges.floor in
    simp to_z-of_z at c.loop-k.invariant
    ∙ ap (baps_of a.baptab.now (λ (j : ℕ). get_or a.psd.now j (pos 0)) (λ (j : ℕ). get_or a.mask.now j (pos 0)) a.snr a.floor a.bins.start.0) e
