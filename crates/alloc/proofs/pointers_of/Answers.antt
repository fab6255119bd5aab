-- `alloc::pointers_of` meets its contract: powers, masks, segments and pointers follow one another, each in its range.
-- Assumes nothing.
use Prim.Native.Nat.{◌-◌}
use mathlib.Core.Path.{◌≡◌, refl, subst, sym}
use mathlib.Core.List.{List}
use native.Mathlib.Omega.{arith}
use lib.IntN.{ℤ}
use mir.Facts.{to_z-of_z}
use Rattle.tables.specs.Numbers.{Each}
use Rattle.alloc.specs.Clauses.{powers_of}
use Rattle.tables.proofs.Signed.{within_fits, widen}
use Rattle.alloc.proofs.RangeLaws.{deltas_each, powers_each}
use Rattle.tables.proofs.FitLaws.{upto_at}
use Rattle.alloc.proofs.pointers_of.Goals as goal

pub channel_masks-requires : goal.channel_masks-requires
channel_masks-requires c =
    let psd : (List ℤ) = c.powers.new.psd in
    let psd-is : (psd ≡ powers_of c.args.exp.now c.args.bins.start.0 c.args.bins.end.0) = c.powers.ensures in
    let psd-each : (Each 29568 3072 psd) = let a = c.args in
    let u = upto_at 24 a.exp.now a.bins.start.0 (a.bins.end.0 - a.bins.start.0) c.requires.0 in
    subst (Each 29568 3072) (sym psd-is)
    (powers_each a.exp.now a.bins.start.0 a.bins.end.0 (λ k p q. omega (arith, u k p (omega arith)))) in
    (psd-each, c.requires.1, refl)

pub baps-requires : goal.baps-requires
baps-requires c =
    let psd : (List ℤ) = c.powers.new.psd in
    let mask : (List ℤ) = c.channel_masks.new.mask in
    let shifted : (List ℤ) = c.deltas.new.mask in
    let psd-is : (psd ≡ powers_of c.args.exp.now c.args.bins.start.0 c.args.bins.end.0) = c.powers.ensures in
    let psd-each : (Each 29568 3072 psd) = let a = c.args in
    let u = upto_at 24 a.exp.now a.bins.start.0 (a.bins.end.0 - a.bins.start.0) c.requires.0 in
    subst (Each 29568 3072) (sym psd-is)
    (powers_each a.exp.now a.bins.start.0 a.bins.end.0 (λ k p q. omega (arith, u k p (omega arith)))) in
    let shifted-each : (Each 1048576 1048576 shifted) = let d = c.args.p.delta in
    let g = c.requires.1.delta in
    let e = deltas_each d.offset d.len d.ba mask d.count g.ba.at c.channel_masks.ensures.1 in
    subst (Each 1048576 1048576) (sym c.deltas.ensures)
    (record { at = λ k. widen 1048576 1048576 (e.at k) (omega (arith, g.count)) (omega (arith, g.count)) }) in
    let l = c.requires.1.levels in
    let f = within_fits 2048 1024 l.floor tt tt in
    let g = within_fits 960 3132 l.snr tt tt in
    simp to_z-of_z (psd-each, shifted-each, l.snr, l.floor, c.requires.2)
