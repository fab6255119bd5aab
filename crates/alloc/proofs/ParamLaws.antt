-- What codes decode to lies in its ranges.
-- Assumes nothing.
use Prim.Native.Nat.{zero-le}
use mathlib.Core.Path.{◌≡◌, subst}
use mathlib.Core.Bool.{true}
use native.Mathlib.Omega.{arith}
use lib.Dec.{leb, ltb}
use lib.IntN.{ℤ, pos}
use borrow.Author.Tests.{ltb-false, leb-true}
use Rattle.refusal.specs.Refusals.{taken}
use Rattle.refusal.proofs.Laws.{taken_same, past_refuse_if, past_then}
use Rattle.tables.specs.declared.Delta.{Delta}
use Rattle.tables.specs.Numbers.{Within}
use Rattle.tables.specs.Codes.{code_at, slow_decay, fast_decay, slow_gain, knee_table, floor_table, fast_gain, leak_of, snr_of}
use Rattle.tables.specs.Fits.{upto, delta_fits}
use Rattle.tables.proofs.CodeLaws.{code_within, gain_within, leak_within, snr_within}
use Rattle.refusal.proofs.TestLaws.{and_left, and_right}
use Rattle.tables.proofs.FitLaws.{upto_at}
use Rattle.alloc.specs.declared.Codes.{Codes}
use Rattle.alloc.specs.declared.Leak.{Leak}
use Rattle.std.specs.Prelude.{Option, Some, None}
use Rattle.alloc.specs.declared.Curve.{Curve}
use Rattle.alloc.specs.declared.Levels.{Levels}
use Rattle.alloc.specs.declared.Carried.{Carried}
use Rattle.alloc.specs.Params.{curve_of, levels_of, begins_at, leaks_of, start_of, decoded_of}
use Rattle.alloc.specs.Ranges.{Tame, Kept, Level, Segments, Decoded}
use Rattle.alloc.specs.declared.Parameters.{Parameters}
use mathlib.Core.Bool.{Bool, false, not}
use mathlib.Core.Path.{refl}

pub curve_tame : (k : Codes) (c : Curve) → curve_of k ≡ taken c → Tame c
unfolding curve_of
curve_tame k c e =
    let sd = past_then (code_at slow_decay k.sdcycod) _ e in
    let fd = past_then (code_at fast_decay k.fdcycod) _ sd.2 in
    let sg = past_then (code_at slow_gain k.sgaincod) _ fd.2 in
    let fg = past_then (fast_gain k.fgaincod) _ sg.2 in
    subst Tame (taken_same fg.2)
    (record {
      sd = code_within 0 2048 slow_decay k.sdcycod sd.0 tt sd.1;
      fd = code_within 0 2048 fast_decay k.fdcycod fd.0 tt fd.1;
      sg = code_within 0 2048 slow_gain k.sgaincod sg.0 tt sg.1;
      fg = gain_within k.fgaincod fg.0 fg.1;
    })

pub levels_level : (k : Codes) (v : Levels) → levels_of k ≡ taken v → Level v
unfolding levels_of
levels_level k v e =
    let a = past_then (code_at knee_table k.dbpbcod) _ e in
    let b = past_then (code_at floor_table k.floorcod) _ a.2 in
    let d = past_then (snr_of k.csnroffst k.fsnroffst) _ b.2 in
    let p = past_refuse_if (ltb 2 k.fscod) 11 0 _ d.2 in
    subst Level (taken_same p.1)
    (record {
      knee = code_within 0 4096 knee_table k.dbpbcod a.0 tt a.1;
      floor = code_within 2048 1024 floor_table k.floorcod b.0 tt b.1;
      snr = snr_within k.csnroffst k.fsnroffst d.0 d.1;
      fscod = ltb-false 2 k.fscod p.0;
    })

begins_kept : (f s : ℤ) → Within 131072 131072 f → Within 131072 131072 s → Kept (begins_at f s)
begins_kept f s wf ws =
    record { fast = wf; slow = ws; low = record { low = omega arith; high = omega arith }; out = record { low = omega arith; high = omega arith } }

pub start_kept : (l : Option Leak) (s : Carried) → start_of l ≡ taken s → Kept s
unfolding start_of leaks_of
start_kept None s e = subst Kept (taken_same e)
    (begins_kept (pos 0) (pos 0) (record { low = omega arith; high = omega arith }) (record { low = omega arith; high = omega arith }))
start_kept (Some k) s e =
    let a = past_then (leak_of k.cplfleak) _ e in
    let b = past_then (leak_of k.cplsleak) _ a.2 in
    subst Kept (taken_same b.2) (begins_kept a.0 b.0 (leak_within k.cplfleak a.0 a.1) (leak_within k.cplsleak b.0 b.1))

pub delta_sized : (d : Delta) → delta_fits d ≡ true → Segments d
unfolding delta_fits
delta_sized d e =
    let a = and_right (leb d.count 8) _ e in
    let b = and_right (upto 31 d.offset 0 d.count) _ a in
    let o = upto_at 31 d.offset 0 d.count (and_left _ _ a) in
    let l = upto_at 15 d.len 0 d.count (and_left _ _ b) in
    let s = upto_at 7 d.ba 0 d.count (and_right (upto 15 d.len 0 d.count) _ b) in
    record {
      count = leb-true d.count 8 (and_left _ _ e);
      offset = record { at = λ k h. omega (arith, o k zero-le (omega arith)) };
      len = record { at = λ k h. omega (arith, l k zero-le (omega arith)) };
      ba = record { at = λ k h. omega (arith, s k zero-le (omega arith)) };
    }

pub decoded_fit : (k : Codes) (l : Option Leak) (d : Delta) (p : Parameters) → decoded_of k l d ≡ taken p → Decoded p
unfolding decoded_of
decoded_fit k l d p e =
    let c = past_then (curve_of k) _ e in
    let v = past_then (levels_of k) _ c.2 in
    let s = past_then (start_of l) _ v.2 in
    let f = past_refuse_if (not (delta_fits d)) 11 0 _ s.2 in
    subst Decoded (taken_same f.1)
    (record {
      curve = curve_tame k c.0 c.1;
      levels = levels_level k v.0 v.1;
      begun = start_kept l s.0 s.1;
      delta = delta_sized d (fits (delta_fits d) f.0);
    })
  where
    fits : (b : Bool) → not b ≡ false → b ≡ true
    fits true q = refl
    fits false q = cc
