-- One turn of each loop, and its first: what a definition is at the next bin, band or segment.
-- Assumes nothing.
use Prim.Native.Nat.{ℕ, ◌<◌, ◌≤◌, ◌+◌, ◌-◌, ◌*◌, min, suc}
use mathlib.Core.Path.{◌≡◌, ap, ◌∙◌, refl}
use mathlib.Core.List.{List}
use native.Mathlib.Omega.{arith}
use lib.ListN.{length, get_or, set}
use lib.IntN.{ℤ, pos, ◌+ℤ◌}
use Rattle.alloc.specs.declared.Carried.{Carried}
use Rattle.alloc.specs.declared.Curve.{Curve}
use Rattle.alloc.specs.Clauses.{logadd, band_sum, mask_at, masks_of, delta_of, add_segment, segment_end, deltas_of, address, bap_at, baps_of, pointed, mask_step}
use Rattle.tables.specs.Bands.{band_of}
use Rattle.alloc.specs.Excite.{step, leak_at}
use Rattle.alloc.proofs.TableLaws.{fill_turn, blend_turn, blend_clip, blend_inside, table_of}

-- one bin more
pub band_sum_next : (latab : List ℕ) (psd : ℕ → ℤ) (lo j : ℕ) → lo < j
    → band_sum latab psd lo (j + 1 - 1 - lo) ≡ logadd latab (band_sum latab psd lo (j - 1 - lo)) (psd j)
unfolding band_sum
band_sum_next latab psd lo j h =
    let e : j + 1 - 1 - lo ≡ suc (j - 1 - lo) = omega arith in
    let e' : lo + suc (j - 1 - lo) ≡ j = omega arith in
    ap (band_sum latab psd lo) e ∙ ap (λ (k : ℕ). logadd latab (band_sum latab psd lo (j - 1 - lo)) (psd k)) e'

pub band_sum_first : (latab : List ℕ) (psd : ℕ → ℤ) (lo : ℕ) → band_sum latab psd lo (lo + 1 - 1 - lo) ≡ psd lo
unfolding band_sum
band_sum_first latab psd lo =
    let e : lo + 1 - 1 - lo ≡ 0 = omega arith in
    ap (band_sum latab psd lo) e

-- 6.2.2.6
pub segment_turn : (d : ℤ) (a k : ℕ) (mask : List ℤ) (v : ℤ) → a ≤ k → v ≡ get_or mask k (pos 0) +ℤ d
    → set (add_segment d a k mask) k v ≡ add_segment d a (k + 1) mask
unfolding add_segment
segment_turn d a k mask v h e = blend_turn 50 a k (λ (j : ℕ). get_or mask j (pos 0) +ℤ d) (λ (j : ℕ). get_or mask j (pos 0)) v h e

pub segment_clip : (d : ℤ) (a b : ℕ) (mask : List ℤ) → add_segment d (min a 50) (min b 50) mask ≡ add_segment d a b mask
unfolding add_segment
segment_clip d a b mask = blend_clip 50 a b (λ (j : ℕ). get_or mask j (pos 0) +ℤ d) (λ (j : ℕ). get_or mask j (pos 0)) (pos 0)

-- 6.2.2.7
pub pointed_turn : (baptab : List ℕ) (psd : ℕ → ℤ) (m : ℤ) (lo i : ℕ) (out : List ℕ) (v : ℕ) → lo ≤ i → v ≡ get_or baptab (address (psd i) m) 0
    → set (pointed baptab psd m lo i out) i v ≡ pointed baptab psd m lo (i + 1) out
unfolding pointed
pointed_turn baptab psd m lo i out v h e = blend_turn 256 lo i (λ (j : ℕ). get_or baptab (address (psd j) m) 0) (λ (j : ℕ). get_or out j 0) v h e

pub pointed_none : (baptab : List ℕ) (psd : ℕ → ℤ) (m : ℤ) (lo : ℕ) (out : List ℕ) → length out ≡ 256 → out ≡ pointed baptab psd m lo lo out
unfolding pointed
pointed_none baptab psd m lo out e = table_of 256 lo (λ (j : ℕ). get_or baptab (address (psd j) m) 0) out 0 e

-- a band more, of whose bins m is the mask
pub baps_band : (baptab : List ℕ) (psd mask : ℕ → ℤ) (snr floor m : ℤ) (start lo hi : ℕ) → start ≤ lo → lo ≤ hi
    → ((j : ℕ) → lo ≤ j → j < hi → m ≡ mask_step (mask (band_of j)) snr floor)
    → pointed baptab psd m lo hi (baps_of baptab psd mask snr floor start lo) ≡ baps_of baptab psd mask snr floor start hi
unfolding pointed baps_of bap_at
baps_band baptab psd mask snr floor m start lo hi p q h =
    blend_inside 256 start lo hi 0 (λ (j : ℕ). get_or baptab (address (psd j) m) 0) (bap_at baptab psd mask snr floor) p q
    (λ j l k. ap (λ (x : ℤ). get_or baptab (address (psd j) x) 0) (h j l k))

pub masks_turn : (excite power : ℕ → ℤ) (knee : ℤ) (hearing : List ℕ) (fscod first k : ℕ) (v : ℤ) → first ≤ k
    → v ≡ mask_at (excite k) (power k) knee (get_or hearing (50 * fscod + k) 0)
    → set (masks_of excite power knee hearing fscod first k) k v ≡ masks_of excite power knee hearing fscod first (k + 1)
unfolding masks_of
masks_turn excite power knee hearing fscod first k v h e =
    fill_turn 50 first k (pos 0) (λ k. mask_at (excite k) (power k) knee (get_or hearing (50 * fscod + k) 0)) v h e

pub segment_end_next : (offs lens : List ℕ) (n : ℕ) → segment_end offs lens (n + 1) ≡ segment_end offs lens n + get_or offs n 0 + get_or lens n 0
unfolding segment_end
segment_end_next offs lens n =
    let e : n + 1 ≡ suc n = omega arith in
    ap (segment_end offs lens) e

pub deltas_next : (offs lens bas : List ℕ) (mask : List ℤ) (n : ℕ)
    → deltas_of offs lens bas mask (n + 1)
    ≡ add_segment (delta_of (get_or bas n 0)) (segment_end offs lens n + get_or offs n 0) (segment_end offs lens n + get_or offs n 0 + get_or lens n 0)
    (deltas_of offs lens bas mask n)
unfolding deltas_of
deltas_next offs lens bas mask n =
    let e : n + 1 ≡ suc n = omega arith in
    ap (deltas_of offs lens bas mask) e

pub deltas_zero : (offs lens bas : List ℕ) (mask : List ℤ) → (mask ≡ deltas_of offs lens bas mask 0) × (0 ≡ segment_end offs lens 0)
unfolding deltas_of segment_end
deltas_zero offs lens bas mask = (refl, refl)

-- one band more
pub leak_at_next : (c : Curve) (first end : ℕ) (p : ℕ → ℤ) (s : Carried) (k : ℕ) → first ≤ k
    → leak_at c first end p s (k + 1 - first) ≡ step c first end p k (leak_at c first end p s (k - first))
unfolding leak_at
leak_at_next c first end p s k h =
    let e : k + 1 - first ≡ suc (k - first) = omega arith in
    let e' : first + (k - first) ≡ k = omega arith in
    ap (leak_at c first end p s) e ∙ ap (λ (j : ℕ). step c first end p j (leak_at c first end p s (k - first))) e'

pub leak_at_first : (c : Curve) (first end : ℕ) (p : ℕ → ℤ) (s : Carried) → leak_at c first end p s (first - first) ≡ s
unfolding leak_at
leak_at_first c first end p s =
    let e : first - first ≡ 0 = omega arith in
    ap (leak_at c first end p s) e
