-- What a code gives: nothing past its table's end, and a value in the table's range.
-- Assumes nothing.
use Prim.Native.Nat.{ℕ, ◌<◌, ◌≤◌, suc, zero}
use mathlib.Core.Path.{◌≡◌, ◌∙◌, subst, sym, ap, refl}
use mathlib.Core.List.{List, [], ◌∷◌}
use native.Mathlib.Omega.{arith}
use lib.ListN.{length, get_or}
use lib.IntN.{ℤ, pos, ◌+ℤ◌, ◌-ℤ◌, ◌*ℤ◌}
use mathlib.Core.Bool.{Bool, true}
use lib.Dec.{leb, ltb, T, leb→le}
use borrow.Author.Tests.{ltb-true, ltb-false}
use Rattle.refusal.specs.Refusals.{taken, refused, grounds, refuse_if}
use Rattle.refusal.proofs.Laws.{never, taken_same, past_refuse_if}
use Rattle.tables.specs.Numbers.{up, dn, Within}
use Rattle.std.specs.Prelude.{Option, Some, None}
use Rattle.std.specs.Option.{is_some, option_copied, IfSome}
use denote.Bor.{Bor}
use Rattle.tables.specs.Codes.{coded_of, code_at, fast_gain, leak_of, snr_offset, fine_of, snr_of}
use Rattle.tables.proofs.Signed.{parts, min_law, add_law, mul_law}
use Rattle.tables.proofs.BandLaws.{both, both_left, both_right}

pub past : (l : List ℤ) (n : ℕ) → length l ≤ n → refused (grounds 11 0) ≡ code_at l n
unfolding code_at
past [] n h = refl
past (z ∷ zs) zero h = absurd (omega arith)
past (z ∷ zs) (suc n) h = past zs n (omega arith)

within : (l : List ℤ) (n : ℕ) (d : ℤ) → n < length l → taken (get_or l n d) ≡ code_at l n
unfolding code_at
within [] n d h = absurd (omega arith)
within (z ∷ zs) zero d h = refl
within (z ∷ zs) (suc n) d h = within zs n d (omega arith)

-- what a slice has at a code's place is the code's value
pub code_got : (l : List ℤ) (n : ℕ) (r : Option (Bor ℤ)) → is_some r ≡ ltb n (length l) → IfSome r (λ x. x.now ≡ get_or l n x.now)
    → coded_of (option_copied r) ≡ code_at l n
code_got l n None s v = past l n (ltb-false n (length l) (sym s))
code_got l n (Some x) s v = ap taken v ∙ within l n x.now (ltb-true n (length l) (sym s))

-- every value of a table lies in a range, which antt computes; so does what a code gives
abbrev pub all_in : ℕ → ℕ → List ℤ → Bool
all_in lo hi [] = true
all_in lo hi (z ∷ zs) = both (leb (dn z) lo) (both (leb (up z) hi) (all_in lo hi zs))

pub code_within : (lo hi : ℕ) (l : List ℤ) (n : ℕ) (z : ℤ) → T (all_in lo hi l) → code_at l n ≡ taken z → Within lo hi z
unfolding code_at
code_within lo hi [] n z t e = never e
code_within lo hi (x ∷ xs) zero z t e =
    let r = both_right (leb (dn x) lo) (both (leb (up x) hi) (all_in lo hi xs)) t in
    subst (Within lo hi) (taken_same e)
    (record { low = leb→le (dn x) lo (both_left (leb (dn x) lo) (both (leb (up x) hi) (all_in lo hi xs)) t); high = leb→le (up x) hi (both_left (leb (up x) hi) (all_in lo hi xs) r) })
code_within lo hi (x ∷ xs) (suc n) z t e =
    code_within lo hi xs n z (both_right (leb (up x) hi) (all_in lo hi xs) (both_right (leb (dn x) lo) (both (leb (up x) hi) (all_in lo hi xs)) t)) e

pub gain_within : (n : ℕ) (z : ℤ) → fast_gain n ≡ taken z → Within 0 2048 z
unfolding fast_gain
gain_within n z e =
    let p = past_refuse_if (ltb 7 n) 11 0 _ e in
    let l = ltb-false 7 n p.0 in
    subst (Within 0 2048) (taken_same p.1) (record { low = omega arith; high = omega arith })

pub leak_within : (n : ℕ) (z : ℤ) → leak_of n ≡ taken z → Within 131072 131072 z
unfolding leak_of
leak_within n z e =
    let p = past_refuse_if (ltb 7 n) 11 0 _ e in
    let l = ltb-false 7 n p.0 in
    subst (Within 131072 131072) (taken_same p.1) (record { low = omega arith; high = omega arith })

offset_within : (a b : ℕ) → a ≤ 63 → b ≤ 15 → Within 960 3132 (snr_offset a b)
unfolding snr_offset
offset_within a b h k =
    let l = min_law (pos a) (pos 15) in
    let m = mul_law 16 (pos a -ℤ pos 15) in
    let d = add_law (pos 16 *ℤ (pos a -ℤ pos 15)) (pos b) in
    let n = mul_law 4 (pos 16 *ℤ (pos a -ℤ pos 15) +ℤ pos b) in
    let p = parts (pos 16 *ℤ (pos a -ℤ pos 15) +ℤ pos b) in
    record { low = omega arith; high = omega arith }

pub snr_within : (a b : ℕ) (z : ℤ) → snr_of a b ≡ taken z → Within 960 3132 z
unfolding snr_of fine_of
snr_within a b z e =
    let p = past_refuse_if (ltb 63 a) 11 0 (refuse_if (ltb 15 b) 11 0 (taken (snr_offset a b))) e in
    let q = past_refuse_if (ltb 15 b) 11 0 (taken (snr_offset a b)) p.1 in
    subst (Within 960 3132) (taken_same q.1) (offset_within a b (ltb-false 63 a p.0) (ltb-false 15 b q.0))
