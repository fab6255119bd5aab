-- `repair::put_word` meets its contract: two bytes written side by side. Assumes nothing.
use Rattle.std.proofs.Common.{◌≡◌, ℕ, zero, suc, ◌+◌, ◌-◌, ◌/◌, ◌%◌, ◌^◌, ◌<◌, List, [], ◌∷◌, length, refl, sym, ap, ap₂, ◌∙◌, arith}
use native.Mathlib.Nat.{suc-add}
use lib.ListN.{set}
use borrow.Rule.Slice.PartMut.{put_mid}
use Rattle.repair.specs.Repair.{put_word}
use Rattle.repair.proofs.put_word.Goals as goal

side_by_side : (s : List ℕ) (i a b : ℕ) → i + 1 < length s → put_mid i 2 s (a ∷ b ∷ []) ≡ set (set s i a) (i + 1) b
side_by_side [] i a b h = absurd (omega arith)
side_by_side (x ∷ []) zero a b h = absurd (omega arith)
side_by_side (x ∷ y ∷ s) zero a b h = refl
side_by_side (x ∷ s) (suc i) a b h =
    ap (λ (t : List ℕ). x ∷ t) (side_by_side s i a b (omega arith)) ∙ ap (λ (k : ℕ). set (set (x ∷ s) (suc i) a) k b) (sym (suc-add i 1))

pub returns : goal.returns
unfolding put_word
returns c =
    let a = c.args in
    let two : a.i + 2 - a.i ≡ 2 = omega arith in
    let high : a.v / 2 ^ 8 % 2 ^ 8 ≡ a.v / 2 ^ 8 = omega arith in
    ap₂ (λ (k : ℕ) (t : List ℕ). put_mid a.i k a.frame.now t) two
    (c.copy_from_slice.ensures.after ∙ c.to_be_bytes.ensures ∙ ap (λ (h : ℕ). h ∷ a.v % 2 ^ 8 ∷ []) high)
    ∙ side_by_side a.frame.now a.i (a.v / 2 ^ 8) (a.v % 2 ^ 8) c.requires
