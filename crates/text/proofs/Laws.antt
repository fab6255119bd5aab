-- Laws of the text's definitions, each over plain lists and numbers: what one turn of a loop does, and what is left at its end.
-- Assumes nothing.
use Rattle.std.proofs.Common.{◌≡◌, ℕ, zero, suc, ◌+◌, ◌*◌, ◌/◌, ◌<◌, ◌≤◌, true, List, [], ◌∷◌, length, take, drop, set, get_or, refl, sym, ap, ◌∙◌, eqb, arith, add-one, Some, None, drop-cons, take-suc-set, drop-drop, drop_of_length-le}
use Rattle.std.proofs.lemmas.Grind.{common_steps}
use Rattle.std.specs.List.{position}
use Rattle.std.specs.Cmp.Lexicographic.{pointwise}
use Rattle.std.specs.Option.{unwrap_or}
use Rattle.std.specs.Simd.{first_chunks}
use Rattle.text.specs.Text.{ahead, since, pair_of, after_pairs, word_from, is_dash}

-- a search counts what stands ahead
pub ahead_length : (b : ℕ) (xs : List ℕ) → length (ahead b xs) ≡ unwrap_or (position (λ x. eqb x b) xs) (length xs)
unfolding ahead
ahead_length b [] = grind arith
ahead_length b (x ∷ xs) = grind (arith, ahead_length b xs)

-- the pair at i
pair_at : (k i : ℕ) (bs : List ℕ) → i < k → get_or (first_chunks 2 k bs) i [] ≡ take 2 (drop (2 * i) bs)
pair_at zero i bs h = absurd (omega arith)
pair_at (suc k) zero bs h = refl
pair_at (suc k) (suc i) bs h =
    let on : get_or (first_chunks 2 k (drop 2 bs)) i [] ≡ take 2 (drop (2 * i) (drop 2 bs)) = pair_at k i (drop 2 bs) (omega arith) in
    let n : 2 * suc i ≡ 2 + 2 * i = omega arith in
    on ∙ ap (take 2) (drop-drop (2 * i) 2 bs) ∙ ap (λ (m : ℕ). take 2 (drop m bs)) (sym n)

-- pairs: one more, one that is none, and the end
module _ (bs : List ℕ) (i : ℕ) (h : i < length bs / 2) where
  abbrev digits : List ℕ
  digits = get_or (first_chunks 2 (length bs / 2) bs) i []

  same_pair : pair_of (get_or digits 0 0) (get_or digits 1 0) ≡ pair_of (get_or bs (2 * i) 0) (get_or bs (2 * i + 1) 0)
  same_pair =
      let at = pair_at (length bs / 2) i bs h in
      let high : get_or (take 2 (drop (2 * i) bs)) 0 0 ≡ get_or bs (2 * i) 0 = grind (arith, common_steps) in
      let low : get_or (take 2 (drop (2 * i) bs)) 1 0 ≡ get_or bs (2 * i + 1) 0 = grind (arith, common_steps) in
      cc

  two : drop (2 * i) bs ≡ get_or bs (2 * i) 0 ∷ get_or bs (2 * i + 1) 0 ∷ drop (2 * (i + 1)) bs
  two =
      let n : 2 * (i + 1) ≡ suc (2 * i + 1) = omega arith in
      let k : 2 * i < length bs = omega arith in
      let m : 2 * i + 1 < length bs = omega arith in
      drop-cons bs (2 * i) 0 k ∙ rw (n, ← drop-cons bs (2 * i + 1) 0 m, add-one)

  pub pairs_on : (out : List ℕ) {b : ℕ} → i < length out → pair_of (get_or digits 0 0) (get_or digits 1 0) ≡ Some b
      → after_pairs (take (i + 1) (set out i b)) (drop (2 * (i + 1)) bs) ≡ after_pairs (take i out) (drop (2 * i) bs)
  unfolding after_pairs
  pairs_on out {b} k e = rw (two, add-one i, take-suc-set out i b k) (simp (sym same_pair ∙ e))

  pub pairs_stop : (done : List ℕ) → pair_of (get_or digits 0 0) (get_or digits 1 0) ≡ None → after_pairs done (drop (2 * i) bs) ≡ None
  unfolding after_pairs
  pairs_stop done e = rw two (simp (sym same_pair ∙ e))

pub pairs_end : (done bs : List ℕ) (i : ℕ) → length bs ≤ 2 * i → after_pairs done (drop (2 * i) bs) ≡ Some done
unfolding after_pairs
pairs_end done bs i h = rw (drop_of_length-le bs h)

-- `-`
pub dash : (bs : List ℕ) → pointwise eqb bs (45 ∷ []) ≡ is_dash bs
unfolding is_dash
dash [] = refl
dash (b ∷ []) = grind arith
dash (b ∷ c ∷ bs) = grind arith

-- the word after a space
pub take_ahead : (b : ℕ) (xs : List ℕ) → take (length (ahead b xs)) xs ≡ ahead b xs
unfolding ahead
take_ahead b [] = refl
take_ahead b (x ∷ xs) = grind (arith, common_steps, take_ahead b xs)

pub drop_ahead : (b : ℕ) (xs : List ℕ) → drop (length (ahead b xs)) xs ≡ since b xs
unfolding ahead since
drop_ahead b [] = refl
drop_ahead b (x ∷ xs) = grind (arith, common_steps, drop_ahead b xs)

pub word_here : (line : List ℕ) (end : ℕ) → pointwise eqb (take 1 line) (32 ∷ []) ≡ true → end ≡ length (ahead 32 (drop 1 line))
    → word_from line ≡ Some (record { value = take end (drop 1 line); left = drop end (drop 1 line) })
unfolding word_from
word_here [] end t e = cc
word_here (b ∷ bs) end t e = grind (arith, common_steps, take_ahead 32 bs, drop_ahead 32 bs)
