-- What a test of a list's numbers shows of each of them.
-- Assumes nothing.
use Prim.Native.Nat.{ℕ, ◌≤◌, ◌<◌, ◌+◌, ◌-◌, min, max, suc, zero, zero-le}
use mathlib.Core.Path.{◌≡◌, ◌∙◌, subst, sym, ap, refl}
use mathlib.Core.List.{List}
use native.Mathlib.Omega.{arith}
use lib.ListN.{length, get_or, get_or-eq_default, take, drop, length-drop}
use mathlib.Core.Bool.{Bool, true, false, ◌&&◌}
use lib.Dec.{leb, ltb, eqb, eqb→eq}
use borrow.Author.Tests.{ltb-true, ltb-false, leb-true, leb-false, le-leb}
use Rattle.std.specs.List.{fold, slice_range}
use Rattle.std.specs.Prelude.{Some}
use Rattle.std.specs.Ordering.{partial_le, nat_cmp}
use Rattle.std.proofs.lemmas.Bool.Decides.{nat_tests}
use Rattle.std.proofs.lemmas.List.{get_or-drop, take_all}
use Rattle.std.proofs.lemmas.List.Sums.{fold_more}
use Rattle.refusal.proofs.TestLaws.{and_left, and_right}
use Rattle.tables.specs.Fits.{upto, lent_fits}

pub upto_at : (top : ℕ) (l : List ℕ) (start n : ℕ) → upto top l start n ≡ true → (k : ℕ) → start ≤ k → k < start + n → get_or l k 0 ≤ top
unfolding upto
upto_at top l start zero e k p h = absurd (omega arith)
upto_at top l start (suc n) e k p h =
    by (upto_at top l start n (and_left (upto top l start n) (leb (get_or l (start + n) 0) top) e) k p) (ltb k (start + n)) refl
  where
    by : (k < start + n → get_or l k 0 ≤ top) → (t : Bool) → ltb k (start + n) ≡ t → get_or l k 0 ≤ top
    by r true q = r (ltb-true k (start + n) q)
    by r false q =
        let f = ltb-false k (start + n) q in
        let i : start + n ≡ k = omega arith in
        subst (λ (j : ℕ). get_or l j 0 ≤ top) i
        (leb-true (get_or l (start + n) 0) top (and_right (upto top l start n) (leb (get_or l (start + n) 0) top) e))

pub upto_whole : (top : ℕ) (l : List ℕ) (n : ℕ) → upto top l 0 (n - 0) ≡ upto top l 0 n
upto_whole top l n =
    let e : n - 0 ≡ n = omega arith in
    ap (upto top l 0) e

-- places past the end of a list do not count
past_is : (top : ℕ) (l : List ℕ) (b : Bool) (k : ℕ) → length l ≤ k → (b && leb (get_or l k 0) top) ≡ b
past_is top l b k h = rw (get_or-eq_default l 0 h, le-leb 0 top zero-le) (with_true b)
  where
    with_true : (b : Bool) → (b && true) ≡ b
    with_true true = refl
    with_true false = refl

pub upto_more : (top : ℕ) (l : List ℕ) (start n k : ℕ) → length l ≤ start + n → upto top l start (n + k) ≡ upto top l start n
unfolding upto
upto_more top l start n zero h =
    let e : n + 0 ≡ n = omega arith in
    ap (upto top l start) e
upto_more top l start n (suc k) h =
    let e : n + suc k ≡ suc (n + k) = omega arith in
    ap (upto top l start) e ∙ past_is top l (upto top l start (n + k)) (start + (n + k)) (omega arith) ∙ upto_more top l start n k h

-- a test that stops at the range's end, or at the list's
pub upto_end : (top : ℕ) (l : List ℕ) (start end i : ℕ) → start ≤ i → i ≤ max start (min end (length l)) → min end (length l) ≤ i
    → upto top l start (i - start) ≡ upto top l start (end - start)
upto_end top l start end i h p q = by (ltb i end) refl
  where
    by : (t : Bool) → ltb i end ≡ t → upto top l start (i - start) ≡ upto top l start (end - start)
    by true e =
        let b = ltb-true i end e in
        let s : i - start + (end - i) ≡ end - start = omega arith in
        sym (upto_more top l start (i - start) (end - i) (omega arith)) ∙ ap (upto top l start) s
    by false e =
        let b = ltb-false i end e in
        let s : i - start ≡ end - start = omega arith in
        ap (upto top l start) s

-- the step of a test that looks at each number of a list, as the code takes it
abbrev pub also : ℕ → Bool → ℕ → Bool
also top ok x = ok && partial_le (λ a b. Some (nat_cmp a b)) x top

le_is : (x top : ℕ) → partial_le (λ a b. Some (nat_cmp a b)) x top ≡ leb x top
le_is x top = grind (arith, nat_tests)

-- such a test of n numbers from place start on
pub fold_upto : (top : ℕ) (l : List ℕ) (start n : ℕ) → start + n ≤ length l → fold (also top) true (take n (drop start l)) ≡ upto top l start n
unfolding upto
fold_upto top l start zero h = refl
fold_upto top l start (suc n) h =
    let lt : n < length (drop start l) = omega (arith, length-drop start l) in
    let e : suc n ≡ n + 1 = omega arith in
    ap (λ j. fold (also top) true (take j (drop start l))) e
    ∙ fold_more (also top) true (drop start l) n 0 lt
    ∙ ap (λ b. fold (also top) true (take n (drop start l)) && b) (le_is (get_or (drop start l) n 0) top ∙ ap (λ x. leb x top) (get_or-drop start l n 0))
    ∙ ap (λ b. b && leb (get_or l (start + n) 0) top) (fold_upto top l start n (omega arith))

-- of a whole list
pub fold_whole : (top : ℕ) (l : List ℕ) → fold (also top) true l ≡ upto top l 0 (length l)
fold_whole top l = ap (fold (also top) true) (sym (take_all (length l) l (omega arith))) ∙ fold_upto top l 0 (length l) (omega arith)

-- and of what a list has of a range
pub fold_range : (top : ℕ) (l : List ℕ) (start end stop : ℕ) → stop ≡ min end (length l)
    → fold (also top) true (slice_range l (min start stop) stop) ≡ upto top l start (end - start)
unfolding upto
fold_range top l start end stop s = by (leb start stop) refl
  where
    by : (t : Bool) → leb start stop ≡ t → fold (also top) true (slice_range l (min start stop) stop) ≡ upto top l start (end - start)
    by true e =
        let h = leb-true start stop e in
        let m : min start stop ≡ start = omega arith in
        rw m (fold_upto top l start (stop - start) (omega arith) ∙ upto_end top l start end stop h (omega arith) (omega arith))
    by false e =
        let h = leb-false start stop e in
        let z : stop - min start stop ≡ 0 = omega arith in
        let y : 0 ≡ start - start = omega arith in
        rw z (ap (upto top l start) y ∙ upto_end top l start end start (omega arith) (omega arith) (omega arith))

-- a byte is at most the top where it is at most the top's part of a byte
pub upto_byte : (top : ℕ) (l : List ℕ) (start n : ℕ) → ((k : ℕ) → get_or l k 0 < 256) → upto (min top 255) l start n ≡ upto top l start n
unfolding upto
upto_byte top l start zero h = refl
upto_byte top l start (suc n) h =
    let x = get_or l (start + n) 0 in
    let lt = h (start + n) in
    let e : leb x (min top 255) ≡ leb x top = grind (arith, nat_tests) in
    ap (λ b. b && leb x (min top 255)) (upto_byte top l start n h) ∙ ap (λ b. upto top l start n && b) e

-- a lent table
pub lent_is : (n top : ℕ) (l : List ℕ) → (eqb (length l) n && fold (also top) true l) ≡ lent_fits n top l
unfolding lent_fits
lent_is n top l = by (eqb (length l) n) refl
  where
    by : (t : Bool) → eqb (length l) n ≡ t → (eqb (length l) n && fold (also top) true l) ≡ (eqb (length l) n && upto top l 0 n)
    by true e = ap (λ b. eqb (length l) n && b) (fold_whole top l ∙ ap (upto top l 0) (eqb→eq (length l) n (rw e tt)))
    by false e = rw e
