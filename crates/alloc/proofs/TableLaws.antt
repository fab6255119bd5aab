-- An array that a loop fills is a table before and after each turn.
-- Assumes nothing.
use Prim.Native.Nat.{ℕ, ◌<◌, ◌≤◌, ◌+◌, min, suc, zero}
use mathlib.Core.Path.{◌≡◌, subst, sym, ap, ◌∙◌, refl}
use mathlib.Core.List.{List}
use native.Mathlib.Omega.{arith}
use lib.ListN.{get_or, length, set, replicate, length-set, length-replicate, get_or-replicate, get_or-eq_default}
use lib.IntN.{ℤ, pos}
use borrow.Author.Tests.{lt-ltb, le-ltb, ltb-true, le-leb, lt-leb, ltb-false, leb-true, leb-false}
use mathlib.Core.Bool.{Bool, true, false, ◌&&◌, cond}
use lib.Dec.{ltb, leb}
use native.Mathlib.Nat.{le_of_suc-le-suc}
use mathlib.Core.Logic.{◌≢◌}
use native.Mathlib.Decide.{ℕ_discrete}
use lib.Seq.{ext_get_or, get_or-set_same, get_or-set_other}
use Rattle.tables.specs.Numbers.{Within, Each}
use Rattle.alloc.specs.Table.{from, table, inside, blend}

clip_low : (n a k : ℕ) → k < n → (t : Bool) → leb a k ≡ t → leb (min a n) k ≡ t
clip_low n a k p true e = le-leb (min a n) k (omega (arith, leb-true a k e))
clip_low n a k p false e = lt-leb (min a n) k (omega (arith, leb-false a k e))

clip_high : (n b k : ℕ) → k < n → (t : Bool) → leb (suc k) b ≡ t → leb (suc k) (min b n) ≡ t
clip_high n b k p true e = le-leb (suc k) (min b n) (omega (arith, leb-true (suc k) b e))
clip_high n b k p false e = lt-leb (suc k) (min b n) (omega (arith, leb-false (suc k) b e))

module _ {X : Type 0} where
  length_from : (i n : ℕ) (f : ℕ → X) → length (from i n f) ≡ n
  unfolding from
  length_from i zero f = refl
  length_from i (suc n) f = ap suc (length_from (suc i) n f)

  pub length_table : (n : ℕ) (f : ℕ → X) → length (table n f) ≡ n
  length_table n f = length_from 0 n f

  get_d_from : (i n : ℕ) (f : ℕ → X) (k : ℕ) (d : X) → k < n → get_or (from i n f) k d ≡ f (i + k)
  unfolding from
  get_d_from i zero f k d h = absurd (omega arith)
  get_d_from i (suc n) f zero d h = ap f (omega arith)
  get_d_from i (suc n) f (suc k) d h = get_d_from (suc i) n f k d (le_of_suc-le-suc h) ∙ ap f (omega arith)

  pub get_d_table : (n : ℕ) (f : ℕ → X) (k : ℕ) (d : X) → k < n → get_or (table n f) k d ≡ f k
  get_d_table n f k d h = get_d_from 0 n f k d h ∙ ap f (omega arith)

  pub table_ext : (n : ℕ) (f g : ℕ → X) → X → ((k : ℕ) → k < n → f k ≡ g k) → table n f ≡ table n g
  table_ext n f g d h = ext_get_or d (table n f) (table n g) (length_table n f ∙ sym (length_table n g))
      (λ k p. let q : k < n = omega (arith, length_table n f) in get_d_table n f k d q ∙ h k q ∙ sym (get_d_table n g k d q))

  -- a store at place i makes the table of f that of g, where f and g differ at i at most
  pub set_table : (n : ℕ) (f g : ℕ → X) (i : ℕ) (v : X) → v ≡ g i → ((k : ℕ) → k < n → k ≢ i → f k ≡ g k) → set (table n f) i v ≡ table n g
  set_table n f g i v e h =
      ext_get_or v (set (table n f) i v) (table n g) (length-set (table n f) i v ∙ length_table n f ∙ sym (length_table n g))
      (λ k p. let q : k < n = omega (arith, length-set (table n f) i v, length_table n f) in at k q (ℕ_discrete k i) ∙ sym (get_d_table n g k v q))
    where
      at : (k : ℕ) → k < n → Dec (k ≡ i) → get_or (set (table n f) i v) k v ≡ g k
      at k q (yes p) =
          subst (λ (j : ℕ). get_or (set (table n f) i v) j v ≡ g j) (sym p) (get_or-set_same (table n f) i v v (omega (arith, length_table n f)) ∙ e)
      at k q (no p) = get_or-set_other (table n f) i k v v p ∙ get_d_table n f k v q ∙ h k q p

  pub inside_in : (start end : ℕ) (z : X) (f : ℕ → X) (k : ℕ) → start ≤ k → k < end → inside start end z f k ≡ f k
  unfolding inside
  inside_in start end z f k h p = rw (le-leb start k h, lt-ltb k end p)

  pub inside_before : (start end : ℕ) (z : X) (f : ℕ → X) (k : ℕ) → k < start → inside start end z f k ≡ z
  unfolding inside
  inside_before start end z f k h = rw (lt-leb start k h)

  pub inside_after : (start end : ℕ) (z : X) (f : ℕ → X) (k : ℕ) → end ≤ k → inside start end z f k ≡ z
  unfolding inside
  inside_after start end z f k h = both (leb start k)
    where
      both : (b : Bool) → cond (b && ltb k end) (f k) z ≡ z
      both true = rw (le-ltb k end h)
      both false = refl

  -- one more place
  pub inside_suc : (start i : ℕ) (z : X) (f : ℕ → X) (k : ℕ) → k ≢ i → inside start i z f k ≡ inside start (i + 1) z f k
  unfolding inside
  inside_suc start i z f k n = rw (cmp (leb (suc k) i) refl)
    where
      cmp : (b : Bool) → leb (suc k) i ≡ b → ltb k i ≡ ltb k (i + 1)
      cmp true t = t ∙ sym (lt-ltb k (i + 1) (omega (arith, leb-true (suc k) i t)))
      cmp false t = t ∙ sym (le-ltb k (i + 1) (omega (arith, n, leb-false (suc k) i t)))

  -- a loop that fills [start, end): a turn, and the start
  pub fill_turn : (n start i : ℕ) (z : X) (f : ℕ → X) (v : X) → start ≤ i → v ≡ f i → set (table n (inside start i z f)) i v ≡ table n (inside start (i + 1) z f)
  fill_turn n start i z f v h e =
      set_table n (inside start i z f) (inside start (i + 1) z f) i v (e ∙ sym (inside_in start (i + 1) z f i h (omega arith))) (λ k p q. inside_suc start i z f k q)

  pub fill_start : (n start : ℕ) (z : X) (f : ℕ → X) → replicate n z ≡ table n (inside start start z f)
  fill_start n start z f = ext_get_or z (replicate n z) (table n (inside start start z f)) (length-replicate n z ∙ sym (length_table n (inside start start z f)))
      (λ k p. let q : k < n = omega (arith, length-replicate n z) in get_or-replicate n k z z q ∙ sym (get_d_table n (inside start start z f) k z q ∙ none k (leb start k) refl))
    where
      none : (k : ℕ) (b : Bool) → leb start k ≡ b → inside start start z f k ≡ z
      none k true t = inside_after start start z f k (leb-true start k t)
      none k false t = inside_before start start z f k (leb-false start k t)

  pub blend_in : (start end : ℕ) (f g : ℕ → X) (k : ℕ) → start ≤ k → k < end → blend start end f g k ≡ f k
  unfolding blend
  blend_in start end f g k h p = rw (le-leb start k h, lt-ltb k end p)

  pub blend_after : (start end : ℕ) (f g : ℕ → X) (k : ℕ) → end ≤ k → blend start end f g k ≡ g k
  unfolding blend
  blend_after start end f g k h = both (leb start k)
    where
      both : (b : Bool) → cond (b && ltb k end) (f k) (g k) ≡ g k
      both true = rw (le-ltb k end h)
      both false = refl

  pub blend_none : (start : ℕ) (f g : ℕ → X) (k : ℕ) → blend start start f g k ≡ g k
  unfolding blend
  blend_none start f g k = none (leb start k) refl
    where
      none : (b : Bool) → leb start k ≡ b → cond (b && ltb k start) (f k) (g k) ≡ g k
      none true t = rw (le-ltb k start (leb-true start k t))
      none false t = refl

  pub blend_suc : (start i : ℕ) (f g : ℕ → X) (k : ℕ) → k ≢ i → blend start i f g k ≡ blend start (i + 1) f g k
  unfolding blend
  blend_suc start i f g k n = rw (cmp (leb (suc k) i) refl)
    where
      cmp : (b : Bool) → leb (suc k) i ≡ b → ltb k i ≡ ltb k (i + 1)
      cmp true t = t ∙ sym (lt-ltb k (i + 1) (omega (arith, leb-true (suc k) i t)))
      cmp false t = t ∙ sym (le-ltb k (i + 1) (omega (arith, n, leb-false (suc k) i t)))

  pub blend_turn : (n start i : ℕ) (f g : ℕ → X) (v : X) → start ≤ i → v ≡ f i → set (table n (blend start i f g)) i v ≡ table n (blend start (i + 1) f g)
  blend_turn n start i f g v h e =
      set_table n (blend start i f g) (blend start (i + 1) f g) i v (e ∙ sym (blend_in start (i + 1) f g i h (omega arith))) (λ k p q. blend_suc start i f g k q)

  pub blend_before : (start end : ℕ) (f g : ℕ → X) (k : ℕ) → k < start → blend start end f g k ≡ g k
  unfolding blend
  blend_before start end f g k h = rw (lt-leb start k h)

  -- what is filled from lo to hi goes on from what is filled up to lo
  pub blend_inside : (n start lo hi : ℕ) (z : X) (f g : ℕ → X) → start ≤ lo → lo ≤ hi → ((j : ℕ) → lo ≤ j → j < hi → f j ≡ g j)
      → table n (blend lo hi f (λ j. get_or (table n (inside start lo z g)) j z)) ≡ table n (inside start hi z g)
  blend_inside n start lo hi z f g p q h = table_ext n (blend lo hi f old) (inside start hi z g) z (λ j l. at j l (leb lo j) (ltb j hi) refl refl)
    where
      old : ℕ → X
      old j = get_or (table n (inside start lo z g)) j z

      early : (j : ℕ) → j < lo → (t : Bool) → leb start j ≡ t → inside start lo z g j ≡ inside start hi z g j
      early j l true e =
          let s = leb-true start j e in
          inside_in start lo z g j s l ∙ sym (inside_in start hi z g j s (omega arith))
      early j l false e =
          let s = leb-false start j e in
          inside_before start lo z g j s ∙ sym (inside_before start hi z g j s)

      at : (j : ℕ) → j < n → (a b : Bool) → leb lo j ≡ a → ltb j hi ≡ b → blend lo hi f old j ≡ inside start hi z g j
      at j l true true s t =
          let u = leb-true lo j s in
          let v = ltb-true j hi t in
          blend_in lo hi f old j u v ∙ h j u v ∙ sym (inside_in start hi z g j (omega arith) v)
      at j l true false s t =
          let u = leb-true lo j s in
          let v = ltb-false j hi t in
          blend_after lo hi f old j v ∙ get_d_table n (inside start lo z g) j z l ∙ inside_after start lo z g j u ∙ sym (inside_after start hi z g j v)
      at j l false b s t =
          let u = leb-false lo j s in
          blend_before lo hi f old j u ∙ get_d_table n (inside start lo z g) j z l ∙ early j u (leb start j) refl

  -- a list is the table of its own places
  pub table_of : (n start : ℕ) (f : ℕ → X) (l : List X) (d : X) → length l ≡ n → l ≡ table n (blend start start f (λ k. get_or l k d))
  table_of n start f l d e = ext_get_or d l (table n (blend start start f (λ k. get_or l k d))) (e ∙ sym (length_table n (blend start start f (λ k. get_or l k d))))
      (λ k p. sym (get_d_table n (blend start start f (λ k. get_or l k d)) k d (omega arith) ∙ blend_none start f (λ k. get_or l k d) k))

  -- places past the table's end do not count
  pub blend_clip : (n a b : ℕ) (f g : ℕ → X) → X → table n (blend (min a n) (min b n) f g) ≡ table n (blend a b f g)
  unfolding blend
  blend_clip n a b f g d = table_ext n (blend (min a n) (min b n) f g) (blend a b f g) d
      (λ k p. rw (clip_low n a k p (leb a k) refl, clip_high n b k p (leb (suc k) b) refl))

-- a table's numbers are within a range where the function's are
pub table_each : (lo hi n : ℕ) (f : ℕ → ℤ) → ((k : ℕ) → Within lo hi (f k)) → Each lo hi (table n f)
table_each lo hi n f h = record { at = λ k. by k (leb (suc k) n) refl }
  where
    by : (k : ℕ) (t : Bool) → leb (suc k) n ≡ t → Within lo hi (get_or (table n f) k (pos 0))
    by k true e = subst (Within lo hi) (sym (get_d_table n f k (pos 0) (ltb-true k n e))) (h k)
    by k false e =
        let l = ltb-false k n e in
        subst (Within lo hi) (sym (get_or-eq_default (table n f) (pos 0) (omega (arith, length_table n f))))
        (record { low = omega arith; high = omega arith })

pub inside_within : (lo hi start end : ℕ) (f : ℕ → ℤ) → ((k : ℕ) → start ≤ k → k < end → Within lo hi (f k)) → (k : ℕ)
    → Within lo hi (inside start end (pos 0) f k)
unfolding inside
inside_within lo hi start end f h k = by (leb start k) (leb (suc k) end) refl refl
  where
    by : (a b : Bool) → leb start k ≡ a → leb (suc k) end ≡ b → Within lo hi (cond (a && b) (f k) (pos 0))
    by true true p q = h k (leb-true start k p) (ltb-true k end q)
    by true false p q = record { low = omega arith; high = omega arith }
    by false b p q = record { low = omega arith; high = omega arith }
