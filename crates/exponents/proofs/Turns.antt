-- A group at a time the code lays what all groups at once give (`groups_on_lem`), so what it comes to is what the definition says.
-- Assumes nothing.
use Prim.Native.Nat.{ℕ, zero, suc, ◌+◌, ◌-◌, ◌*◌, ◌≤◌}
use mathlib.Core.Path.{◌≡◌, refl, sym, ◌∙◌, ap, subst}
use mathlib.Core.Bool.{Bool, true, false}
use mathlib.Core.List.{List, [], ◌∷◌, ◌++◌, append_assoc, append-nil}
use native.Mathlib.Nat.{add_assoc}
use native.Mathlib.Numerals.{add-one}
use native.Mathlib.Omega.{arith}
use lib.Dec.{ltb}
use lib.ListN.{length, length-append}
use lib.Seq.{sets}
use Rattle.refusal.specs.Refusals.{Grounds, Outcome, taken, refused, refuse_if, and_then, Ran, ends, follow, then_run}
use Rattle.refusal.proofs.Laws.{never, taken_same, past_test}
use Rattle.syntax.specs.declared.Ask.{Ask}
use Rattle.syntax.specs.Reads.{Standing, read_of}
use Rattle.exponents.specs.declared.ExpSet.{ExpSet}
use Rattle.tables.specs.Bands.{zeros}
use Rattle.exponents.specs.Set.{size_of, group_count, digits, all_digits, running, outside, spread, first_of, leading, outputs, base_of, bins_of}
use Rattle.exponents.specs.Reads.{unfit, abs_ask, group_ask, group_of, groups_of, set_of, left_of, read_exponents_of}
use Rattle.exponents.specs.Turns.{Laid, laid, last_of, begun_of, onward, unpack_on, group_on, groups_on, first_on, closed_on, finish_on}
use Rattle.exponents.proofs.Lists.{sets_append, three_length, digits_more, running_append, last_append, spread_append, outside_append}

-- groups that were taken have no result outside
module _ (frame : List ℕ) (ask : Ask) (e : ℕ) where
  group_inside : (ws : List ℕ) (st : Standing) (vs : List ℕ) → (group_of frame ask e ws st).outcome ≡ taken vs → outside e (all_digits vs) ≡ false
  unfolding group_of
  group_inside ws st vs h = go (read_of frame st ask).outcome h
    where
      go : (o : Outcome ℕ)
          → (follow o (read_of frame st ask).state (λ v st₁.
          ends st₁
          (refuse_if (ltb 124 v) 7 st₁.place.pos
          (refuse_if (outside e (all_digits (ws ++ (v ∷ [])))) 8 st₁.place.pos
          (taken (ws ++ (v ∷ []))))))).outcome ≡ taken vs
          → outside e (all_digits vs) ≡ false
      go (taken v) k =
          let s = past_test (ltb 124 v) _ _ k in
          let t = past_test (outside e (all_digits (ws ++ (v ∷ [])))) _ _ s.1 in
          subst (λ (x : List ℕ). outside e (all_digits x) ≡ false) (taken_same t.1) t.0
      go (refused g) k = never k

  pub groups_inside : (n : ℕ) (st : Standing) (vs : List ℕ) → (groups_of frame ask e n st).outcome ≡ taken vs → outside e (all_digits vs) ≡ false
  unfolding groups_of outside all_digits
  groups_inside zero st vs h = subst (λ (x : List ℕ). outside e (all_digits x) ≡ false) (taken_same h) refl
  groups_inside (suc n) st vs h = go (groups_of frame ask e n st).outcome h
    where
      go : (o : Outcome (List ℕ)) → (follow o (groups_of frame ask e n st).state (group_of frame ask e)).outcome ≡ taken vs → outside e (all_digits vs) ≡ false
      go (taken ws) k = group_inside ws _ vs k
      go (refused g) k = never k

module _ (slot g start abs : ℕ) where
  -- what is laid after the groups vs
  abbrev so_far : List ℕ → Laid
  so_far vs =
      laid (last_of (first_of slot abs) (all_digits vs)) (base_of slot start + length (outputs slot g abs vs)) (bins_of (base_of slot start) (outputs slot g abs vs))

  -- and after a reading of groups
  abbrev held : Ran Standing (List ℕ) → Ran Standing Laid
  held r = record { outcome = and_then r.outcome (λ vs. taken (so_far vs)); state = r.state }

  -- no group yet
  begun_is : begun_of slot start zeros abs ≡ so_far []
  unfolding all_digits running spread last_of
  begun_is =
      ap (λ (x : List ℕ). laid (first_of slot abs) (base_of slot start + length x) (sets zeros (base_of slot start) x)) (sym (append-nil (leading slot abs)))

  -- one group more
  outputs_more : (vs : List ℕ) (v : ℕ)
      → outputs slot g abs (vs ++ (v ∷ [])) ≡ outputs slot g abs vs ++ spread g (running (last_of (first_of slot abs) (all_digits vs)) (digits v))
  outputs_more vs v =
      let e = first_of slot abs in
      let old = all_digits vs in
      ap (λ (ds : List ℕ). leading slot abs ++ spread g (running e ds)) (digits_more vs v)
      ∙ ap (λ (rs : List ℕ). leading slot abs ++ spread g rs) (running_append e old (digits v))
      ∙ ap (λ (rs : List ℕ). leading slot abs ++ rs) (spread_append g (running e old) (running (last_of e old) (digits v)))
      ∙ sym (append_assoc (leading slot abs) (spread g (running e old)) (spread g (running (last_of e old) (digits v))))

  onward_is : (vs : List ℕ) (v : ℕ) → onward g (so_far vs) v ≡ so_far (vs ++ (v ∷ []))
  onward_is vs v =
      let e = first_of slot abs in
      let base = base_of slot start in
      let outs = outputs slot g abs vs in
      let new = spread g (running (last_of e (all_digits vs)) (digits v)) in
      let more = sym (outputs_more vs v) in
      let a : last_of (last_of e (all_digits vs)) (digits v) ≡ last_of e (all_digits (vs ++ (v ∷ [])))
      = sym (last_append e (all_digits vs) (digits v)) ∙ ap (last_of e) (sym (digits_more vs v)) in
      let n : base + length outs + 3 * g ≡ base + length (outputs slot g abs (vs ++ (v ∷ [])))
      = add_assoc base (length outs) (3 * g)
      ∙ ap (λ (k : ℕ). base + (length outs + k)) (sym (three_length g (last_of e (all_digits vs)) _ _ _))
      ∙ ap (λ (k : ℕ). base + k) (sym (length-append outs new) ∙ ap (λ (x : List ℕ). length x) more) in
      let b : sets (sets zeros base outs) (base + length outs) new ≡ sets zeros base (outputs slot g abs (vs ++ (v ∷ [])))
      = sym (sets_append outs new zeros base) ∙ ap (λ (x : List ℕ). sets zeros base x) more in
      λ i. laid (a i) (n i) (b i)

  module _ (frame : List ℕ) (ask : Ask) where
    -- one group, after groups with no result outside
    group_on_lem : (r : Ran Standing (List ℕ)) → ((vs : List ℕ) → r.outcome ≡ taken vs → outside (first_of slot abs) (all_digits vs) ≡ false)
        → group_on frame ask g (held r) ≡ held (then_run r (group_of frame ask (first_of slot abs)))
    unfolding group_on group_of unpack_on
    group_on_lem r h = go r.outcome refl
      where
        e : ℕ
        e = first_of slot abs

        pick : (vs : List ℕ) (v bit : ℕ) (s t u : Bool) → t ≡ u
            → refuse_if s 7 bit (refuse_if t 8 bit (taken (onward g (so_far vs) v)))
            ≡ and_then (refuse_if s 7 bit (refuse_if u 8 bit (taken (vs ++ (v ∷ []))))) (λ ws. taken (so_far ws))
        pick vs v bit true t u p = refl
        pick vs v bit false true true p = refl
        pick vs v bit false false false p = ap (λ (l : Laid). taken l) (onward_is vs v)
        pick vs v bit false true false p = let z : ◌≡◌ {A = ℕ} 0 1 = cc in absurd (omega arith)
        pick vs v bit false false true p = let z : ◌≡◌ {A = ℕ} 0 1 = cc in absurd (omega arith)

        read : (vs : List ℕ) → r.outcome ≡ taken vs → (o : Outcome ℕ) (st : Standing)
            → follow o st (λ v st₁.
            ends st₁
            (refuse_if (ltb 124 v) 7 st₁.place.pos
            (refuse_if (outside (last_of e (all_digits vs)) (digits v)) 8 st₁.place.pos
            (taken (onward g (so_far vs) v)))))
            ≡ held (follow o st (λ v st₁.
            ends st₁
            (refuse_if (ltb 124 v) 7 st₁.place.pos
            (refuse_if (outside e (all_digits (vs ++ (v ∷ [])))) 8 st₁.place.pos
            (taken (vs ++ (v ∷ [])))))))
        read vs k (taken v) st =
            ap {B = Ran Standing Laid} (λ (x : Outcome Laid). ends st x)
            (pick vs v st.place.pos (ltb 124 v) _ _
            (sym (outside_append e (all_digits vs) (digits v) (h vs k)) ∙ ap (outside e) (sym (digits_more vs v))))
        read vs k (refused x) st = refl

        go : (o : Outcome (List ℕ)) → r.outcome ≡ o
            → follow (and_then o (λ vs. taken (so_far vs))) r.state (λ l st. unpack_on g l (read_of frame st ask))
            ≡ held (follow o r.state (group_of frame ask e))
        go (taken vs) k = read vs k (read_of frame r.state ask).outcome (read_of frame r.state ask).state
        go (refused x) k = refl

    -- n groups
    groups_on_lem : (n : ℕ) (st : Standing) → groups_on frame ask g n (held (ends st (taken []))) ≡ held (groups_of frame ask (first_of slot abs) n st)
    unfolding groups_on groups_of
    groups_on_lem zero st = refl
    groups_on_lem (suc n) st =
        ap (group_on frame ask g) (groups_on_lem n st) ∙ group_on_lem (groups_of frame ask (first_of slot abs) n st) (groups_inside frame ask (first_of slot abs) n st)

-- what is refused stays
pub groups_stay : (frame : List ℕ) (ask : Ask) (g n : ℕ) (st : Standing) (x : Grounds) → groups_on frame ask g n (ends st (refused x)) ≡ ends st (refused x)
unfolding groups_on group_on
groups_stay frame ask g zero st x = refl
groups_stay frame ask g (suc n) st x = ap (group_on frame ask g) (groups_stay frame ask g n st x)

-- what is refused early stays to the last
pub groups_stop : (frame : List ℕ) (ask : Ask) (g i n : ℕ) (r : Ran Standing Laid) {st : Standing} {x : Grounds}
    → groups_on frame ask g i r ≡ ends st (refused x) → i ≤ n → groups_on frame ask g i r ≡ groups_on frame ask g n r
unfolding groups_on group_on
groups_stop frame ask g i n r {st} {x} e h =
    e ∙ sym (along (n - i)) ∙ ap (λ (k : ℕ). groups_on frame ask g k r) (let p : n - i + i ≡ n = omega arith in p)
  where
    along : (k : ℕ) → groups_on frame ask g (k + i) r ≡ ends st (refused x)
    along zero = ap (λ (j : ℕ). groups_on frame ask g j r) (let p : 0 + i ≡ i = omega arith in p) ∙ e
    along (suc k) =
        ap (λ (j : ℕ). groups_on frame ask g j r) (let p : suc k + i ≡ suc (k + i) = omega arith in p) ∙ ap (group_on frame ask g) (along k)

-- one turn of the loop over the groups
pub groups_again : (frame : List ℕ) (ask : Ask) (g i : ℕ) (r : Ran Standing Laid)
    → group_on frame ask g (groups_on frame ask g i r) ≡ groups_on frame ask g (i + 1) r
unfolding groups_on
groups_again frame ask g i r = rw add-one refl

-- the code's way from the absolute exponent to the set comes to what the definition says
module _ (frame : List ℕ) (st : Standing) (slot strategy start end : ℕ) (fit : unfit slot strategy start end ≡ false) where
  pub set_is : closed_on start end (groups_on frame (group_ask slot) (size_of strategy) (group_count slot (size_of strategy) start end) (first_on frame slot start zeros st))
      ≡ set_of frame st slot strategy start end
  unfolding set_of first_on closed_on
  set_is = rw fit (go (read_of frame st (abs_ask slot)).outcome (read_of frame st (abs_ask slot)).state)
    where
      g : ℕ
      g = size_of strategy

      n : ℕ
      n = group_count slot g start end

      short : ℕ → List ℕ → Standing → Ran Standing ExpSet
      short abs vs st₂ =
          ends st₂
          (refuse_if (ltb (base_of slot start + length (outputs slot g abs vs)) end) 9 st₂.place.pos
          (taken (record { exp = bins_of (base_of slot start) (outputs slot g abs vs); start = start; end = end })))

      last : (abs : ℕ) (o : Outcome (List ℕ)) (s : Standing) → closed_on start end (held slot g start abs (ends s o)) ≡ follow o s (short abs)
      last abs (taken vs) s = refl
      last abs (refused x) s = refl

      go : (o : Outcome ℕ) (s : Standing)
          → closed_on start end (groups_on frame (group_ask slot) g n (follow o s (λ abs st₁. ends st₁ (taken (begun_of slot start zeros abs)))))
          ≡ follow o s (λ abs st₁. then_run (groups_of frame (group_ask slot) (first_of slot abs) n st₁) (short abs))
      go (taken abs) s =
          ap (λ (l : Laid). closed_on start end (groups_on frame (group_ask slot) g n (ends s (taken l)))) (begun_is slot g start abs)
          ∙ ap (closed_on start end) (groups_on_lem slot g start abs frame (group_ask slot) n s)
          ∙ last abs (groups_of frame (group_ask slot) (first_of slot abs) n s).outcome (groups_of frame (group_ask slot) (first_of slot abs) n s).state
      go (refused x) s = ap (closed_on start end) (groups_stay frame (group_ask slot) g n s x)

  pub way_is : finish_on start end (groups_on frame (group_ask slot) (size_of strategy) (group_count slot (size_of strategy) start end) (first_on frame slot start zeros st))
      ≡ read_exponents_of frame st slot strategy start end
  unfolding finish_on
  way_is = ap left_of set_is
