-- The elimination finds the number that a linear map takes to a target: what a reduction keeps on its way down, and why each column
-- fills a place that was empty, so that in the end none is.
-- Assumes nothing.
use mathlib.Core.Path.{◌≡◌, refl, sym, ap, ap₂, ◌∙◌, subst}
use mathlib.Core.Logic.{inl, inr, ⊎_elim, ◌≢◌}
use mathlib.Core.List.{List, [], ◌∷◌}
use Prim.Native.Nat.{ℕ, zero, suc, ◌+◌, ◌*◌, ◌/◌, ◌%◌, ◌^◌, ◌<◌, ◌≤◌}
use native.Mathlib.Nat.{mod-lt, not-suc-le-zero, pow-suc, one-mul, mod-eq_of_lt, mod_self, zero-mod, mul_comm, le_of_suc-le-suc, div-lt_iff_lt-mul, le-div_iff_mul-le, zero-mul, zero-add, suc-ne-zero, suc_inj, lt_irrefl, lt-suc_self}
use native.Mathlib.Numerals.{one-add}
use native.Mathlib.Omega.{arith}
use lib.Arith.{lt-one}
use lib.Pow.{pow_pos, pow-lt, split, mod-mod-pow}
use lib.ListN.{length, get_or, set, length-set, length-map, replicate, get_or-replicate}
use Rattle.std.proofs.lemmas.List.{map-set}
use lib.Seq.{get_or-set_same, get_or-set_other}
use lib.Bits.{bit_xor, xor_lt, xor_shr, xor_mod, xor_self, xor_zero_r}
use Rattle.crc.proofs.Xor.{xor_pairs, xor_zero_eq}
use Rattle.repair.specs.declared.Made.{Made}
use Rattle.repair.specs.declared.Reduced.{Reduced}
use Rattle.repair.specs.Basis.{Linear, Columns, Held, none, vals, Places, empties, Filled, Reduces}
use Rattle.repair.proofs.Cases.{equal_or_not}

-- two numbers that lead with bit i add up to one below it
top_one : (i a : ℕ) → 2 ^ i ≤ a → a < 2 ^ suc i → a / 2 ^ i ≡ 1
top_one i a h k =
    let l : 1 ≤ a / 2 ^ i = (le-div_iff_mul-le (pow_pos i)).1 (rw one-mul h) in
    let u : a / 2 ^ i < 2 = (div-lt_iff_lt-mul (pow_pos i)).1 (rw (mul_comm 2 (2 ^ i), ← pow-suc 2 i) k) in
    omega arith

no_high : (n k : ℕ) → n / 2 ^ k ≡ 0 → n < 2 ^ k
no_high n k e =
    let s : n % 2 ^ k ≡ n = sym (zero-add (n % 2 ^ k)) ∙ ap (λ (x : ℕ). x + n % 2 ^ k) (sym (zero-mul (2 ^ k)) ∙ ap (λ (x : ℕ). x * 2 ^ k) (sym e)) ∙ split n k in
    subst (λ (x : ℕ). x < 2 ^ k) s (mod-lt n (pow_pos k))

xor_top : (i a b : ℕ) → 2 ^ i ≤ a → a < 2 ^ suc i → 2 ^ i ≤ b → b < 2 ^ suc i → bit_xor a b < 2 ^ i
xor_top i a b ha ka hb kb = no_high (bit_xor a b) i (xor_shr a b i ∙ ap₂ bit_xor (top_one i a ha ka) (top_one i b hb kb))

-- a number and its units
abbrev made : ℕ → ℕ → Made
made v x = record { val = v; comb = x }

-- a reduction of v with the units x that has come down to bit i
pub record Falling (L : ℕ → ℕ) (m v x i left comb : ℕ) : Type 0 where
  pub keeps : bit_xor left (L comb) ≡ bit_xor v (L x)
  pub below : left < 2 ^ i
  pub units : comb % 2 ^ m ≡ x % 2 ^ m
  pub small : comb < 2 ^ 16

module _ (L : ℕ → ℕ) (m v x : ℕ) where
  pub fall_end : (basis : List Made) (i left comb : ℕ) → i ≤ 0 → Falling L m v x i left comb
      → Reduces L m basis (made v x) (record { left = made left comb; at = 0 })
  fall_end basis zero left comb h f = record { keeps = f.keeps; stops = inl (lt-one f.below); units = f.units; small = f.small }
  fall_end basis (suc i) left comb h f = absurd (not-suc-le-zero h)

  -- one place, whose unit is p
  module _ (i at p left comb : ℕ) (e : i ≡ suc at) (ep : p ≡ 2 ^ at) (f : Falling L m v x i left comb) where
    below_next : left < 2 ^ suc at
    below_next = subst (λ (k : ℕ). left < 2 ^ k) e f.below

    -- the number does not lead with its bit
    pub fall_pass : left < p → Falling L m v x at left comb
    fall_pass h = record { keeps = f.keeps; below = subst (λ (k : ℕ). left < k) ep h; units = f.units; small = f.small }

    -- it leads with its bit, and the place is empty
    pub fall_stop : (basis : List Made) → p ≤ left → (get_or basis at none).val ≡ 0 → Reduces L m basis (made v x) (record { left = made left comb; at = at })
    fall_stop basis h z = record { keeps = f.keeps; stops = inr (z, subst (λ (k : ℕ). k ≤ left) ep h, below_next); units = f.units; small = f.small }

    -- it leads with its bit, which what the place holds clears
    pub fall_take : (basis : List Made) → Linear L → Places L m basis → at < 16 → p ≤ left → (get_or basis at none).val ≢ 0
        → Falling L m v x at (bit_xor left (get_or basis at none).val) (bit_xor comb (get_or basis at none).comb)
    fall_take basis lin held h k z =
        let a = (get_or basis at none).val in
        let b = (get_or basis at none).comb in
        let o = held at h in
        record {
          keeps = ap (bit_xor (bit_xor left a)) (lin.sums comb b ∙ ap (bit_xor (L comb)) (sym o.image)) ∙ xor_pairs left a (L comb) a
              ∙ ap (bit_xor (bit_xor left (L comb))) (xor_self a) ∙ xor_zero_r (bit_xor left (L comb)) ∙ f.keeps;
          below = xor_top at left a (subst (λ (n : ℕ). n ≤ left) ep k) below_next (o.leads z).0 (o.leads z).1;
          units = xor_mod comb b m ∙ ap (bit_xor (comb % 2 ^ m)) o.units ∙ xor_zero_r (comb % 2 ^ m) ∙ f.units;
          small = xor_lt 16 comb b f.small o.small;
        }

-- a place that is filled is empty no more
empties_set : (vs : List ℕ) (i v : ℕ) → i < length vs → get_or vs i 0 ≡ 0 → v ≢ 0 → suc (empties (set vs i v)) ≡ empties vs
empties_set [] i v h z n = absurd (not-suc-le-zero h)
empties_set (zero ∷ vs) zero zero h z n = absurd (n refl)
empties_set (zero ∷ vs) zero (suc v) h z n = refl
empties_set (suc w ∷ vs) zero v h z n = absurd (suc-ne-zero w z)
empties_set (zero ∷ vs) (suc i) v h z n = ap suc (empties_set vs i v (le_of_suc-le-suc h) z n)
empties_set (suc w ∷ vs) (suc i) v h z n = empties_set vs i v (le_of_suc-le-suc h) z n

-- where none is empty, no place holds 0
empties_none : (vs : List ℕ) (i : ℕ) → empties vs ≡ 0 → i < length vs → get_or vs i 0 ≢ 0
empties_none [] i e h z = not-suc-le-zero h
empties_none (zero ∷ vs) i e h z = suc-ne-zero (empties vs) e
empties_none (suc w ∷ vs) zero e h z = suc-ne-zero w z
empties_none (suc w ∷ vs) (suc i) e h z = empties_none vs i e (le_of_suc-le-suc h) z

-- what holds of units with none below 2 ^ (m + 1) holds with none below 2 ^ m
below_more : (x m : ℕ) → x % 2 ^ suc m % 2 ^ m ≡ x % 2 ^ m
below_more x m = ap (λ (k : ℕ). x % 2 ^ k % 2 ^ m) (sym (one-add m)) ∙ mod-mod-pow x 1 m

held_less : (L : ℕ → ℕ) (m i v x : ℕ) → Held L (suc m) i v x → Held L m i v x
held_less L m i v x h =
    record {
      image = h.image;
      leads = h.leads;
      units = sym (below_more x m) ∙ ap (λ (k : ℕ). k % 2 ^ m) h.units ∙ zero-mod (2 ^ m);
      small = h.small;
    }

-- a property of each place, after a store at one
stored : (P : ℕ → Made → Type 0) (basis : List Made) (at : ℕ) (v : Made) → length basis ≡ 16 → at < 16 → P at v
    → ((i : ℕ) → i < 16 → P i (get_or basis i none)) → (i : ℕ) → i < 16 → P i (get_or (set basis at v) i none)
stored P basis at v hl h p q i k =
    let l : at < length basis = omega arith in
    equal_or_not (P i (get_or (set basis at v) i none)) i at
    (λ e. rw (e, get_or-set_same basis at v none) p)
    (λ n. rw (get_or-set_other basis at i v none n) (q i k))

-- what the places hold, by the numbers alone
val_at : (basis : List Made) (i : ℕ) → get_or (vals basis) i 0 ≡ (get_or basis i none).val
val_at [] i = refl
val_at (p ∷ basis) zero = refl
val_at (p ∷ basis) (suc i) = val_at basis i

-- the new unit is in what was reduced, and nothing below it
new_units : (x m : ℕ) → x % 2 ^ suc m ≡ 2 ^ m % 2 ^ suc m → x % 2 ^ m ≡ 0
new_units x m e = sym (below_more x m) ∙ ap (λ (k : ℕ). k % 2 ^ m) e ∙ below_more (2 ^ m) m ∙ mod_self (2 ^ m)

new_nonzero : (x m : ℕ) → x % 2 ^ suc m ≡ 2 ^ m % 2 ^ suc m → x ≢ 0
new_nonzero x m e z =
    let p : 2 ^ m ≡ 0 = sym (mod-eq_of_lt (pow-lt (lt-suc_self m))) ∙ sym e ∙ ap (λ (k : ℕ). k % 2 ^ suc m) z ∙ zero-mod (2 ^ suc m) in
    lt_irrefl 0 (subst (λ (k : ℕ). 0 < k) p (pow_pos m))

module _ (L : ℕ → ℕ) (lin : Linear L) where
  image_zero : L 0 ≡ 0
  image_zero = lin.sums 0 0 ∙ xor_self (L 0)

  -- before the first column every place is empty
  pub filled_none : Filled L 16 (replicate 16 none)
  filled_none =
      record {
        places_length = refl;
        places = λ i h. subst (λ (p : Made). Held L 16 i p.val p.comb) (sym (get_or-replicate 16 i none none h)) (record { image = sym image_zero; leads = λ n. absurd (n refl); units = refl; small = pow_pos 16 });
        empty = refl;
      }

  -- the column of unit 2 ^ m, reduced, has something left, since the unit itself is in it: it fills the place where it stopped
  module _ (m : ℕ) (basis : List Made) (u column : ℕ) (eu : u ≡ 2 ^ m) (ec : column ≡ L u) (b : Filled L (suc m) basis)
      (r : Reduced) (h : r.at < 16) (f : Reduces L (suc m) basis (made column u) r) where
    image : r.left.val ≡ L r.left.comb
    image = xor_zero_eq r.left.val (L r.left.comb) (f.keeps ∙ ap (λ (k : ℕ). bit_xor k (L u)) ec ∙ xor_self (L u))

    with_unit : r.left.comb % 2 ^ suc m ≡ 2 ^ m % 2 ^ suc m
    with_unit = f.units ∙ ap (λ (k : ℕ). k % 2 ^ suc m) eu

    some : r.left.val ≢ 0
    some z = new_nonzero r.left.comb m with_unit (lin.kernel r.left.comb f.small (sym image ∙ z))

    stopped : ((get_or basis r.at none).val ≡ 0) × (2 ^ r.at ≤ r.left.val) × (r.left.val < 2 ^ suc r.at)
    stopped = ⊎_elim (λ z. absurd (some z)) (λ w. w) f.stops

    new : Held L m r.at r.left.val r.left.comb
    new = record { image = image; leads = λ n. (stopped.1, stopped.2); units = new_units r.left.comb m with_unit; small = f.small }

    filled_one : suc (empties (vals (set basis r.at r.left))) ≡ empties (vals basis)
    filled_one =
        let l : r.at < length (vals basis) = rw length-map (subst (λ (k : ℕ). r.at < k) (sym b.places_length) h) in
        ap (λ vs. suc (empties vs)) (map-set (λ (p : Made). p.val) basis r.at r.left)
        ∙ empties_set (vals basis) r.at r.left.val l (val_at basis r.at ∙ stopped.0) some

    pub filled_more : Filled L m (set basis r.at r.left)
    filled_more =
        record {
          places_length = length-set basis r.at r.left ∙ b.places_length;
          places = stored (λ i p. Held L m i p.val p.comb) basis r.at r.left b.places_length h new (λ i k. held_less L m i (get_or basis i none).val (get_or basis i none).comb (b.places i k));
          empty = suc_inj (filled_one ∙ b.empty);
        }

  -- with no place empty, a reduction leaves nothing of any target
  pub solved : (m : ℕ) (basis : List Made) (t : ℕ) (r : Reduced) → m ≤ 0 → Filled L m basis → r.at < 16 → Reduces L m basis (made t 0) r → L r.left.comb ≡ t
  solved m basis t r z b h f =
      let p : m ≡ 0 = omega arith in
      let l : r.at < length (vals basis) = rw length-map (subst (λ (n : ℕ). r.at < n) (sym b.places_length) h) in
      ⊎_elim (λ l. ap (λ (n : ℕ). bit_xor n (L r.left.comb)) (sym l) ∙ f.keeps ∙ ap (bit_xor t) image_zero ∙ xor_zero_r t)
      (λ w. absurd (empties_none (vals basis) r.at (b.empty ∙ p) l (val_at basis r.at ∙ w.0)))
      f.stops

  -- one turn of the loop over the columns, which goes down from m to m - 1
  pub column_of : (cols : List ℕ) → Columns L cols → (i u : ℕ) → i < 16 → u ≡ 2 ^ i → get_or cols i 0 ≡ L u
  column_of cols c i u h e = c i h ∙ ap L (sym e)
