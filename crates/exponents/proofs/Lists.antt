-- Laws of the lists by which a set is defined: what the digits of more groups append, and stores one after another.
-- Assumes nothing.
use Prim.Native.Nat.{ℕ, suc, ◌+◌, ◌-◌, ◌*◌, ◌≤◌}
use mathlib.Core.Path.{◌≡◌, refl, sym, ◌∙◌, ap}
use mathlib.Core.Bool.{false}
use mathlib.Core.List.{List, [], ◌∷◌, ◌++◌, append_assoc, append-nil}
use native.Mathlib.Omega.{arith}
use lib.Dec.{ltb}
use lib.ListN.{length, set, replicate, length-replicate, length-append, replicate-append-replicate}
use lib.Seq.{sets}
use borrow.Author.Tests.{ltb-false}
use Rattle.refusal.proofs.TestLaws.{or_false}
use Rattle.exponents.specs.Set.{digits, all_digits, running, off_scale, outside, spread}
use Rattle.exponents.specs.Turns.{last_of}

-- stores
pub sets_append : (xs ys : List ℕ) (l : List ℕ) (i : ℕ) → sets l i (xs ++ ys) ≡ sets (sets l i xs) (i + length xs) ys
sets_append [] ys l i = ap (λ (k : ℕ). sets l k ys) (let e : i ≡ i + 0 = omega arith in e)
sets_append (x ∷ xs) ys l i =
    sets_append xs ys (set l i x) (suc i)
    ∙ ap (λ (k : ℕ). sets (sets (set l i x) (suc i) xs) k ys) (let e : suc i + length xs ≡ i + suc (length xs) = omega arith in e)

-- one bin more
pub run_again : (l : List ℕ) (at i e : ℕ) → set (sets l at (replicate i e)) (at + i) e ≡ sets l at (replicate (i + 1) e)
run_again l at i e =
    ap (λ (k : ℕ). set (sets l at (replicate i e)) (at + k) e) (sym (length-replicate i e))
    ∙ sym (sets_append (replicate i e) (e ∷ []) l at)
    ∙ ap (λ (x : List ℕ). sets l at x) (replicate-append-replicate i 1 e)

-- three runs
pub three_runs : (l : List ℕ) (at g a b c : ℕ)
    → sets (sets (sets l at (replicate g a)) (at + g) (replicate g b)) (at + 2 * g) (replicate g c) ≡ sets l at (spread g (a ∷ b ∷ c ∷ []))
unfolding spread
three_runs l at g a b c =
    let x = replicate g a in
    let y = replicate g b in
    let z = replicate g c in
    let n : length (x ++ y) ≡ 2 * g = length-append x y ∙ (λ i. length-replicate g a i + length-replicate g b i) ∙ (let e : g + g ≡ 2 * g = omega arith in e) in
    (λ i. sets (sets (sets l at x) (at + sym (length-replicate g a) i) y) (at + sym n i) z)
    ∙ ap (λ (k : List ℕ). sets k (at + length (x ++ y)) z) (sym (sets_append x y l at))
    ∙ sym (sets_append (x ++ y) z l at)
    ∙ ap (λ (k : List ℕ). sets l at k) (append_assoc x y z ∙ ap (λ (k : List ℕ). x ++ (y ++ k)) (sym (append-nil z)))

-- three results stand in 3 g bins
pub three_length : (g e a b c : ℕ) → length (spread g (running e (a ∷ b ∷ c ∷ []))) ≡ 3 * g
unfolding spread running
three_length g e a b c =
    let x = replicate g (e + a - 2) in
    let y = replicate g (e + a - 2 + b - 2) in
    let z = replicate g (e + a - 2 + b - 2 + c - 2) in
    length-append x (y ++ (z ++ []))
    ∙ ap (λ (k : ℕ). length x + k) (length-append y (z ++ []) ∙ ap (λ (k : ℕ). length y + k) (length-append z []))
    ∙ (λ i. length-replicate g (e + a - 2) i + (length-replicate g (e + a - 2 + b - 2) i + (length-replicate g (e + a - 2 + b - 2 + c - 2) i + 0)))
    ∙ (let s : g + (g + (g + 0)) ≡ 3 * g = omega arith in s)

-- digits after others
pub digits_more : (vs : List ℕ) (v : ℕ) → all_digits (vs ++ (v ∷ [])) ≡ all_digits vs ++ digits v
unfolding all_digits
digits_more [] v = refl
digits_more (w ∷ vs) v = ap (λ (r : List ℕ). digits w ++ r) (digits_more vs v) ∙ sym (append_assoc (digits w) (all_digits vs) (digits v))

pub running_append : (e : ℕ) (xs ys : List ℕ) → running e (xs ++ ys) ≡ running e xs ++ running (last_of e xs) ys
unfolding running last_of
running_append e [] ys = refl
running_append e (x ∷ xs) ys = ap {B = List ℕ} (λ r. (e + x - 2) ∷ r) (running_append (e + x - 2) xs ys)

pub last_append : (e : ℕ) (xs ys : List ℕ) → last_of e (xs ++ ys) ≡ last_of (last_of e xs) ys
unfolding last_of
last_append e [] ys = refl
last_append e (x ∷ xs) ys = last_append (e + x - 2) xs ys

pub spread_append : (g : ℕ) (xs ys : List ℕ) → spread g (xs ++ ys) ≡ spread g xs ++ spread g ys
unfolding spread
spread_append g [] ys = refl
spread_append g (x ∷ xs) ys =
    ap (λ (r : List ℕ). replicate g x ++ r) (spread_append g xs ys) ∙ sym (append_assoc (replicate g x) (spread g xs) (spread g ys))

pub outside_append : (e : ℕ) (xs ys : List ℕ) → outside e xs ≡ false → outside e (xs ++ ys) ≡ outside (last_of e xs) ys
unfolding outside last_of
outside_append e [] ys h = refl
outside_append e (x ∷ xs) ys h =
    let t = or_false (off_scale (e + x)) (outside (e + x - 2) xs) h in
    rw t.0 (outside_append (e + x - 2) xs ys t.1)

-- what a sum on the scale is
pub on_scale : (sum : ℕ) → off_scale sum ≡ false → (2 ≤ sum) × (sum - 2 ≤ 24)
on_scale sum h = let t = or_false (ltb sum 2) (ltb 24 (sum - 2)) h in (ltb-false sum 2 t.0, ltb-false 24 (sum - 2) t.1)

-- what the sums of a group that is not outside are
pub three_on_scale : (e a b c : ℕ) → outside e (a ∷ b ∷ c ∷ []) ≡ false
    → ((2 ≤ e + a) × (e + a ≤ 26)) × ((2 ≤ e + a - 2 + b) × (e + a - 2 + b ≤ 26)) × ((2 ≤ e + a - 2 + b - 2 + c) × (e + a - 2 + b - 2 + c ≤ 26))
unfolding outside
three_on_scale e a b c h =
    let s = or_false (off_scale (e + a)) _ h in
    let t = or_false (off_scale (e + a - 2 + b)) _ s.1 in
    let u = or_false (off_scale (e + a - 2 + b - 2 + c)) false t.1 in
    let x = on_scale (e + a) s.0 in
    let y = on_scale (e + a - 2 + b) t.0 in
    let z = on_scale (e + a - 2 + b - 2 + c) u.0 in
    ((x.0, omega (arith, x.0, x.1)), (y.0, omega (arith, y.0, y.1)), (z.0, omega (arith, z.0, z.1)))
