-- What setting the checksums does to the CRC, and that the code's sums are those of the definition.
-- Assumes nothing.
use mathlib.Core.Path.{◌≡◌, refl, sym, ap, ap₂, ◌∙◌}
use mathlib.Core.Bool.{Bool, true, false, cond}
use mathlib.Core.Logic.{◌≢◌}
use mathlib.Core.List.{List, [], ◌∷◌, ◌++◌}
use Prim.Native.Nat.{ℕ, ◌+◌, ◌-◌, ◌<◌, ◌≤◌}
use native.Mathlib.Omega.{arith}
use lib.Pow.{pow_pos}
use lib.ListN.{length, get_or, set, length-set}
use lib.Seq.{get_or-set_same}
use lib.Bits.{bit_xor}
use borrow.Author.Tests.{eq-eqb, ne_eqb}
use Rattle.crc.specs.Crc.{poly, crc_of}
use Rattle.crc.proofs.Linear.{crc_append}
use Rattle.crc.proofs.Ends.{crc_tail, crc_flip, crc1_good_lem}
use Rattle.probe.specs.Probe.{sync_word}
use Rattle.repair.specs.Repair.{part, five_eighths, crc_to, crc1_for, put_word, with_crc1, with_crc2, flipped, clashes, settled}
use Rattle.repair.proofs.Parts.{part_two, part_more, part_set, rest_put, part_last, part_front, length_put}

-- where the 5/8 point stands
pub five_bounds : (n : ℕ) → 8 ≤ n → (4 ≤ five_eighths n) × (five_eighths n ≤ n - 3)
five_bounds n h = omega arith

-- a run to e goes on to m
pub crc_on : (s : List ℕ) (e m : ℕ) → 2 ≤ e → e ≤ m → crc_of (crc_to e s) (part e m s) ≡ crc_to m s
unfolding crc_to
crc_on s e m h k = sym (crc_append 0 (part 2 e s) (part e m s)) ∙ ap (crc_of 0) (sym (part_two s e m h k))

-- the lengths stay
pub length_crc1 : (s : List ℕ) → length (with_crc1 s) ≡ length s
unfolding with_crc1
length_crc1 s = length_put s 2 (crc1_for s)

pub length_crc2 : (s : List ℕ) → length (with_crc2 s) ≡ length s
unfolding with_crc2
length_crc2 s = length_put s (length s - 2) (crc_to (length s - 2) s)

pub length_flipped : (s : List ℕ) → length (flipped s) ≡ length s
unfolding flipped
length_flipped s = length-set s (length s - 3) (bit_xor (get_or s (length s - 3) 0) 1)

-- what holds of both holds of the frame as it is settled
pub settled_either : (P : List ℕ → Type 0) (s : List ℕ) → (clashes s ≡ true → P (flipped s)) → (clashes s ≡ false → P s) → P (settled s)
unfolding settled
settled_either P s f g = by (clashes s) f g
  where
    by : (b : Bool) → (b ≡ true → P (flipped s)) → (b ≡ false → P s) → P (cond b (flipped s) s)
    by true f g = f refl
    by false f g = g refl

pub length_settled : (s : List ℕ) → length (settled s) ≡ length s
length_settled s = settled_either (λ t. length t ≡ length s) s (λ e. length_flipped s) (λ e. refl)

-- with crc1 set, the register is 0 at the 5/8 point
pub after_crc1 : (s : List ℕ) → 8 ≤ length s → crc_to (five_eighths (length s)) (with_crc1 s) ≡ 0
unfolding crc_to with_crc1
after_crc1 s h =
    let e = five_eighths (length s) in
    ap (crc_of 0) (part_front s e (crc1_for s) (omega arith) (omega arith)) ∙ crc1_good_lem (part 4 e s)

-- with crc2 set, it is 0 at the end
pub after_crc2 : (s : List ℕ) → 4 ≤ length s → crc_to (length s) (with_crc2 s) ≡ 0
unfolding crc_to with_crc2
after_crc2 s h = ap (crc_of 0) (part_last s (crc_to (length s - 2) s) h) ∙ crc_tail 0 (part 2 (length s - 2) s) (pow_pos 16)

-- so the run for crc2 can start at the 5/8 point
pub second_sum : (s : List ℕ) → 8 ≤ length s → crc_of 0 (part (five_eighths (length s)) (length s - 2) s) ≡ crc_to (length s - 2) (with_crc1 s)
unfolding with_crc1
second_sum s h =
    let e = five_eighths (length s) in
    let m = length s - 2 in
    ap (crc_of 0) (sym (rest_put s e m 2 (crc1_for s) (omega arith)))
    ∙ ap (λ (c : ℕ). crc_of c (part e m (with_crc1 s))) (sym (after_crc1 s h))
    ∙ crc_on (with_crc1 s) e m (omega arith) (omega arith)

-- the bit before crc2, turned over, adds the generator
flip_adds : (s : List ℕ) (m : ℕ) → 2 ≤ m → m < length s → crc_to (m + 1) (set s m (bit_xor (get_or s m 0) 1)) ≡ bit_xor (crc_to (m + 1) s) poly
unfolding crc_to
flip_adds s m h k =
    let x = bit_xor (get_or s m 0) 1 in
    let k2 : m < length (set s m x) = simp length-set k in
    ap (crc_of 0) (part_more (set s m x) m h k2 ∙ ap₂ (λ (l : List ℕ) (y : ℕ). l ++ (y ∷ [])) (part_set s m m x h (omega arith)) (get_or-set_same s m x 0 k))
    ∙ crc_flip 0 (part 2 m s) (get_or s m 0)
    ∙ ap (λ (l : List ℕ). bit_xor (crc_of 0 l) poly) (sym (part_more s m h k))

pub crc_flipped : (s : List ℕ) → 5 ≤ length s → crc_to (length s - 2) (flipped s) ≡ bit_xor (crc_to (length s - 2) s) poly
unfolding flipped
crc_flipped s h =
    let p : length s - 2 ≡ length s - 3 + 1 = omega arith in
    ap (λ (n : ℕ). crc_to n (set s (length s - 3) (bit_xor (get_or s (length s - 3) 0) 1))) p
    ∙ flip_adds s (length s - 3) (omega arith) (omega arith)
    ∙ ap (λ (n : ℕ). bit_xor (crc_to n s) poly) (sym p)

-- crc2 put in place, in the code's two branches
crc2_as : (t : List ℕ) (n v : ℕ) → length t ≡ n → v ≡ crc_to (n - 2) t → put_word t (n - 2) v ≡ with_crc2 t
unfolding with_crc2
crc2_as t n v l e = rw (l, e)

pub put_flipped : (s : List ℕ) (c : ℕ) → 5 ≤ length s → c ≡ crc_to (length s - 2) s → c ≡ sync_word → put_word (flipped s) (length s - 2) (bit_xor c poly) ≡ with_crc2 (settled s)
unfolding settled
put_flipped s c h e z =
    crc2_as (flipped s) (length s) (bit_xor c poly) (length_flipped s) (ap (λ (k : ℕ). bit_xor k poly) e ∙ sym (crc_flipped s h))
    ∙ ap (λ (b : Bool). with_crc2 (cond b (flipped s) s)) (sym (eq-eqb (crc_to (length s - 2) s) sync_word (sym e ∙ z)))

pub put_plain : (s : List ℕ) (c : ℕ) → c ≡ crc_to (length s - 2) s → c ≢ sync_word → put_word s (length s - 2) c ≡ with_crc2 (settled s)
unfolding settled
put_plain s c e z =
    crc2_as s (length s) c refl e ∙ ap (λ (b : Bool). with_crc2 (cond b (flipped s) s)) (sym (ne_eqb (crc_to (length s - 2) s) sync_word (λ q. z (e ∙ q))))
