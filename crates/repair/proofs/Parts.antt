-- Parts of a frame, and what a store in it does to them.
-- Assumes nothing.
use mathlib.Core.Path.{◌≡◌, refl, sym, ap, ap₂, ◌∙◌}
use mathlib.Core.Logic.{◌⊎◌, inl, inr, ⊎_elim, ◌≢◌}
use mathlib.Core.List.{List, [], ◌∷◌, ◌++◌}
use Prim.Native.Nat.{ℕ, zero, suc, ◌+◌, ◌-◌, ◌*◌, ◌/◌, ◌%◌, ◌^◌, ◌<◌, ◌≤◌}
use native.Mathlib.Nat.{not-suc-le-zero, suc_inj, suc-add, mod-lt}
use native.Mathlib.Omega.{arith}
use lib.Pow.{pow_pos, split}
use lib.ListN.{length, get_or, set, take, drop, length-set, length-drop}
use lib.Seq.{drop-set-add, drop-set-lt, take-set-le, take_all, take-add, take-suc, drop-drop, get_or-drop, get_or-set_same, get_or-set_other, set-get_or}
use Rattle.bits.specs.Bits.{bit_at}
use Rattle.bits.proofs.Laws.{bit_at_in}
use Rattle.crc.proofs.Bytes.{high_lt}
use Rattle.repair.specs.Repair.{part, put_word}
use Rattle.repair.specs.Mended.{Outside, word_at, Bytes}
use Rattle.repair.proofs.Cases.{equal_or_not}

-- a part in two
pub part_two : (s : List ℕ) (e m : ℕ) → 2 ≤ e → e ≤ m → part 2 m s ≡ part 2 e s ++ part e m s
part_two s e m h k =
    let p : m - 2 ≡ (e - 2) + (m - e) = omega arith in
    let q : 2 + (e - 2) ≡ e = omega arith in
    ap (λ (n : ℕ). take n (drop 2 s)) p ∙ take-add (e - 2) (m - e) (drop 2 s)
    ∙ ap (λ (l : List ℕ). part 2 e s ++ take (m - e) l) (drop-drop (e - 2) 2 s ∙ ap (λ (n : ℕ). drop n s) q)

-- a part with one byte more
pub part_more : (s : List ℕ) (m : ℕ) → 2 ≤ m → m < length s → part 2 (m + 1) s ≡ part 2 m s ++ (get_or s m 0 ∷ [])
part_more s m h k =
    let p : m + 1 - 2 ≡ suc (m - 2) = omega arith in
    let q : 2 + (m - 2) ≡ m = omega arith in
    let l : m - 2 < length (drop 2 s) = rw length-drop (omega arith) in
    ap (λ (n : ℕ). take n (drop 2 s)) p ∙ take-suc (drop 2 s) (m - 2) 0 l
    ∙ ap (λ (x : ℕ). take (m - 2) (drop 2 s) ++ (x ∷ [])) (get_or-drop 2 s (m - 2) 0 ∙ ap (λ (n : ℕ). get_or s n 0) q)

-- a store at or past e leaves the part up to e
pub part_set : (s : List ℕ) (e i v : ℕ) → 2 ≤ e → e ≤ i → part 2 e (set s i v) ≡ part 2 e s
part_set s e i v h k =
    let p : i ≡ 2 + (i - 2) = omega arith in
    ap (λ (n : ℕ). take (e - 2) (drop 2 (set s n v))) p
    ∙ ap (take (e - 2)) (drop-set-add 2 s (i - 2) v)
    ∙ take-set-le (e - 2) (drop 2 s) (i - 2) v (omega arith)

-- two bytes stored at or past e leave the part up to e
pub part_put : (s : List ℕ) (e i v : ℕ) → 2 ≤ e → e ≤ i → part 2 e (put_word s i v) ≡ part 2 e s
unfolding put_word
part_put s e i v h k = part_set (set s i (v / 2 ^ 8)) e (i + 1) (v % 2 ^ 8) h (omega arith) ∙ part_set s e i (v / 2 ^ 8) h k

-- two bytes stored before a leave the part from a on
pub rest_put : (s : List ℕ) (a e i v : ℕ) → i + 1 < a → part a e (put_word s i v) ≡ part a e s
unfolding put_word
rest_put s a e i v h =
    ap (take (e - a)) (drop-set-lt a (set s i (v / 2 ^ 8)) (i + 1) (v % 2 ^ 8) h ∙ drop-set-lt a s i (v / 2 ^ 8) (omega arith))

-- two bytes stored leave the length
pub length_put : (s : List ℕ) (i v : ℕ) → length (put_word s i v) ≡ length s
unfolding put_word
length_put s i v = length-set (set s i (v / 2 ^ 8)) (i + 1) (v % 2 ^ 8) ∙ length-set s i (v / 2 ^ 8)

-- and every byte but the two
pub put_other : (s : List ℕ) (i v j : ℕ) → j ≢ i → j ≢ i + 1 → get_or (put_word s i v) j 0 ≡ get_or s j 0
unfolding put_word
put_other s i v j p q = get_or-set_other (set s i (v / 2 ^ 8)) (i + 1) j (v % 2 ^ 8) 0 q ∙ get_or-set_other s i j (v / 2 ^ 8) 0 p

-- no number is two more than it is
none : (i : ℕ) → 0 ≡ i + 2 → ⊥
none i q = omega arith

put_last : (l : List ℕ) (i a b : ℕ) → length l ≡ i + 2 → set (set l i a) (i + 1) b ≡ take i l ++ (a ∷ b ∷ [])
put_last [] i a b e = absurd (none i e)
put_last (x ∷ []) zero a b e = absurd (one e)
  where
    one : ◌≡◌ {A = ℕ} 1 2 → ⊥
    one q = omega arith
put_last (x ∷ y ∷ []) zero a b e = refl
put_last (x ∷ y ∷ z ∷ l) zero a b e = absurd (three (length l) e)
  where
    three : (n : ℕ) → suc (suc (suc n)) ≡ 2 → ⊥
    three n q = omega arith
put_last (x ∷ l) (suc i) a b e =
    ap (λ (k : ℕ). set (set (x ∷ l) (suc i) a) k b) (suc-add i 1)
    ∙ ap (λ (t : List ℕ). x ∷ t) (put_last l i a b (suc_inj (e ∙ suc-add i 2)))

-- the last two bytes stored stand at the end
pub part_last : (s : List ℕ) (v : ℕ) → 4 ≤ length s → part 2 (length s) (put_word s (length s - 2) v) ≡ part 2 (length s - 2) s ++ (v / 2 ^ 8 ∷ v % 2 ^ 8 ∷ [])
unfolding put_word
part_last s v h =
    let j = length s - 4 in
    let a = v / 2 ^ 8 in
    let b = v % 2 ^ 8 in
    let p : length s - 2 ≡ 2 + j = omega arith in
    let q : length s - 2 + 1 ≡ 2 + (j + 1) = omega arith in
    let r : length s - 2 - 2 ≡ j = omega arith in
    let l : length (drop 2 s) ≡ j + 2 = length-drop 2 s ∙ omega arith in
    let m : length (set (set (drop 2 s) j a) (j + 1) b) ≤ length s - 2 = simp length-set (omega arith) in
    ap₂ (λ (x y : ℕ). take (length s - 2) (drop 2 (set (set s x a) y b))) p q
    ∙ ap (take (length s - 2)) (drop-set-add 2 (set s (2 + j) a) (j + 1) b ∙ ap (λ (z : List ℕ). set z (j + 1) b) (drop-set-add 2 s j a))
    ∙ take_all (length s - 2) (set (set (drop 2 s) j a) (j + 1) b) m
    ∙ put_last (drop 2 s) j a b l
    ∙ ap (λ (n : ℕ). take n (drop 2 s) ++ (a ∷ b ∷ [])) (sym r)

-- bytes 2 and 3 stored stand in front
pub part_front : (s : List ℕ) (e v : ℕ) → 4 ≤ length s → 4 ≤ e → part 2 e (put_word s 2 v) ≡ v / 2 ^ 8 ∷ v % 2 ^ 8 ∷ part 4 e s
unfolding put_word
part_front [] e v h k = absurd (not-suc-le-zero h)
part_front (w ∷ []) e v h k = absurd (small h)
  where
    small : 4 ≤ 1 → ⊥
    small q = omega arith
part_front (w ∷ x ∷ []) e v h k = absurd (small h)
  where
    small : 4 ≤ 2 → ⊥
    small q = omega arith
part_front (w ∷ x ∷ y ∷ []) e v h k = absurd (small h)
  where
    small : 4 ≤ 3 → ⊥
    small q = omega arith
part_front (w ∷ x ∷ y ∷ z ∷ s) e v h k =
    let p : e - 2 ≡ suc (suc (e - 4)) = omega arith in
    ap (λ (n : ℕ). take n (v / 2 ^ 8 ∷ v % 2 ^ 8 ∷ s)) p

-- the two bytes stored are found again
pub word_put : (s : List ℕ) (i v : ℕ) → i + 1 < length s → word_at (put_word s i v) i ≡ v
unfolding put_word
word_put s i v h =
    let t = set s i (v / 2 ^ 8) in
    let k : i + 1 < length t = simp length-set h in
    let n : i ≢ i + 1 = λ e. ne i e in
    let l : i < length s = omega arith in
    ap₂ (λ (x y : ℕ). x * 2 ^ 8 + y) (get_or-set_other t (i + 1) i (v % 2 ^ 8) 0 n ∙ get_or-set_same s i (v / 2 ^ 8) 0 l) (get_or-set_same t (i + 1) (v % 2 ^ 8) 0 k) ∙ split v 8
  where
    ne : (i : ℕ) → i ≡ i + 1 → ⊥
    ne i e = omega arith

-- a word stored where it stood changes nothing
pub put_same : (s : List ℕ) (i : ℕ) → Bytes s → put_word s i (word_at s i) ≡ s
unfolding put_word
put_same s i b =
    let a = get_or s i 0 in
    let c = get_or s (i + 1) 0 in
    let hc = b (i + 1) in
    let high : (a * 2 ^ 8 + c) / 2 ^ 8 ≡ a = omega arith in
    let low : (a * 2 ^ 8 + c) % 2 ^ 8 ≡ c = omega arith in
    ap₂ (λ (x y : ℕ). set (set s i x) (i + 1) y) high low ∙ ap (λ (t : List ℕ). set t (i + 1) c) (set-get_or s i 0) ∙ set-get_or s (i + 1) 0

-- bytes stay bytes
pub bytes_set : (s : List ℕ) (i v : ℕ) → i < length s → v < 2 ^ 8 → Bytes s → Bytes (set s i v)
bytes_set s i v h k b j =
    equal_or_not (get_or (set s i v) j 0 < 2 ^ 8) j i (λ e. rw (e, get_or-set_same s i v 0) k) (λ n. rw (get_or-set_other s i j v 0 n) (b j))

pub bytes_put : (s : List ℕ) (i v : ℕ) → i + 1 < length s → v < 2 ^ 16 → Bytes s → Bytes (put_word s i v)
unfolding put_word
bytes_put s i v h k b =
    let l : i < length s = omega arith in
    let m : i + 1 < length (set s i (v / 2 ^ 8)) = simp length-set h in
    bytes_set (set s i (v / 2 ^ 8)) (i + 1) (v % 2 ^ 8) m (mod-lt v (pow_pos 8)) (bytes_set s i (v / 2 ^ 8) l (high_lt v k) b)

-- two bytes stored keep every bit outside of them
pub bit_put : (s : List ℕ) (i v b : ℕ) → Outside (8 * i) 16 b → bit_at (put_word s i v) b ≡ bit_at s b
bit_put s i v b o =
    bit_at_in (put_word s i v) b
    ∙ ap (λ (x : ℕ). x / 2 ^ (7 - b % 8) % 2)
    (put_other s i v (b / 8) (λ e. ⊎_elim (λ h. before i b h e) (λ h. after i b h (inl e)) o) (λ e. ⊎_elim (λ h. before_next i b h e) (λ h. after i b h (inr e)) o))
    ∙ sym (bit_at_in s b)
  where
    before : (i b : ℕ) → b < 8 * i → b / 8 ≡ i → ⊥
    before i b h e = omega arith

    before_next : (i b : ℕ) → b < 8 * i → b / 8 ≡ i + 1 → ⊥
    before_next i b h e = omega arith

    after : (i b : ℕ) → 8 * i + 16 ≤ b → (b / 8 ≡ i) ⊎ (b / 8 ≡ i + 1) → ⊥
    after i b h (inl e) = omega arith
    after i b h (inr e) = omega arith
