-- What a repair promises: the statements are those of specs/Mended.antt.
-- Assumes nothing.
use mathlib.Core.Path.{◌≡◌, refl, sym, ap, ap₂, ◌∙◌, subst}
use mathlib.Core.Bool.{Bool, true, false, cond}
use mathlib.Core.Logic.{◌≢◌}
use mathlib.Core.List.{List}
use Prim.Native.Nat.{ℕ, ◌+◌, ◌-◌, ◌*◌, ◌/◌, ◌%◌, ◌^◌, ◌<◌, ◌≤◌}
use native.Mathlib.Nat.{mod-lt, div-eq_of_lt, pos_of_ne-zero}
use native.Mathlib.Omega.{arith}
use lib.Dec.{eqb}
use lib.Pow.{pow_pos, pow-lt, split}
use lib.ListN.{length, get_or, set}
use lib.Seq.{get_or-set_same, get_or-set_other}
use lib.Bits.{bit_xor, xor_lt, xor_shr, xor_zero_r}
use borrow.Author.Tests.{eqb-true, eqb-false}
use Rattle.refusal.specs.Refusals.{Grounds, Outcome, taken, refused, grounds}
use Rattle.refusal.proofs.Laws.{never, taken_same, past_test, past_then}
use Rattle.bits.specs.Bits.{bit_at}
use Rattle.bits.proofs.Laws.{bit_at_in}
use Rattle.crc.specs.Crc.{poly, crc_of}
use Rattle.crc.proofs.Linear.{crc_lt}
use Rattle.crc.proofs.Bytes.{high_lt}
use Rattle.crc.proofs.Ends.{crc1_lt, crc1_only, crc_tail_only}
use Rattle.probe.specs.declared.Codec.{Codec}
use Rattle.probe.specs.declared.Codec.TheVariants as codec
use Rattle.probe.specs.Probe.{sync_word}
use Rattle.repair.specs.Repair.{least, unfit, fit_of, five_eighths, part, crc_to, crc1_good, crc2_good, Checked, both, second, good_of, crc_status_of, put_word, crc1_for, with_crc1, with_crc2, flipped, clashes, settled, repaired, repair_of}
use Rattle.repair.specs.Mended.{all_good, Outside, Kept, word_at, crc2_in, Bytes, Mended, MendedAc3, GoodStays, RefusedStays}
use Rattle.repair.proofs.Cases.{equal_or_not}
use Rattle.repair.proofs.Answers.{fit_bounds, status_fit}
use Rattle.repair.proofs.Parts.{part_set, part_put, part_last, part_front, length_put, word_put, put_same, bytes_set, bytes_put, bit_put}
use Rattle.repair.proofs.Checks.{five_bounds, length_crc1, length_crc2, length_flipped, length_settled, settled_either, after_crc1, after_crc2, crc_flipped}

-- a word of bytes, and the CRC, are below 2 ^ 16
word_lt : (s : List ℕ) (i : ℕ) → Bytes s → word_at s i < 2 ^ 16
word_lt s i b = let h = b i in let l = b (i + 1) in omega arith

crc_to_lt : (e : ℕ) (s : List ℕ) → crc_to e s < 2 ^ 16
unfolding crc_to
crc_to_lt e s = crc_lt 0 (part 2 e s) (pow_pos 16)

-- the only number at bytes 2 and 3 that makes the 5/8 point good
only_crc1 : (s : List ℕ) (v : ℕ) → 8 ≤ length s → length s ≤ 4096 → v < 2 ^ 16 → crc1_good (put_word s 2 v) ≡ true → v ≡ crc1_for s
unfolding crc_to
only_crc1 s v h k hv q =
    let five = five_eighths (length s) in
    let z : crc_to five (put_word s 2 v) ≡ 0 = ap (λ (n : ℕ). crc_to (five_eighths n) (put_word s 2 v)) (sym (length_put s 2 v)) ∙ eqb-true (crc_to (five_eighths (length (put_word s 2 v))) (put_word s 2 v)) 0 q in
    sym (split v 8)
    ∙ crc1_only (v / 2 ^ 8) (v % 2 ^ 8) (part 4 five s) (high_lt v hv) (mod-lt v (pow_pos 8))
    (ap (crc_of 0) (sym (part_front s five v (omega arith) (omega arith))) ∙ z)

-- the only number at the last two bytes that makes the end good
only_crc2 : (s : List ℕ) (v : ℕ) → 4 ≤ length s → v < 2 ^ 16 → crc2_good (put_word s (length s - 2) v) ≡ true → v ≡ crc_to (length s - 2) s
unfolding crc_to
only_crc2 s v h hv q =
    let t = put_word s (length s - 2) v in
    let z : crc_to (length s) t ≡ 0 = ap (λ (n : ℕ). crc_to n t) (sym (length_put s (length s - 2) v)) ∙ eqb-true (crc_to (length t) t) 0 q in
    sym (split v 8)
    ∙ crc_tail_only 0 (part 2 (length s - 2) s) (v / 2 ^ 8) (v % 2 ^ 8) (pow_pos 16) (high_lt v hv) (mod-lt v (pow_pos 8))
    (ap (crc_of 0) (sym (part_last s v h)) ∙ z)

-- setting crc2, and the bit before it, leave the run to e
crc2_keeps : (s : List ℕ) (e : ℕ) → 2 ≤ e → e ≤ length s - 2 → crc_to e (with_crc2 s) ≡ crc_to e s
unfolding crc_to with_crc2
crc2_keeps s e h k = ap (crc_of 0) (part_put s e (length s - 2) (crc_to (length s - 2) s) h k)

flip_keeps : (s : List ℕ) (e : ℕ) → 2 ≤ e → e ≤ length s - 3 → crc_to e (flipped s) ≡ crc_to e s
unfolding crc_to flipped
flip_keeps s e h k = ap (crc_of 0) (part_set s e (length s - 3) (bit_xor (get_or s (length s - 3) 0) 1) h k)

settled_keeps : (s : List ℕ) (e : ℕ) → 2 ≤ e → e ≤ length s - 3 → crc_to e (settled s) ≡ crc_to e s
settled_keeps s e h k = settled_either (λ t. crc_to e t ≡ crc_to e s) s (λ _. flip_keeps s e h k) (λ _. refl)

-- the repair of an AC-3 frame
module _ (s : List ℕ) (h : 8 ≤ length s) (k : length s ≤ 4096) where
  abbrev first : List ℕ
  first = with_crc1 s

  abbrev settle : List ℕ
  settle = settled first

  settle_length : length settle ≡ length s
  settle_length = length_settled first ∙ length_crc1 s

  ac3_length : length (with_crc2 settle) ≡ length s
  ac3_length = length_crc2 settle ∙ settle_length

  long : 4 ≤ length settle
  long = let l = settle_length in omega arith

  ac3_first : crc_to (five_eighths (length s)) (with_crc2 settle) ≡ 0
  ac3_first =
      let five = five_bounds (length s) h in
      let l1 = length_crc1 s in
      let l2 = settle_length in
      crc2_keeps settle (five_eighths (length s)) (omega arith) (omega arith) ∙ settled_keeps first (five_eighths (length s)) (omega arith) (omega arith) ∙ after_crc1 s h

  ac3_second : crc_to (length s) (with_crc2 settle) ≡ 0
  ac3_second = ap (λ (n : ℕ). crc_to n (with_crc2 settle)) (sym settle_length) ∙ after_crc2 settle long

-- every checksum is good after a repair
repaired_length : (k : Codec) (s : List ℕ) → length (repaired k s) ≡ length s
unfolding repaired
repaired_length codec.Ac3 s = length_crc2 (settled (with_crc1 s)) ∙ length_settled (with_crc1 s) ∙ length_crc1 s
repaired_length codec.Eac3 s = length_crc2 s

repaired_good : (k : Codec) (s : List ℕ) → least k ≤ length s → length s ≤ 4096 → good_of k (repaired k s) ≡ all_good k
unfolding repaired good_of least
repaired_good codec.Ac3 s h l =
    let t = with_crc2 (settled (with_crc1 s)) in
    let e = ac3_length s h l in
    ap₂ (λ (x y : ℕ). both (eqb x 0) (eqb y 0))
    (ap (λ (n : ℕ). crc_to (five_eighths n) t) e ∙ ac3_first s h l)
    (ap (λ (n : ℕ). crc_to n t) e ∙ ac3_second s h l)
repaired_good codec.Eac3 s h l =
    let g : 4 ≤ length s = omega arith in
    ap (λ (x : ℕ). second (eqb x 0)) (ap (λ (n : ℕ). crc_to n (with_crc2 s)) (length_crc2 s) ∙ after_crc2 s g)

status_after : (k : Codec) (s : List ℕ) → unfit k (length s) ≡ false → crc_status_of k (repaired k s) ≡ taken (all_good k)
status_after k s e =
    let b = fit_bounds k (length s) e in
    sym (status_fit k (repaired k s) false (sym e ∙ ap (unfit k) (sym (repaired_length k s))) refl) ∙ ap taken (repaired_good k s b.0 b.1)

-- the byte before crc2 keeps every bit but its lowest
flip_above : (x e : ℕ) → 0 < e → bit_xor x 1 / 2 ^ e ≡ x / 2 ^ e
flip_above x e h = xor_shr x 1 e ∙ ap (bit_xor (x / 2 ^ e)) (div-eq_of_lt (pow-lt h)) ∙ xor_zero_r (x / 2 ^ e)

bit_flipped : (s : List ℕ) (b : ℕ) → 3 ≤ length s → b ≢ 8 * (length s - 2) - 1 → bit_at (flipped s) b ≡ bit_at s b
unfolding flipped
bit_flipped s b h n =
    let m = length s - 3 in
    let x = bit_xor (get_or s m 0) 1 in
    let hm : m < length s = omega arith in
    bit_at_in (flipped s) b
    ∙ equal_or_not (get_or (set s m x) (b / 8) 0 / 2 ^ (7 - b % 8) % 2 ≡ get_or s (b / 8) 0 / 2 ^ (7 - b % 8) % 2) (b / 8) m
    (λ e.
    let up : 0 < 7 - b % 8 = above (length s) b h e n in
    ap (λ (y : ℕ). y / 2 ^ (7 - b % 8) % 2) (ap (λ (j : ℕ). get_or (set s m x) j 0) e ∙ get_or-set_same s m x 0 hm)
    ∙ ap (λ (y : ℕ). y % 2) (flip_above (get_or s m 0) (7 - b % 8) up)
    ∙ ap (λ (j : ℕ). get_or s j 0 / 2 ^ (7 - b % 8) % 2) (sym e))
    (λ e. ap (λ (y : ℕ). y / 2 ^ (7 - b % 8) % 2) (get_or-set_other s m (b / 8) x 0 e))
    ∙ sym (bit_at_in s b)
  where
    last : (l b : ℕ) → 3 ≤ l → b / 8 ≡ l - 3 → 7 - b % 8 ≡ 0 → b ≡ 8 * (l - 2) - 1
    last l b h e z = omega arith

    some : (e : ℕ) → e ≢ 0 → 0 < e
    some e h = pos_of_ne-zero h

    above : (l b : ℕ) → 3 ≤ l → b / 8 ≡ l - 3 → b ≢ 8 * (l - 2) - 1 → 0 < 7 - b % 8
    above l b h e n = some (7 - b % 8) (λ z. n (last l b h e z))

-- "No other bit changes"
crc2_bit : (s : List ℕ) (b : ℕ) → Outside (8 * (length s - 2)) 16 b → bit_at (with_crc2 s) b ≡ bit_at s b
unfolding with_crc2
crc2_bit s b o = bit_put s (length s - 2) (crc_to (length s - 2) s) b o

crc1_bit : (s : List ℕ) (b : ℕ) → Outside 16 16 b → bit_at (with_crc1 s) b ≡ bit_at s b
unfolding with_crc1
crc1_bit s b o = bit_put s 2 (crc1_for s) b o

repaired_keeps : (k : Codec) (s : List ℕ) → least k ≤ length s → (b : ℕ) → Kept k s b → bit_at (repaired k s) b ≡ bit_at s b
unfolding repaired Kept least
repaired_keeps codec.Ac3 s h b o =
    let w = with_crc1 s in
    let l1 = length_crc1 s in
    let l2 = length_settled w ∙ l1 in
    let h1 : 3 ≤ length w = omega arith in
    crc2_bit (settled w) b (subst (λ (n : ℕ). Outside (8 * (n - 2)) 16 b) (sym l2) o.1)
    ∙ settled_either (λ t. bit_at t b ≡ bit_at s b) w
    (λ e. bit_flipped w b h1 (subst (λ (n : ℕ). b ≢ 8 * (n - 2) - 1) (sym l1) (o.2 e)) ∙ crc1_bit s b o.0)
    (λ _. crc1_bit s b o.0)
repaired_keeps codec.Eac3 s h b o = crc2_bit s b o

-- what stands last after crc2 is set
crc2_stands : (s : List ℕ) → 4 ≤ length s → crc2_in (with_crc2 s) ≡ crc_to (length s - 2) s
unfolding with_crc2
crc2_stands s h =
    let v = crc_to (length s - 2) s in
    ap (λ (n : ℕ). word_at (put_word s (length s - 2) v) (n - 2)) (length_put s (length s - 2) v) ∙ word_put s (length s - 2) v (omega arith)

-- a repair that flips ends with 0x8B72, and none with the sync word
settled_flips : (s : List ℕ) → 5 ≤ length s → clashes s ≡ true → crc_to (length s - 2) (flipped s) ≡ 0x8B72
settled_flips s h e = crc_flipped s h ∙ ap (λ (c : ℕ). bit_xor c poly) (eqb-true (crc_to (length s - 2) s) sync_word e)

module _ (s : List ℕ) (h : 5 ≤ length s) where
  no_clash : crc_to (length (settled s) - 2) (settled s) ≢ sync_word
  no_clash =
      settled_either (λ t. crc_to (length t - 2) t ≢ sync_word) s
      (λ e z. other (sym (ap (λ (n : ℕ). crc_to (n - 2) (flipped s)) (length_flipped s) ∙ settled_flips s h e) ∙ z))
      (λ e. eqb-false (crc_to (length s - 2) s) sync_word e)
    where
      other : ◌≡◌ {A = ℕ} 0x8B72 sync_word → ⊥
      other q = omega arith

  flips_to : clashes s ≡ true → crc_to (length (settled s) - 2) (settled s) ≡ 0x8B72
  unfolding settled
  flips_to e =
      ap (λ (b : Bool). crc_to (length (cond b (flipped s) s) - 2) (cond b (flipped s) s)) e
      ∙ ap (λ (n : ℕ). crc_to (n - 2) (flipped s)) (length_flipped s)
      ∙ settled_flips s h e

pub mended_ac3 : (s : List ℕ) → unfit codec.Ac3 (length s) ≡ false → MendedAc3 s
unfolding repaired least
mended_ac3 s e =
    let b = fit_bounds codec.Ac3 (length s) e in
    let l = length_crc1 s in
    let h : 5 ≤ length (with_crc1 s) = omega (arith, b.0) in
    let stands = crc2_stands (settled (with_crc1 s)) (long s b.0 b.1) in
    record {
      crc1_only = λ v hv q. only_crc1 s v b.0 b.1 hv q;
      flips = λ c. stands ∙ flips_to (with_crc1 s) h c;
      no_sync = λ z. no_clash (with_crc1 s) h (sym stands ∙ z);
    }

-- what a good status shows
good_facts : (k : Codec) (s : List ℕ) → crc_status_of k s ≡ taken (all_good k) → (unfit k (length s) ≡ false) × (good_of k s ≡ all_good k)
good_facts k s e =
    let p = past_then (fit_of k (length s)) (λ _. taken (good_of k s)) e in
    ((past_test (unfit k (length s)) (grounds 20 0) (taken tt) p.1).0, taken_same p.2)

both_true : {a b : Bool} → ◌≡◌ {A = Checked} (both a b) (both true true) → (a ≡ true) × (b ≡ true)
both_true e = (cc, cc)

second_true : {b : Bool} → ◌≡◌ {A = Checked} (second b) (second true) → b ≡ true
second_true e = cc

-- a checksum that is good is the one that is set
good_crc1 : (s : List ℕ) → 8 ≤ length s → length s ≤ 4096 → Bytes s → crc1_good s ≡ true → with_crc1 s ≡ s
unfolding with_crc1
good_crc1 s h k b q =
    let same = put_same s 2 b in
    ap (put_word s 2) (sym (only_crc1 s (word_at s 2) h k (word_lt s 2 b) (ap crc1_good same ∙ q))) ∙ same

crc2_is : (s : List ℕ) → 4 ≤ length s → Bytes s → crc2_good s ≡ true → crc2_in s ≡ crc_to (length s - 2) s
crc2_is s h b q = only_crc2 s (crc2_in s) h (word_lt s (length s - 2) b) (ap crc2_good (put_same s (length s - 2) b) ∙ q)

good_crc2 : (s : List ℕ) → 4 ≤ length s → Bytes s → crc2_good s ≡ true → with_crc2 s ≡ s
unfolding with_crc2
good_crc2 s h b q = ap (put_word s (length s - 2)) (sym (crc2_is s h b q)) ∙ put_same s (length s - 2) b

pub good_stays : (k : Codec) (s : List ℕ) → GoodStays k s
unfolding repaired good_of least
good_stays codec.Ac3 s b e n =
    let p = good_facts codec.Ac3 s e in
    let q = both_true p.1 in
    let f = fit_bounds codec.Ac3 (length s) p.0 in
    let h : 4 ≤ length s = omega (arith, f.0) in
    let calm = settled_either (λ t. t ≡ s) s (λ c. absurd (n refl (crc2_is s h b q.1 ∙ eqb-true (crc_to (length s - 2) s) sync_word c))) (λ _. refl) in
    ap (λ t. with_crc2 (settled t)) (good_crc1 s f.0 f.1 b q.0) ∙ ap with_crc2 calm ∙ good_crc2 s h b q.1
good_stays codec.Eac3 s b e n =
    let p = good_facts codec.Eac3 s e in
    let f = fit_bounds codec.Eac3 (length s) p.0 in
    let h : 4 ≤ length s = omega (arith, f.0) in
    good_crc2 s h b (second_true p.1)

-- a repaired frame is made of bytes
bytes_flipped : (s : List ℕ) → 3 ≤ length s → Bytes s → Bytes (flipped s)
unfolding flipped
bytes_flipped s h b =
    let m = length s - 3 in
    bytes_set s m (bit_xor (get_or s m 0) 1) (omega arith) (xor_lt 8 (get_or s m 0) 1 (b m) (omega arith)) b

bytes_crc2 : (s : List ℕ) → 4 ≤ length s → Bytes s → Bytes (with_crc2 s)
unfolding with_crc2
bytes_crc2 s h b = bytes_put s (length s - 2) (crc_to (length s - 2) s) (omega arith) (crc_to_lt (length s - 2) s) b

bytes_crc1 : (s : List ℕ) → 8 ≤ length s → Bytes s → Bytes (with_crc1 s)
unfolding with_crc1
bytes_crc1 s h b = bytes_put s 2 (crc1_for s) (omega arith) (crc1_lt (part 4 (five_eighths (length s)) s)) b

bytes_repaired : (k : Codec) (s : List ℕ) → unfit k (length s) ≡ false → Bytes s → Bytes (repaired k s)
unfolding repaired least
bytes_repaired codec.Ac3 s e b =
    let f = fit_bounds codec.Ac3 (length s) e in
    let w = with_crc1 s in
    let l = length_crc1 s in
    let h : 3 ≤ length w = omega (arith, f.0) in
    let bw = bytes_crc1 s f.0 b in
    bytes_crc2 (settled w) (long s f.0 f.1) (settled_either Bytes w (λ _. bytes_flipped w h bw) (λ _. bw))
bytes_repaired codec.Eac3 s e b =
    let f = fit_bounds codec.Eac3 (length s) e in
    let h : 4 ≤ length s = omega (arith, f.0) in
    bytes_crc2 s h b

-- repaired again, a frame stays as it is
once : (k : Codec) (s : List ℕ) → unfit k (length s) ≡ false → Bytes s → repaired k (repaired k s) ≡ repaired k s
once codec.Ac3 s e b = good_stays codec.Ac3 (repaired codec.Ac3 s) (bytes_repaired codec.Ac3 s e b) (status_after codec.Ac3 s e) (λ _. (mended_ac3 s e).no_sync)
once codec.Eac3 s e b = good_stays codec.Eac3 (repaired codec.Eac3 s) (bytes_repaired codec.Eac3 s e b) (status_after codec.Eac3 s e) (λ q. absurd (other q))
  where
    other : ◌≡◌ {A = Codec} codec.Eac3 codec.Ac3 → ⊥
    other q = let z : ◌≡◌ {A = ℕ} 0 1 = cc in omega arith

least_four : (k : Codec) → 4 ≤ least k
unfolding least
least_four codec.Ac3 = omega arith
least_four codec.Eac3 = omega arith

pub mended : (k : Codec) (s : List ℕ) → unfit k (length s) ≡ false → Mended k s
mended k s e =
    let f = fit_bounds k (length s) e in
    let h : 4 ≤ length s = omega (arith, least_four k, f.0) in
    record {
      same_length = repaired_length k s;
      good = status_after k s e;
      kept = repaired_keeps k s f.0;
      crc2_only = λ v hv q. only_crc2 s v h hv q;
      once = once k s e;
    }

-- a refused repair
refused_same : {a b : Grounds} → ◌≡◌ {A = Outcome Unit} (refused a) (refused b) → a ≡ b
refused_same z = cc

pub refused_stays : (k : Codec) (s : List ℕ) → RefusedStays k s
refused_stays k s g e = by (unfit k (length s)) refl
  where
    by : (b : Bool) → unfit k (length s) ≡ b → (g ≡ grounds 20 0) × ((repair_of k s).state ≡ s)
    by true q = (refused_same (sym (simp q at e)), simp q)
    by false q = never (sym (simp q at e))
