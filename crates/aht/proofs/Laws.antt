-- Laws of the AHT walk: what a read comes to, that a refused walk stays as it is, the ends of each step, one turn of each loop, and where
-- the gain words lie.
-- Assumes nothing.
use Prim.Native.Nat.{ℕ, zero, suc, ◌+◌, ◌-◌, ◌*◌, ◌/◌, ◌^◌, ◌≤◌, ◌<◌}
use mathlib.Core.Path.{◌≡◌, refl, sym, ◌∙◌, ap}
use mathlib.Core.Bool.{Bool, true, false, cond}
use mathlib.Core.List.{List, [], ◌∷◌}
use native.Mathlib.Omega.{arith}
use native.Mathlib.Decide.{dec_le}
use native.Mathlib.Numerals.{add-one}
use lib.Dec.{eqb, ltb}
use lib.ListN.{length, get_or, drop, drop_of_length-le}
use lib.Seq.{slice, drop-cons}
use borrow.Author.Tests.{eq-eqb, ne_eqb}
use Rattle.std.specs.Prelude.{count_by}
use Rattle.std.proofs.lemmas.List.Sums.{sum_by-cons}
use Rattle.refusal.specs.Refusals.{Grounds, grounds, Outcome, taken, refused, Ran}
use Rattle.refusal.proofs.Laws.{run_on, run_stays}
use Rattle.bits.specs.Bits.{bits_at}
use Rattle.bits.proofs.Laws.{bits_at_lt, bits_at_zero}
use Rattle.syntax.specs.declared.Place.{Place}
use Rattle.syntax.specs.Reads.{unsound}
use Rattle.syntax.proofs.Tests.{sound_limit}
use Rattle.syntax.proofs.ReadLaws.{raw_inside, raw_past}
use Rattle.aht.specs.Aht.{Tallied, tallied, Walk, going, read_on, refuse_on, tag_on, reads, times, gaq_width, gained_on, mantissa_on, is_active, gain_at, vector_width, bin_on, count_active, walk_on, sections, composite_on, word_on, bins_on, mode_on, told, unfit_aht, begun, aht_of}
use Rattle.aht.specs.Tallies.{place_at, word_width, gain_bits}

-- 1. A refused walk stays as it is.

-- through such a step
abbrev pub Stays : (Walk → Walk) → Type 0
Stays step = (r : Walk) (g : Grounds) → r.outcome ≡ refused g → step r ≡ r

pub read_stays : (frame : List ℕ) (n : ℕ) → Stays (read_on frame n)
unfolding read_on
read_stays frame n r g e = sym (run_stays _ refl e)

pub refuse_stays : (k : ℕ) → Stays (refuse_on k)
unfolding refuse_on
refuse_stays k r g e = sym (run_stays _ refl e)

pub tag_stays : Stays tag_on
unfolding tag_on
tag_stays r g e = sym (run_stays _ refl e)

pub gained_stays : (frame : List ℕ) (s l : ℕ) → Stays (gained_on frame s l)
unfolding gained_on
gained_stays frame s l r g e = rw (read_stays frame s r g e, e)

pub mantissa_stays : (frame : List ℕ) (m gain : ℕ) → Stays (mantissa_on frame m gain)
unfolding mantissa_on
mantissa_stays frame m gain r g e = go (eqb gain 1) (eqb gain 2)
  where
    go : (t u : Bool) → cond t (read_on frame m r) (cond u (gained_on frame (m - 1) (m - 1) r) (gained_on frame (m - 2) m r)) ≡ r
    go true u = read_stays frame m r g e
    go false true = gained_stays frame (m - 1) (m - 1) r g e
    go false false = gained_stays frame (m - 2) m r g e

pub word_stays : (frame : List ℕ) (mode : ℕ) → Stays (word_on frame mode)
unfolding word_on composite_on
word_stays frame mode r g e = go (eqb mode 3)
  where
    go : (t : Bool) → cond t (cond (reads (λ v. ltb 26 v) (read_on frame 5 r)) (refuse_on 14 (read_on frame 5 r)) (read_on frame 5 r)) (read_on frame 1 r) ≡ r
    go true = rw (read_stays frame 5 r g e, e)
    go false = read_stays frame 1 r g e

pub times_stays : (n : ℕ) (step : Walk → Walk) → Stays step → Stays (times n step)
unfolding times
times_stays zero step h r g e = refl
times_stays (suc n) step h r g e = ap step (times_stays n step h r g e) ∙ h r g e

pub bin_stays : (frame : List ℕ) (mode base k h : ℕ) → Stays (bin_on frame mode base k h)
unfolding bin_on
bin_stays frame mode base k h r g e = go (eqb h 0) (ltb h 8) (ltb 19 h)
  where
    go : (t u v : Bool)
        → cond t r (cond u (read_on frame (vector_width h) r) (cond v (refuse_on 13 r) (times 6 (mantissa_on frame (gaq_width h) (gain_at frame mode base k h)) r)))
        ≡ r
    go true u v = refl
    go false true v = read_stays frame (vector_width h) r g e
    go false false true = refuse_stays 13 r g e
    go false false false = times_stays 6 _ (mantissa_stays frame (gaq_width h) (gain_at frame mode base k h)) r g e

pub walk_stays : (frame : List ℕ) (mode base k : ℕ) (hs : List ℕ) → Stays (walk_on frame mode base k hs)
unfolding walk_on
walk_stays frame mode base k [] r g e = refl
walk_stays frame mode base k (h ∷ hs) r g e =
    ap (walk_on frame mode base (k + cond (is_active mode h) 1 0) hs) (bin_stays frame mode base k h r g e)
    ∙ walk_stays frame mode base (k + cond (is_active mode h) 1 0) hs r g e

-- 2. The steps of a walk that goes on.

-- n bits, from a sound place
module _ (frame : List ℕ) (p : Place) (n : ℕ) (s : unsound (length frame) p ≡ false) (narrow : n ≤ 32) (v pos tags : ℕ) where
  pub read_past : p.limit < pos + n
      → ◌≡◌ {A = Walk} (record { outcome = refused (grounds 1 pos); state = tallied (place_at p pos) tags }) (read_on frame n (going v (tallied (place_at p pos) tags)))
  unfolding read_on
  read_past h =
      let l = sound_limit (length frame) p s in
      ap {B = Walk} (λ (x : Ran Place ℕ). record { outcome = x.outcome; state = tallied x.state tags })
      (sym (raw_past frame (place_at p pos) n l.0 l.1 narrow h))

  pub read_within : pos + n ≤ p.limit
      → going (bits_at frame (pos + n - n) n) (tallied (place_at p (pos + n)) tags) ≡ read_on frame n (going v (tallied (place_at p pos) tags))
  unfolding read_on
  read_within h =
      let l = sound_limit (length frame) p s in
      let back : pos + n - n ≡ pos = omega arith in
      ap {B = Walk} (λ (x : ℕ). going (bits_at frame x n) (tallied (place_at p (pos + n)) tags)) back
      ∙ ap {B = Walk} (λ (x : Ran Place ℕ). record { outcome = x.outcome; state = tallied x.state tags })
      (sym (raw_inside frame (place_at p pos) n l.0 l.1 narrow h))

-- one tag more
pub tag_one : (v : ℕ) (p : Place) (n : ℕ) → going v (tallied p (n + 1)) ≡ tag_on (going v (tallied p n))
unfolding tag_on
tag_one v p n = refl

-- a mantissa with a gain, where q is the walk with its small one read
module _ (frame : List ℕ) (r : Walk) (s l : ℕ) (q : Walk) (e : q ≡ read_on frame s r) where
  pub gained_ends : {g : Grounds} → q.outcome ≡ refused g → q ≡ gained_on frame s l r
  unfolding gained_on
  gained_ends h = rw (← e, h)

  pub gained_tag : reads (λ v. eqb v (2 ^ (s - 1))) q ≡ true → tag_on (read_on frame l q) ≡ gained_on frame s l r
  unfolding gained_on
  gained_tag h = rw (← e, h)

  pub gained_small : reads (λ v. eqb v (2 ^ (s - 1))) q ≡ false → q ≡ gained_on frame s l r
  unfolding gained_on
  gained_small h = rw (← e, h)

-- 3. One turn of each loop.

-- a step that is made n times, where q is the walk after i times
module _ (step : Walk → Walk) (r : Walk) where
  pub times_none : r ≡ times 0 step r
  unfolding times
  times_none = refl

  pub times_again : (i : ℕ) (q w : Walk) → q ≡ times i step r → w ≡ step q → w ≡ times (i + 1) step r
  unfolding times
  times_again i q w e f = rw add-one (f ∙ ap step e)

  -- the next time it is refused, and so stays
  pub times_ends : (n i : ℕ) (q w : Walk) (g : Grounds) → i < n → q ≡ times i step r → w ≡ step q → Stays step → w.outcome ≡ refused g → w ≡ times n step r
  unfolding times
  times_ends zero i q w g l e f h x = absurd (omega arith)
  times_ends (suc n) i q w g l e f h x = go (dec_le (i + 1) n) (λ m. times_ends n i q w g m e f h x)
    where
      go : Dec (i + 1 ≤ n) → (i < n → w ≡ times n step r) → w ≡ step (times n step r)
      go (yes m) more = sym (h w g x) ∙ ap step (more (omega arith))
      go (no m) more = let same : i ≡ n = omega arith in f ∙ ap step (e ∙ ap (λ k. times k step r) same)

-- another step that does the same
pub times_alike : (n : ℕ) (step step' : Walk → Walk) → ((q : Walk) → step q ≡ step' q) → (r : Walk) → times n step r ≡ times n step' r
unfolding times
times_alike zero step step' h r = refl
times_alike (suc n) step step' h r = ap step (times_alike n step step' h r) ∙ h (times n step' r)

-- a mantissa by its gain
module _ (frame : List ℕ) (m gain : ℕ) where
  pub mantissa_plain : gain ≡ 1 → (r : Walk) → read_on frame m r ≡ mantissa_on frame m gain r
  unfolding mantissa_on
  mantissa_plain e r = rw (eq-eqb gain 1 e)

  pub mantissa_two : gain ≡ 2 → (r : Walk) → gained_on frame (m - 1) (m - 1) r ≡ mantissa_on frame m gain r
  unfolding mantissa_on
  mantissa_two e r = rw e

  pub mantissa_four : (gain ≡ 1 → ⊥) → (gain ≡ 2 → ⊥) → (r : Walk) → gained_on frame (m - 2) m r ≡ mantissa_on frame m gain r
  unfolding mantissa_on
  mantissa_four z y r = rw (ne_eqb gain 1 z, ne_eqb gain 2 y)

-- the active bins are those that pass a test
pub count_is : (mode : ℕ) (hs : List ℕ) → count_active mode hs ≡ count_by (is_active mode) hs
unfolding count_active
count_is mode [] = refl
count_is mode (h ∷ hs) =
    ap (λ n. cond (is_active mode h) 1 0 + n) (count_is mode hs) ∙ sym (sum_by-cons (λ x. cond (is_active mode x) 1 0) h hs)

module _ (hebap : List ℕ) (i : ℕ) (below : i < length hebap) where
  pub count_turn : (mode : ℕ)
      → count_active mode (drop i hebap) ≡ cond (is_active mode (get_or hebap i 0)) 1 0 + count_active mode (drop (i + 1) hebap)
  unfolding count_active
  count_turn mode = rw (add-one, drop-cons hebap i 0)

  pub walk_turn : (frame : List ℕ) (mode base k : ℕ) (r : Walk)
      → walk_on frame mode base k (drop i hebap) r
      ≡ walk_on frame mode base (k + cond (is_active mode (get_or hebap i 0)) 1 0) (drop (i + 1) hebap) (bin_on frame mode base k (get_or hebap i 0) r)
  unfolding walk_on
  walk_turn frame mode base k r = rw (add-one, drop-cons hebap i 0)

-- a bin by the same gains
pub bin_alike : (frame : List ℕ) (h k : ℕ) (r : Walk) {mode mode' base base' : ℕ} → mode ≡ mode' → base ≡ base'
    → bin_on frame mode base k h r ≡ bin_on frame mode' base' k h r
bin_alike frame h k r e f = λ i. bin_on frame (e i) (f i) k h r

pub walk_none : (hebap : List ℕ) (i : ℕ) (frame : List ℕ) (mode base k : ℕ) (r : Walk) → length hebap ≤ i
    → walk_on frame mode base k (drop i hebap) r ≡ r
unfolding walk_on
walk_none hebap i frame mode base k r h = rw (drop_of_length-le hebap h)

-- a count goes up by one at most
pub one_more : (t : Bool) → cond t 1 0 ≤ 1
one_more true = omega arith
one_more false = omega arith

-- 4. The gain words lie inside the frame.

-- fewer active bins have no more words
pub inside_less : (mode base i j len : ℕ) → i ≤ j → base + gain_bits mode j ≤ len → base + gain_bits mode i ≤ len
inside_less mode base i j len h = go (eqb mode 0) (eqb mode 3)
  where
    go : (t u : Bool) → base + cond t 0 (cond u ((j + 2) / 3) j) * cond u 5 1 ≤ len → base + cond t 0 (cond u ((i + 2) / 3) i) * cond u 5 1 ≤ len
    go true true l = omega arith
    go true false l = omega arith
    go false true l = omega arith
    go false false l = omega arith

-- one word more
pub word_more : (pos i mode at next : ℕ) → at ≡ pos + i * word_width mode → next ≡ at + word_width mode → next ≡ pos + (i + 1) * word_width mode
word_more pos i mode at next e f = go (word_width mode) e f
  where
    go : (w : ℕ) → at ≡ pos + i * w → next ≡ at + w → next ≡ pos + (i + 1) * w
    go w e f = grind arith

-- 5. gaqmod, and what follows it.

-- where q is the walk with all gain words read
module _ (frame hs : List ℕ) (r : Walk) (mode : ℕ) (q : Walk) (e : q ≡ times (sections mode (count_active mode hs)) (word_on frame mode) r) where
  pub words_end : {g : Grounds} → q.outcome ≡ refused g → q ≡ bins_on frame mode hs r
  unfolding bins_on
  words_end h = run_stays _ e h

  pub words_on : {v : ℕ} → q.outcome ≡ taken v → walk_on frame mode r.state.place.pos 0 hs q ≡ bins_on frame mode hs r
  unfolding bins_on
  words_on h = ap {A = Outcome ℕ} (λ o. walk_on frame mode r.state.place.pos 0 hs (record { outcome = o; state = q.state })) h ∙ run_on _ e h

pub mode_stays : (frame hs : List ℕ) → Stays (mode_on frame hs)
unfolding mode_on
mode_stays frame hs r g e = sym (run_stays _ refl e)

pub mode_here : (frame hs : List ℕ) (v : ℕ) (s : Tallied) → bins_on frame v hs (going v s) ≡ mode_on frame hs (going v s)
unfolding mode_on
mode_here frame hs v s = refl

-- gaqmod is two bits
pub mode_below : (frame : List ℕ) (pos n : ℕ) → n ≡ 2 → bits_at frame pos n < 4
mode_below frame pos n e = rw e (bits_at_lt frame pos 2)

-- 6. The whole.

-- a walk that has read nothing
pub begun_is : (frame : List ℕ) (p : Place) → going (bits_at frame (p.pos - 0) 0) (tallied (place_at p p.pos) 0) ≡ begun p
begun_is frame p = ap (λ (v : ℕ). going v (tallied p 0)) (bits_at_zero frame (p.pos - 0))

module _ (frame : List ℕ) (place : Place) (hebap : List ℕ) (start end : ℕ) where
  pub aht_unfit : unfit_aht (length frame) place start end ≡ true → told (refuse_on 6 (begun place)) ≡ aht_of frame place hebap start end
  unfolding aht_of
  aht_unfit e = rw e

  pub aht_fit : unfit_aht (length frame) place start end ≡ false
      → told (mode_on frame (slice start end hebap) (read_on frame 2 (begun place))) ≡ aht_of frame place hebap start end
  unfolding aht_of
  aht_fit e = rw e
