-- The AHT walk of one channel (TS E.2.4.2, E.2.4.4; document 01, "Walks"), for all inputs, by document 01's numbers and its order:
-- gaqmod, the gain words, and the mantissas of all six blocks bin by bin. Each step is made on the walk so far; a walk that is refused
-- stays where it stands.
-- Assumes nothing.
use Rattle.std.specs.Prelude.{ℕ, zero, suc, ◌+◌, ◌-◌, ◌*◌, ◌/◌, ◌%◌, ◌^◌, Bool, false, cond, ◌&&◌, ◌||◌, List, [], ◌∷◌, length, get_or, eqb, ltb}
use Rattle.std.proofs.Math.Seq.{slice}
use Rattle.refusal.specs.Refusals.{Outcome, taken, refused, grounds, and_then, Ran, then_run}
use Rattle.bits.specs.Bits.{bits_at}
use Rattle.syntax.specs.declared.Place.{Place}
use Rattle.syntax.specs.Reads.{unsound, raw_of}
use Rattle.walks.specs.Walk.{unfit_range}

-- where a walk stands: the cursor's place, and the tags that it met
pub record Tallied : Type 0 where
  pub place : Place
  pub tags : ℕ

abbrev pub tallied : Place → ℕ → Tallied
tallied p n = record { place = p; tags = n }

-- a walk so far: what it read last, or its refusal, and where it stands
abbrev pub Walk : Type 0
Walk = Ran Tallied ℕ

-- a walk that read v last
abbrev pub going : ℕ → Tallied → Walk
going v s = record { outcome = taken v; state = s }

-- 1. Steps.

-- n bits are read: 1 past the limit
unfoldable pub read_on : List ℕ → ℕ → Walk → Walk
read_on frame n r =
    then_run r (λ _ s.
    record { outcome = (raw_of frame s.place n).outcome; state = tallied (raw_of frame s.place n).state s.tags })

-- number k at the cursor's bit
unfoldable pub refuse_on : ℕ → Walk → Walk
refuse_on k r = then_run r (λ _ s. record { outcome = refused (grounds k s.place.pos); state = s })

-- one tag more
unfoldable pub tag_on : Walk → Walk
tag_on r = then_run r (λ v s. going v (tallied s.place (s.tags + 1)))

-- a test of what was read last
abbrev pub passes : (ℕ → Bool) → Outcome ℕ → Bool
passes test (taken v) = test v
passes test (refused g) = false

abbrev pub reads : (ℕ → Bool) → Walk → Bool
reads test r = passes test r.outcome

-- a step that is made n times
unfoldable pub times : ℕ → (Walk → Walk) → Walk → Walk
times zero step r = r
times (suc n) step r = step (times n step r)

-- 2. One bin.

-- "hebap 1..7 cost 2, 3, 4, 5, 7, 8, 9"
abbrev pub vector_widths : List ℕ
vector_widths = 0 ∷ 2 ∷ 3 ∷ 4 ∷ 5 ∷ 7 ∷ 8 ∷ 9 ∷ []

unfoldable pub vector_width : ℕ → ℕ
vector_width h = get_or vector_widths h 0

-- "hebap 8..19 have m = 3, 4, 5, 6, 7, 8, 9, 10, 11, 12, 14, 16"
abbrev pub gaq_widths : List ℕ
gaq_widths = 3 ∷ 4 ∷ 5 ∷ 6 ∷ 7 ∷ 8 ∷ 9 ∷ 10 ∷ 11 ∷ 12 ∷ 14 ∷ 16 ∷ []

unfoldable pub gaq_width : ℕ → ℕ
gaq_width h = get_or gaq_widths (h - 8) 0

-- a small mantissa of s bits; "A tag is a small mantissa of top bit 1, rest 0": after it stands a large one of l bits
unfoldable pub gained_on : List ℕ → ℕ → ℕ → Walk → Walk
gained_on frame s l r =
    let q = read_on frame s r in
    cond (reads (λ v. eqb v (2 ^ (s - 1))) q) (tag_on (read_on frame l q)) q

-- a mantissa of width m: "m; G2: m-1, tag adds m-1; G4: m-2, tag adds m"
unfoldable pub mantissa_on : List ℕ → ℕ → ℕ → Walk → Walk
mantissa_on frame m gain r =
    cond (eqb gain 1) (read_on frame m r)
    (cond (eqb gain 2) (gained_on frame (m - 1) (m - 1) r)
    (gained_on frame (m - 2) m r))

-- "Active bins: hebap 8 to 11 (gaqmod 0, 1) or 8 to 16 (2, 3)"
abbrev pub is_active : ℕ → ℕ → Bool
is_active mode h = ltb 7 h && ltb h (cond (ltb mode 2) 12 17)

-- digit k of three in base 3, the highest first; "base-3 digits meaning 1, 2, 4"
abbrev pub digit : ℕ → ℕ → ℕ
digit v k = cond (eqb k 0) (v / 9) (cond (eqb k 1) (v % 9 / 3) (v % 3))

abbrev pub meant : ℕ → ℕ
meant d = cond (eqb d 0) 1 (cond (eqb d 1) 2 4)

-- the gain of active bin k: "Gains: none; 1 bit (G2); 1 bit (G4); 5 bits per started three", from bit base on
unfoldable pub gain_of : List ℕ → ℕ → ℕ → ℕ → ℕ
gain_of frame mode base k =
    cond (eqb mode 0) 1
    (cond (eqb mode 3) (meant (digit (bits_at frame (base + 5 * (k / 3)) 5) (k % 3)))
    (cond (eqb (bits_at frame (base + k) 1) 1) (2 * mode) 1))

-- the gain of a bin: 1 where it is not active
abbrev pub gain_at : List ℕ → ℕ → ℕ → ℕ → ℕ → ℕ
gain_at frame mode base k h = cond (is_active mode h) (gain_of frame mode base k) 1

-- a bin of hebap h, before which there are k active ones: nothing, a vector's index, 13, or "six times" a mantissa
unfoldable pub bin_on : List ℕ → ℕ → ℕ → ℕ → ℕ → Walk → Walk
bin_on frame mode base k h r =
    cond (eqb h 0) r
    (cond (ltb h 8) (read_on frame (vector_width h) r)
    (cond (ltb 19 h) (refuse_on 13 r)
    (times 6 (mantissa_on frame (gaq_width h) (gain_at frame mode base k h)) r)))

-- 3. The walk.

-- how many are active
unfoldable pub count_active : ℕ → List ℕ → ℕ
count_active mode [] = 0
count_active mode (h ∷ hs) = cond (is_active mode h) 1 0 + count_active mode hs

-- "Then bins in order"
unfoldable pub walk_on : List ℕ → ℕ → ℕ → ℕ → List ℕ → Walk → Walk
walk_on frame mode base k [] r = r
walk_on frame mode base k (h ∷ hs) r = walk_on frame mode base (k + cond (is_active mode h) 1 0) hs (bin_on frame mode base k h r)

-- how many gain words n active bins have
abbrev pub sections : ℕ → ℕ → ℕ
sections mode n = cond (eqb mode 0) 0 (cond (eqb mode 3) ((n + 2) / 3) n)

-- a composite gain of 5 bits: 14 above 26
unfoldable pub composite_on : List ℕ → Walk → Walk
composite_on frame r =
    let q = read_on frame 5 r in
    cond (reads (λ v. ltb 26 v) q) (refuse_on 14 q) q

-- a gain word
unfoldable pub word_on : List ℕ → ℕ → Walk → Walk
word_on frame mode r = cond (eqb mode 3) (composite_on frame r) (read_on frame 1 r)

-- all gain words, and then the bins, whose gains stand from where the words began
unfoldable pub bins_on : List ℕ → ℕ → List ℕ → Walk → Walk
bins_on frame mode hs r =
    then_run (times (sections mode (count_active mode hs)) (word_on frame mode) r) (λ v s. walk_on frame mode r.state.place.pos 0 hs (going v s))

-- after gaqmod was read
unfoldable pub mode_on : List ℕ → List ℕ → Walk → Walk
mode_on frame hs r = then_run r (λ mode s. bins_on frame mode hs (going mode s))

-- "The walk counts the large-mantissa tags it met": its answer
abbrev pub told : Walk → Ran Place ℕ
told r = record { outcome = and_then r.outcome (λ _. taken r.state.tags); state = r.state.place }

-- "Range: start ≤ end ≤ 256, else 6"
abbrev pub unfit_aht : ℕ → Place → ℕ → ℕ → Bool
unfit_aht len place start end = unsound len place || unfit_range start end

-- a walk that has read nothing
abbrev pub begun : Place → Walk
begun place = going 0 (tallied place 0)

-- the whole: 6, then "gaqmod 2 bits", and what follows it
unfoldable pub aht_of : List ℕ → Place → List ℕ → ℕ → ℕ → Ran Place ℕ
aht_of frame place hebap start end =
    told (cond (unfit_aht (length frame) place start end) (refuse_on 6 (begun place))
    (mode_on frame (slice start end hebap) (read_on frame 2 (begun place))))
