-- Reads and spans for the layers above: what is known after one that is taken, that a refused one leaves all as it was, which
-- refusals can come, and what holds after any of them. A caller's proof cites these and opens no definition.
-- Assumes nothing.
use Prim.Native.Nat.{ℕ, ◌+◌, ◌-◌, ◌*◌, ◌^◌, ◌≤◌, ◌<◌}
use mathlib.Core.Path.{◌≡◌, refl, sym, ap, ◌∙◌, subst}
use mathlib.Core.List.{List, [], ◌∷◌}
use mathlib.Core.Bool.{◌||◌}
use mathlib.Core.Logic.{◌⊎◌, inl, ⊎_elim}
use native.Mathlib.Omega.{arith}
use lib.ListN.{length, get_or}
use lib.Dec.{ltb}
use borrow.Author.Tests.{ltb-false, lt-ltb, le-ltb}
use Rattle.refusal.specs.Refusals.{Grounds, grounds, Outcome, taken, refused, and_then, Ran, settle}
use Rattle.refusal.proofs.Laws.{never, settle_stays, settle_moves, taken_same, past_test, past_then}
use Rattle.bits.specs.Bits.{bits_at}
use Rattle.bits.proofs.Laws.{bits_at_lt}
use Rattle.syntax.specs.declared.Element.{Element}
use Rattle.syntax.specs.declared.Role.{Role}
use Rattle.syntax.specs.declared.Place.{Place}
use Rattle.syntax.specs.declared.Ask.{Ask}
use Rattle.syntax.specs.Elements.{written}
use Rattle.syntax.specs.Reads.{Standing, room, unsound, fits, value_at, element_of, logged, read_of, ahead, raw_of, span_ask, span_of, closes, close_of, next_of}
use Rattle.refusal.proofs.TestLaws.{or_false}
use Rattle.syntax.proofs.Log.{length_written, written_before, written_after}
use Rattle.syntax.proofs.Tests.{sound_limit, limit_sound, Free, room_words, fits_free, free_fits, closes_free, free_closes, Told, told_first, fits_told, closes_told}
use Rattle.syntax.proofs.Ends.{read_on_lem, span_on, close_on, next_on, next_stays}

-- a settled call that was taken has moved, and one that was refused has not
module _ {S A : Type 0} (s s' : S) where
  settled : (o : Outcome A) {a : A} → (settle s s' o).outcome ≡ taken a → (o ≡ taken a) × ((settle s s' o).state ≡ s')
  settled (taken b) e = (e, refl)
  settled (refused g) e = never e

  stayed : (o : Outcome A) {g : Grounds} → (settle s s' o).outcome ≡ refused g → (o ≡ refused g) × ((settle s s' o).state ≡ s)
  stayed (taken b) e = never (sym e)
  stayed (refused g) e = (e, refl)

-- what holds where a call is refused, and where it is taken, holds after it
either_way : {S A : Type 0} (r : Ran S A) (P : S → Type 0)
    → ((g : Grounds) → r.outcome ≡ refused g → P r.state) → ((a : A) → r.outcome ≡ taken a → P r.state) → P r.state
either_way r P f t = go r.outcome refl
  where
    go : (o : Outcome _) → r.outcome ≡ o → P r.state
    go (taken a) e = t a e
    go (refused g) e = f g e

-- one element more, where there is room for it: the log's length stays
pub logged_length : (st : Standing) (e : Element) (next : ℕ) → 8 * st.place.count + 8 ≤ length st.log
    → length (logged st e next).log ≡ length st.log
logged_length st e next h = length_written st.log st.place.count e h

-- and so does every word that is not the element's
pub logged_others : (st : Standing) (e : Element) (next : ℕ) → 8 * st.place.count + 8 ≤ length st.log
    → (i : ℕ) → (i < 8 * st.place.count) ⊎ (8 * st.place.count + 8 ≤ i) → get_or (logged st e next).log i 0 ≡ get_or st.log i 0
logged_others st e next h i o =
    ⊎_elim (written_before st.log st.place.count e h i) (written_after st.log st.place.count e h i) o

-- what is left as it was by a call that logs at most one element: the log but for that element's words, limit and block
pub record Keeps (st st' : Standing) : Type 0 where
  pub len : length st'.log ≡ length st.log
  pub others : (i : ℕ) → (i < 8 * st.place.count) ⊎ (8 * st.place.count + 8 ≤ i) → get_or st'.log i 0 ≡ get_or st.log i 0
  pub limit : st'.place.limit ≡ st.place.limit
  pub block : st'.place.block ≡ st.place.block

keeps_all : (st : Standing) → Keeps st st
keeps_all st = record { len = refl; others = λ i o. refl; limit = refl; block = refl }

keeps_logged : (st : Standing) (e : Element) (next : ℕ) → 8 * st.place.count + 8 ≤ length st.log → Keeps st (logged st e next)
keeps_logged st e next h = record { len = logged_length st e next h; others = logged_others st e next h; limit = refl; block = refl }

-- the count is within the room
abbrev pub Roomy : Standing → Type 0
Roomy st = st.place.count ≤ room (length st.log)

-- and with one element more, where there was room for it
pub room_on : (log : List ℕ) (k : ℕ) (e : Element) → k < room (length log) → k + 1 ≤ room (length (written log k e))
room_on log k e h = rw (length_written log k e (room_words (length log) k h).1) (omega arith)

-- a read that was taken
pub record ReadTaken (frame : List ℕ) (st : Standing) (a : Ask) (v : ℕ) : Type 0 where
  pub free : Free (length frame) (length st.log) st.place st.place.pos (st.place.pos + a.width)
  pub narrow : a.width ≤ 32
  pub value : v ≡ bits_at frame st.place.pos a.width
  pub below : v < 2 ^ a.width
  pub after : (read_of frame st a).state ≡ logged st (element_of st.place st.place.pos a v) (st.place.pos + a.width)

module _ (frame : List ℕ) (st : Standing) (a : Ask) where
  abbrev bits : ℕ
  bits = bits_at frame st.place.pos a.width

  abbrev tests : Outcome Unit
  tests = fits (length frame) (length st.log) st.place a.width

  pub read_taken : (v : ℕ) → (read_of frame st a).outcome ≡ taken v → ReadTaken frame st a v
  unfolding read_of
  read_taken v e =
      let s = settled st (logged st (element_of st.place st.place.pos a bits) (st.place.pos + a.width)) _ e in
      let n = past_test (ltb 32 a.width) _ _ s.0 in
      let t = past_then tests (λ _. taken bits) n.1 in
      let x = sym (taken_same t.2) in
      record {
        free = fits_free (length frame) (length st.log) st.place a.width t.1;
        narrow = ltb-false 32 a.width n.0;
        value = x;
        below = rw x (bits_at_lt frame st.place.pos a.width);
        after = rw x s.1;
      }

  -- a refused one leaves all as it was, and tells 6, 1 or 19 at the cursor's bit
  pub read_refused : (g : Grounds) → (read_of frame st a).outcome ≡ refused g → ((read_of frame st a).state ≡ st) × Told (6 ∷ 1 ∷ 19 ∷ []) st.place.pos g
  unfolding read_of
  read_refused g e =
      let s = stayed st (logged st (element_of st.place st.place.pos a bits) (st.place.pos + a.width)) _ e in
      (s.1, told_first (6 ∷ 1 ∷ 19 ∷ []) (ltb 32 a.width) _ _ s.0 (inl refl) (λ n. by tests refl n))
    where
      by : (o : Outcome Unit) → o ≡ tests → and_then o (λ _. taken bits) ≡ refused g → Told (6 ∷ 1 ∷ 19 ∷ []) st.place.pos g
      by (taken u) p q = never (sym q)
      by (refused h) p q = fits_told (length frame) (length st.log) st.place a.width (sym p ∙ cc)

  -- a read by its value, taken or refused
  module _ (v : ℕ) (e : value_at frame (length st.log) st.place a.width ≡ taken v) where
    told_outcome : (read_of frame st a).outcome ≡ taken v
    unfolding read_of
    told_outcome =
        ap (λ (r : Ran Standing ℕ). r.outcome)
        (settle_moves st (logged st (element_of st.place st.place.pos a bits) (st.place.pos + a.width)) (value_at frame (length st.log) st.place a.width) e)

    pub read_told : ReadTaken frame st a v
    read_told = read_taken v told_outcome

    pub read_moves : ◌≡◌ {A = Ran Standing ℕ}
        (record { outcome = taken v; state = logged st (element_of st.place st.place.pos a v) (st.place.pos + a.width) }) (read_of frame st a)
    read_moves = λ i. record { outcome = sym told_outcome i; state = sym read_told.after i }

  pub read_halts : {g : Grounds} → value_at frame (length st.log) st.place a.width ≡ refused g
      → ◌≡◌ {A = Ran Standing ℕ} (record { outcome = refused g; state = st }) (read_of frame st a)
  unfolding read_of
  read_halts e = sym (settle_stays st _ (value_at frame (length st.log) st.place a.width) e)

  -- a narrow one with room to the limit and in the log is taken
  pub read_inside : a.width ≤ 32 → Free (length frame) (length st.log) st.place st.place.pos (st.place.pos + a.width)
      → read_of frame st a ≡ record { outcome = taken bits; state = logged st (element_of st.place st.place.pos a bits) (st.place.pos + a.width) }
  read_inside n f = sym (read_on_lem frame st a n bits refl (free_fits (length frame) (length st.log) st.place a.width f))

  -- whatever holds of the standing, and of it with the element logged, holds after a read
  pub read_either : (P : Standing → Type 0) → P st
      → ((v : ℕ) → ReadTaken frame st a v → P (logged st (element_of st.place st.place.pos a v) (st.place.pos + a.width)))
      → P (read_of frame st a).state
  read_either P s t =
      either_way (read_of frame st a) P
      (λ g e. subst P (sym (read_refused g e).0) s)
      (λ v e. let r = read_taken v e in subst P (sym r.after) (t v r))

  pub read_room : Roomy st → Roomy (read_of frame st a).state
  read_room h = read_either Roomy h (λ v t. room_on st.log st.place.count _ t.free.room_left)

  pub read_keeps : Keeps st (read_of frame st a).state
  read_keeps =
      read_either (Keeps st) (keeps_all st)
      (λ v t. keeps_logged st _ _ (room_words (length st.log) st.place.count t.free.room_left).1)

-- a raw read that was taken
pub record RawTaken (frame : List ℕ) (p : Place) (width v : ℕ) : Type 0 where
  pub short : p.limit ≤ 32768
  pub held : p.limit ≤ 8 * length frame
  pub narrow : width ≤ 32
  pub within : p.pos + width ≤ p.limit
  pub value : v ≡ bits_at frame p.pos width
  pub below : v < 2 ^ width
  pub after : (raw_of frame p width).state ≡ ahead p width

module _ (frame : List ℕ) (p : Place) (width : ℕ) where
  pub raw_taken : (v : ℕ) → (raw_of frame p width).outcome ≡ taken v → RawTaken frame p width v
  unfolding raw_of
  raw_taken v e =
      let s = settled p (ahead p width) _ e in
      let a = past_test (unsound (length frame) p || ltb 32 width) _ _ s.0 in
      let b = past_test (ltb p.limit (p.pos + width)) _ _ a.1 in
      let u = or_false (unsound (length frame) p) _ a.0 in
      let l = sound_limit (length frame) p u.0 in
      let x = sym (taken_same b.1) in
      record {
        short = l.0;
        held = l.1;
        narrow = ltb-false 32 width u.1;
        within = ltb-false p.limit (p.pos + width) b.0;
        value = x;
        below = rw x (bits_at_lt frame p.pos width);
        after = s.1;
      }

  -- a narrow one with room to the limit is taken
  pub raw_inside : p.limit ≤ 32768 → p.limit ≤ 8 * length frame → width ≤ 32 → p.pos + width ≤ p.limit
      → raw_of frame p width ≡ record { outcome = taken (bits_at frame p.pos width); state = ahead p width }
  unfolding raw_of
  raw_inside s h n w = simp (limit_sound (length frame) p s h, le-ltb 32 width n, le-ltb p.limit (p.pos + width) w)

  -- one that passes the limit is refused
  pub raw_past : p.limit ≤ 32768 → p.limit ≤ 8 * length frame → width ≤ 32 → p.limit < p.pos + width
      → raw_of frame p width ≡ record { outcome = refused (grounds 1 p.pos); state = p }
  unfolding raw_of
  raw_past s h n w = simp (limit_sound (length frame) p s h, le-ltb 32 width n, lt-ltb p.limit (p.pos + width) w)

-- a span, from the cursor on
module _ (len : ℕ) (st : Standing) (name : ℕ) (role : Role) (width : ℕ) where
  abbrev span_after : Standing
  span_after = logged st (element_of st.place st.place.pos (span_ask name role width) 0) (st.place.pos + width)

  -- one that was taken
  pub span_taken : (span_of len st name role width).outcome ≡ taken tt
      → Free len (length st.log) st.place st.place.pos (st.place.pos + width) × ((span_of len st name role width).state ≡ span_after)
  unfolding span_of
  span_taken e =
      let s = settled st span_after (fits len (length st.log) st.place width) e in
      (fits_free len (length st.log) st.place width s.0, s.1)

  -- a refused one leaves all as it was, and tells 6, 1 or 19 at the cursor's bit
  pub span_refused : (g : Grounds) → (span_of len st name role width).outcome ≡ refused g
      → ((span_of len st name role width).state ≡ st) × Told (6 ∷ 1 ∷ 19 ∷ []) st.place.pos g
  unfolding span_of
  span_refused g e =
      let s = stayed st span_after (fits len (length st.log) st.place width) e in
      (s.1, fits_told len (length st.log) st.place width s.0)

  -- one with room to the limit and in the log is taken
  pub span_inside : Free len (length st.log) st.place st.place.pos (st.place.pos + width)
      → span_of len st name role width ≡ record { outcome = taken tt; state = span_after }
  span_inside f = sym (span_on len st name role width (free_fits len (length st.log) st.place width f))

  pub span_either : (P : Standing → Type 0) → P st
      → (Free len (length st.log) st.place st.place.pos (st.place.pos + width) → P span_after) → P (span_of len st name role width).state
  span_either P s t =
      either_way (span_of len st name role width) P
      (λ g e. subst P (sym (span_refused g e).0) s)
      (λ u e. let r = span_taken e in subst P (sym r.1) (t r.0))

  pub span_keeps : Keeps st (span_of len st name role width).state
  span_keeps =
      span_either (Keeps st) (keeps_all st)
      (λ f. keeps_logged st _ _ (room_words (length st.log) st.place.count f.room_left).1)

-- a span that is closed at the cursor, which stays
module _ (len : ℕ) (st : Standing) (name : ℕ) (role : Role) (start : ℕ) where
  abbrev close_after : Standing
  close_after = logged st (element_of st.place start (span_ask name role (st.place.pos - start)) 0) st.place.pos

  -- one that was taken
  pub close_taken : (close_of len st name role start).outcome ≡ taken tt
      → Free len (length st.log) st.place start st.place.pos × ((close_of len st name role start).state ≡ close_after)
  unfolding close_of
  close_taken e =
      let s = settled st close_after (closes len (length st.log) st.place start) e in
      (closes_free len (length st.log) st.place start s.0, s.1)

  -- a refused one leaves all as it was, and tells 6 or 19 at the cursor's bit
  pub close_refused : (g : Grounds) → (close_of len st name role start).outcome ≡ refused g
      → ((close_of len st name role start).state ≡ st) × Told (6 ∷ 19 ∷ []) st.place.pos g
  unfolding close_of
  close_refused g e =
      let s = stayed st close_after (closes len (length st.log) st.place start) e in
      (s.1, closes_told len (length st.log) st.place start s.0)

  -- one between start and limit with room in the log is taken
  pub close_inside : Free len (length st.log) st.place start st.place.pos
      → close_of len st name role start ≡ record { outcome = taken tt; state = close_after }
  close_inside f = sym (close_on len st name role start st.place.pos refl (free_closes len (length st.log) st.place start f))

  pub close_either : (P : Standing → Type 0) → P st
      → (Free len (length st.log) st.place start st.place.pos → P close_after) → P (close_of len st name role start).state
  close_either P s t =
      either_way (close_of len st name role start) P
      (λ g e. subst P (sym (close_refused g e).0) s)
      (λ u e. let r = close_taken e in subst P (sym r.1) (t r.0))

  -- the length of the bytes counts for the cursor's soundness alone
  pub close_alike : (len' : ℕ) → unsound len' st.place ≡ unsound len st.place → close_of len' st name role start ≡ close_of len st name role start
  unfolding close_of closes
  close_alike len' e = rw e

  pub close_keeps : Keeps st (close_of len st name role start).state
  close_keeps =
      close_either (Keeps st) (keeps_all st)
      (λ f. keeps_logged st _ _ (room_words (length st.log) st.place.count f.room_left).1)

-- the sticky reader: where it is taken, so was the one before it, and the read from there
module _ (frame : List ℕ) (a : Ask) (r : Ran Standing ℕ) where
  pub next_taken : (v : ℕ) → (next_of frame a r).outcome ≡ taken v
      → (u : ℕ) × (r.outcome ≡ taken u) × (next_of frame a r ≡ read_of frame r.state a) × ReadTaken frame r.state a v
  next_taken v e = go r.outcome refl
    where
      go : (o : Outcome ℕ) → r.outcome ≡ o
          → (u : ℕ) × (r.outcome ≡ taken u) × (next_of frame a r ≡ read_of frame r.state a) × ReadTaken frame r.state a v
      go (taken u) h = let n = next_on frame a r h in (u, h, n, read_taken frame r.state a v (ap (λ w. w.outcome) (sym n) ∙ e))
      go (refused g) h = never (sym h ∙ ap (λ w. w.outcome) (sym (next_stays frame a r h)) ∙ e)

  pub next_either : (P : Standing → Type 0) → P r.state
      → ((v : ℕ) → ReadTaken frame r.state a v
      → P (logged r.state (element_of r.state.place r.state.place.pos a v) (r.state.place.pos + a.width)))
      → P (next_of frame a r).state
  next_either P s t = go r.outcome refl
    where
      go : (o : Outcome ℕ) → r.outcome ≡ o → P (next_of frame a r).state
      go (taken u) h = subst (λ (w : Ran Standing ℕ). P w.state) (sym (next_on frame a r h)) (read_either frame r.state a P s t)
      go (refused g) h = subst (λ (w : Ran Standing ℕ). P w.state) (sym (next_stays frame a r h)) s

  pub next_keeps : Keeps r.state (next_of frame a r).state
  next_keeps =
      next_either (Keeps r.state) (keeps_all r.state)
      (λ v t. keeps_logged r.state _ _ (room_words (length r.state.log) r.state.place.count t.free.room_left).1)
