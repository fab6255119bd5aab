-- Laws of side information: the cases of a delta code, what reading a slot's segments at a cursor comes to, and what a call over them comes to in
-- the state that holds them.
-- Assumes nothing.
use Prim.Native.Nat.{ℕ, zero, suc, ◌+◌, ◌-◌, ◌^◌, ◌<◌, ◌≤◌}
use mathlib.Core.Path.{◌≡◌, refl, sym, ap, ◌∙◌}
use mathlib.Core.List.{List}
use mathlib.Core.Bool.{Bool}
use native.Mathlib.Omega.{arith}
use native.Mathlib.Numerals.{add-one}
use lib.Seq.{set-get_or}
use borrow.Author.Tests.{lt-ltb, le-ltb}
use Rattle.refusal.specs.Refusals.{Grounds, Outcome, taken, refused, grounds, and_then, Ran, leaves, follow, then_run}
use Rattle.refusal.proofs.Laws.{run_stays}
use Rattle.tables.specs.declared.Delta.{Delta}
use Rattle.syntax.specs.declared.Ask.{Ask}
use Rattle.syntax.specs.declared.cursor.Cursor.{Cursor}
use Rattle.syntax.specs.Reads.{Standing, standing, read_of}
use Rattle.syntax.specs.Cursors.{Held, held_of, over, read_at}
use Rattle.syntax.proofs.ReadLaws.{read_taken}
use Rattle.blocks.specs.declared.AllocState.{AllocState}
use Rattle.blocks.specs.Block.{no_delta, segments_at}
use Rattle.blocks.specs.Side.{with_deltas, with_delta, deltbae_of, delta_code_of, nseg_ask, offst_ask, len_ask, ba_ask, with_segment, reached, segment_of, segments_of, delta_of, slot_delta_of, read_delta_of, Settled, settled, settled_of}
use Rattle.blocks.proofs.Held.{held_stops, held_on}

module _ (frame : List ℕ) (slot : ℕ) where
  -- a segment's last element, with what was read before it, and its last two
  abbrev pub third : Delta → ℕ → ℕ → Standing → Ran Standing Delta
  third d o l st = then_run (read_of frame st (ba_ask slot)) (λ b st₁. reached (with_segment d o l b) st₁)

  abbrev pub second : Delta → ℕ → Standing → Ran Standing Delta
  second d o st = then_run (read_of frame st (len_ask slot)) (third d o)

  -- one turn: one segment more
  pub segments_again : (k : ℕ) (r : Ran Standing Delta) → then_run (segments_of frame slot k r) (λ d st. segment_of frame slot d st) ≡ segments_of frame slot (k + 1) r
  unfolding segments_of
  segments_again k r = rw add-one refl

  -- after a refusal nothing more is read
  pub segments_stop : (k m : ℕ) (r : Ran Standing Delta) {g : Grounds} → (segments_of frame slot k r).outcome ≡ refused g
      → segments_of frame slot k r ≡ segments_of frame slot (k + m) r
  segments_stop k zero r e = ap (λ (n : ℕ). segments_of frame slot n r) (let p : k ≡ k + 0 = omega arith in p)
  segments_stop k (suc m) r e =
      let s = segments_stop k m r e in
      s
      ∙ run_stays (λ d st. segment_of frame slot d st) refl (ap (λ (x : Ran Standing Delta). x.outcome) (sym s) ∙ e)
      ∙ segments_again (k + m) r
      ∙ ap (λ (n : ℕ). segments_of frame slot n r) (let p : k + m + 1 ≡ k + suc m = omega arith in p)

-- what a cursor reads has its bits
pub read_below : (c₀ : Cursor) (log₀ : List ℕ) (a : Ask) {v : ℕ} {c : Cursor} {log : List ℕ} → held_of (taken v) c log ≡ read_at c₀ log₀ a → v < 2 ^ a.width
read_below c₀ log₀ a {v} e =
    (read_taken c₀.bytes.now (standing c₀.place log₀) a v (sym (ap (λ (h : Ran Held ℕ). h.outcome) e))).below

-- reading a segment at a cursor: its offset, its length, its value
module _ (slot : ℕ) (d : Delta) (c₀ : Cursor) (log₀ : List ℕ) where
  abbrev all : Ran Held Delta
  all = over c₀ (segment_of c₀.bytes.now slot d (standing c₀.place log₀))

  abbrev first : Ran Standing ℕ
  first = read_of c₀.bytes.now (standing c₀.place log₀) (offst_ask slot)

  module _ {c : Cursor} {log : List ℕ} where
    pub offset_stops : {x : Grounds} → held_of {A = ℕ} (refused x) c log ≡ over c₀ first → held_of {A = Delta} (refused x) c log ≡ all
    unfolding segment_of
    offset_stops e = held_stops c₀ first (λ frame. second frame slot d) e

    module _ {o : ℕ} (e : held_of (taken o) c log ≡ over c₀ first) where
      abbrev middle : Ran Standing ℕ
      middle = read_of c.bytes.now (standing c.place log) (len_ask slot)

      to_second : over c (then_run middle (third c.bytes.now slot d o)) ≡ all
      unfolding segment_of
      to_second = held_on c₀ first (λ frame. second frame slot d) e

      module _ {c₁ : Cursor} {log₁ : List ℕ} where
        pub len_stops : {x : Grounds} → held_of {A = ℕ} (refused x) c₁ log₁ ≡ over c middle → held_of {A = Delta} (refused x) c₁ log₁ ≡ all
        len_stops f = held_stops c middle (λ frame. third frame slot d o) f ∙ to_second

        module _ {l : ℕ} (f : held_of (taken l) c₁ log₁ ≡ over c middle) where
          abbrev last : Ran Standing ℕ
          last = read_of c₁.bytes.now (standing c₁.place log₁) (ba_ask slot)

          abbrev put : ℕ → Standing → Ran Standing Delta
          put b st = reached (with_segment d o l b) st

          to_third : over c₁ (then_run last put) ≡ all
          to_third = held_on c middle (λ frame. third frame slot d o) f ∙ to_second

          module _ {c₂ : Cursor} {log₂ : List ℕ} where
            pub ba_stops : {x : Grounds} → held_of {A = ℕ} (refused x) c₂ log₂ ≡ over c₁ last → held_of {A = Delta} (refused x) c₂ log₂ ≡ all
            ba_stops h = held_stops c₁ last (λ _. put) h ∙ to_third

            pub segment_read : {b : ℕ} → held_of (taken b) c₂ log₂ ≡ over c₁ last → {e : Delta} → e ≡ with_segment d o l b → held_of (taken e) c₂ log₂ ≡ all
            segment_read h p = ap (λ (x : Delta). held_of (taken x) c₂ log₂) p ∙ held_on c₁ last (λ _. put) h ∙ to_third

-- a turn of the loop over the segments, taken or refused
module _ (slot i : ℕ) (c₀ : Cursor) (r : Ran Standing Delta) {d : Delta} {c c' : Cursor} {log log' : List ℕ}
    (so_far : held_of (taken d) c log ≡ over c₀ (segments_of c₀.bytes.now slot i r)) where
  pub segments_turn : {o : Outcome Delta} → held_of o c' log' ≡ over c (segment_of c.bytes.now slot d (standing c.place log))
      → held_of o c' log' ≡ over c₀ (segments_of c₀.bytes.now slot (i + 1) r)
  segments_turn e =
      e
      ∙ held_on c₀ (segments_of c₀.bytes.now slot i r) (λ frame x. segment_of frame slot x) so_far
      ∙ ap (over c₀) (segments_again c₀.bytes.now slot i r)

  pub segments_halt : {x : Grounds} → held_of (refused x) c' log' ≡ over c (segment_of c.bytes.now slot d (standing c.place log))
      → {n : ℕ} → i + 1 ≤ n → held_of (refused x) c' log' ≡ over c₀ (segments_of c₀.bytes.now slot n r)
  segments_halt {x} e {n} k =
      let t = segments_turn e in
      let s : (segments_of c₀.bytes.now slot (i + 1) r).outcome ≡ refused x = sym (ap (λ (q : Ran Held Delta). q.outcome) t) in
      let p : i + 1 + (n - (i + 1)) ≡ n = omega (arith, k) in
      t ∙ ap (over c₀) (segments_stop c₀.bytes.now slot (i + 1) (n - (i + 1)) r s)
      ∙ ap (λ (m : ℕ). over c₀ (segments_of c₀.bytes.now slot m r)) p

-- reading a slot's segments at a cursor: 6, or deltnseg and the segments that it announces
module _ (slot : ℕ) (c₀ : Cursor) (log₀ : List ℕ) where
  abbrev whole : Ran Held Delta
  whole = over c₀ (slot_delta_of c₀.bytes.now (standing c₀.place log₀) slot)

  abbrev announced : Ran Standing ℕ
  announced = read_of c₀.bytes.now (standing c₀.place log₀) (nseg_ask slot)

  abbrev announces : List ℕ → ℕ → Standing → Ran Standing Delta
  announces frame n st = segments_of frame slot (n + 1) (reached no_delta st)

  pub delta_6 : 6 < slot → held_of {A = Delta} (refused (grounds 6 c₀.place.pos)) c₀ log₀ ≡ whole
  unfolding slot_delta_of
  delta_6 h = rw (lt-ltb 6 slot h)

  to_delta : slot ≤ 6 → over c₀ (then_run announced (announces c₀.bytes.now)) ≡ whole
  unfolding slot_delta_of delta_of
  to_delta h = rw (le-ltb 6 slot h)

  module _ (h : slot ≤ 6) {c : Cursor} {log : List ℕ} where
    pub nseg_stops : {x : Grounds} → held_of {A = ℕ} (refused x) c log ≡ over c₀ announced → held_of {A = Delta} (refused x) c log ≡ whole
    nseg_stops e = held_stops c₀ announced announces e ∙ to_delta h

    pub nseg_on : {n : ℕ} → held_of (taken n) c log ≡ over c₀ announced → over c (announces c.bytes.now n (standing c.place log)) ≡ whole
    nseg_on e = held_on c₀ announced announces e ∙ to_delta h

-- a call over a slot's segments, in the state that holds them: the slot has what the call leaves, and a refused call leaves all as it was
module _ (st : AllocState) (slot : ℕ) where
  -- the state with a slot's segments put back
  with_same : with_delta st slot (segments_at st slot) ≡ st
  with_same = ap (λ (ds : List Delta). with_deltas st ds) (set-get_or st.delta slot no_delta)

  pub code_in : (code : ℕ) (block0 : Bool) (r : Ran Delta Unit) → r ≡ leaves (segments_at st slot) (deltbae_of (segments_at st slot) slot code block0)
      → ◌≡◌ {A = Ran AllocState Unit} (record { outcome = r.outcome; state = with_delta st slot r.state }) (delta_code_of st slot code block0)
  unfolding delta_code_of
  code_in code block0 r e =
      ap (λ (x : Ran Delta Unit). record { outcome = x.outcome; state = with_delta st slot x.state }) e
      ∙ go (deltbae_of (segments_at st slot) slot code block0)
    where
      go : (o : Outcome Delta) → ◌≡◌ {A = Ran AllocState Unit}
          (record { outcome = (leaves (segments_at st slot) o).outcome; state = with_delta st slot (leaves (segments_at st slot) o).state })
          (leaves st (and_then o (λ d. taken (with_delta st slot d))))
      go (taken d) = refl
      go (refused g) = λ i. record { outcome = refused g; state = with_same i }

  pub read_in : (frame : List ℕ) (s : Standing) (r : Ran (Settled Delta) Unit) → r ≡ settled_of (segments_at st slot) (slot_delta_of frame s slot)
      → ◌≡◌ {A = Ran (Settled AllocState) Unit}
      (record { outcome = r.outcome; state = settled r.state.standing (with_delta st slot r.state.state) })
      (read_delta_of frame s st slot)
  unfolding read_delta_of
  read_in frame s r e =
      ap (λ (x : Ran (Settled Delta) Unit). record { outcome = x.outcome; state = settled x.state.standing (with_delta st slot x.state.state) }) e
      ∙ go (slot_delta_of frame s slot).outcome (slot_delta_of frame s slot).state
    where
      go : (o : Outcome Delta) (after : Standing) → ◌≡◌ {A = Ran (Settled AllocState) Unit}
          (record { outcome = (leaves (segments_at st slot) o).outcome; state = settled after (with_delta st slot (leaves (segments_at st slot) o).state) })
          (settled_of st (follow o after (λ d st₁. reached (with_delta st slot d) st₁)))
      go (taken d) after = refl
      go (refused g) after = λ i. record { outcome = refused g; state = settled after (with_same i) }
