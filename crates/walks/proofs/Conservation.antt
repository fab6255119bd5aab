-- Bits are conserved: any row of mantissa walks ends exactly where counting says. The theorem is `conserved`, at the end, over the
-- definitions that the contracts of `conventional` and of `syntax::close_span` cite.
-- Assumes nothing.
use Prim.Native.Nat.{ℕ, ◌+◌, ◌-◌, ◌≤◌}
use mathlib.Core.Path.{◌≡◌, refl, sym, ◌∙◌, ap, subst}
use mathlib.Core.Logic.{◌↔◌}
use mathlib.Core.Bool.{false}
use mathlib.Core.List.{List, [], ◌∷◌, ◌++◌, Perm, append-nil, append_assoc}
use native.Mathlib.Omega.{arith}
use native.Mathlib.Nat.{add-zero}
use lib.ListN.{length}
use Rattle.refusal.specs.Refusals.{Outcome, taken, refused, Ran, follow, then_run}
use Rattle.syntax.specs.declared.Role.{Role}
use Rattle.syntax.specs.declared.Place.{Place}
use Rattle.syntax.specs.Reads.{Standing, standing, room, unsound, ahead, element_of, logged, span_ask}
use Rattle.syntax.proofs.Tests.{sound_limit, room_words}
use Rattle.syntax.proofs.ReadLaws.{logged_length, close_inside, close_alike, close_keeps}
use Rattle.walks.specs.declared.Groups.{Groups}
use Rattle.walks.specs.Walk.{State, state, going, unfit_range, unfit_walk, walk_codes, walk_of, Reachable}
use Rattle.walks.specs.Row.{sum_of, bits_t, Walk, codes_of, Item, walk, close, Along, along, no_groups, item_of, row_from, end_of, AllPass, Passes, walks_of, met_of, codes_in, closings, Codes, Fit, Sound, Conserved}
use Rattle.walks.proofs.Laws.{walk_fit}
use Rattle.walks.proofs.Counting.{costs, after, after_append, after_reachable, T-append, T-order}
use Rattle.walks.proofs.Passing.{walk_passes, walk_within, walk_of_limit}

-- a row that has come so far
abbrev begun : Along → Ran Along Unit
begun a = record { outcome = taken tt; state = a }

-- 1. Where a row stands after the codes bs: at bit s and T of them, within the limit l, with log room for what follows.

record Stands (frame : List ℕ) (s l : ℕ) (bs : List ℕ) (ks : List Item) (st : Standing) : Type 0 where
  cursor : unsound (length frame) st.place ≡ false
  limit : st.place.limit ≡ l
  at : st.place.pos ≡ s + bits_t bs
  within : st.place.pos ≤ st.place.limit
  log_room : st.place.count + closings ks ≤ room (length st.log)

none_reachable : Reachable no_groups
none_reachable = refl

module _ (frame : List ℕ) (s l : ℕ) (bs : List ℕ) (ks : List Item) (st : Standing) where
  -- a walk
  module _ (w : Walk) (h : Stands frame s l bs (walk w ∷ ks) st) (fit : unfit_range w.start w.end ≡ false) (low : Codes (codes_of w)) where
    abbrev g : Groups
    g = after bs no_groups

    abbrev p : Place
    p = st.place

    abbrev n : ℕ
    n = costs (codes_of w) g

    -- is the walk over the codes that it meets
    walk_is : walk_of frame p w.bap w.start w.end g ≡ walk_codes (codes_of w) (going (state p g))
    walk_is =
        let e : unfit_walk (length frame) p w.start w.end g ≡ false
        = rw (h.cursor, fit) (after_reachable bs no_groups none_reachable) in
        sym (walk_fit frame p w.bap w.start w.end g e)

    abbrev after_walk : Standing
    after_walk = standing (ahead p n) st.log

    -- it is taken where its costs are within the limit
    walk_on_lem : p.pos + n ≤ p.limit → item_of frame (walk w) (along st g) ≡ begun (along after_walk (after (bs ++ codes_of w) no_groups))
    unfolding item_of
    walk_on_lem m =
        ap (λ (r : Ran State Unit). record { outcome = r.outcome; state = along (standing r.state.place st.log) r.state.groups })
        (walk_is ∙ walk_passes (codes_of w) p g low m)
        ∙ ap (λ (g' : Groups). begun (along after_walk g')) (sym (after_append bs (codes_of w) no_groups))

    -- and only there
    walk_only : (item_of frame (walk w) (along st g)).outcome ≡ taken tt → p.pos + n ≤ p.limit
    unfolding item_of
    walk_only e = walk_within (codes_of w) p g low h.within (ap (λ (r : Ran State Unit). r.outcome) (sym walk_is) ∙ e)

    walk_stands : p.pos + n ≤ p.limit → Stands frame s l (bs ++ codes_of w) ks after_walk
    walk_stands m =
        record { cursor = h.cursor; limit = h.limit; at = omega (arith, h.at, T-append bs (codes_of w)); within = m; log_room = h.log_room }

  -- a span that is closed
  module _ (name : ℕ) (role : Role) (opened : ℕ) (h : Stands frame s l bs (close name role opened ∷ ks) st) (before : opened ≤ s + bits_t bs) where
    abbrev after_close : Standing
    after_close = logged st (element_of st.place opened (span_ask name role (st.place.pos - opened)) 0) st.place.pos

    close_on : (g : Groups) → item_of frame (close name role opened) (along st g) ≡ begun (along after_close g)
    unfolding item_of
    close_on g =
        let f = sound_limit (length frame) st.place h.cursor in
        ap (λ (r : Ran Standing Unit). record { outcome = r.outcome; state = along r.state g })
        (close_inside (length frame) st name role opened
        (record { short = f.0; held = f.1; room_left = omega (arith, h.log_room); ordered = omega (arith, h.at); within = h.within }))

    close_stands : Stands frame s l bs ks after_close
    close_stands =
        let f = room_words (length st.log) st.place.count (omega (arith, h.log_room)) in
        let e = logged_length st (element_of st.place opened (span_ask name role (st.place.pos - opened)) 0) st.place.pos f.1 in
        record { cursor = h.cursor; limit = h.limit; at = h.at; within = h.within; log_room = rw e (omega (arith, h.log_room)) }

-- 2. From there a row passes exactly if T is within the limit, and ends at it.

module _ (frame : List ℕ) where
  -- where a row ends
  abbrev ends_at : List Item → Ran Along Unit → ℕ
  ends_at ks r = (row_from frame ks r).state.standing.place.pos

  -- the first item is taken, and the others pass from where it ended
  first_on : (k : Item) (ks : List Item) (a a' : Along) (e : ℕ) → item_of frame k a ≡ begun a' → AllPass frame ks a' × (ends_at ks (begun a') ≡ e)
      → AllPass frame (k ∷ ks) a × (ends_at (k ∷ ks) (begun a) ≡ e)
  unfolding row_from
  first_on k ks a a' e i p = (
    (ap (λ (r : Ran Along Unit). r.outcome) i, subst (λ (r : Ran Along Unit). AllPass frame ks r.state) (sym i) p.0),
    ap (ends_at ks) i ∙ p.1,
  )

  module _ (s l : ℕ) where
    row_on : (ks : List Item) (bs : List ℕ) (st : Standing) → Stands frame s l bs ks st → Fit s bs ks → s + bits_t (bs ++ codes_in ks) ≤ l
        → AllPass frame ks (along st (after bs no_groups)) × (ends_at ks (begun (along st (after bs no_groups))) ≡ s + bits_t (bs ++ codes_in ks))
    unfolding row_from met_of
    row_on [] bs st h f m = (tt, rw (append-nil bs) h.at)
    row_on (walk w ∷ ks) bs st h f m =
        let e = append_assoc bs (codes_of w) (codes_in ks) in
        let t = T-append bs (codes_of w) in
        let u = T-append (bs ++ codes_of w) (codes_in ks) in
        let v = ap bits_t e in
        let m' : st.place.pos + costs (codes_of w) (after bs no_groups) ≤ st.place.limit = omega (arith, h.at, h.limit, t, u, v) in
        first_on (walk w) ks _ _ _ (walk_on_lem frame s l bs ks st w h f.0 f.1.0 m')
        (rw (← e) (row_on ks (bs ++ codes_of w) _ (walk_stands frame s l bs ks st w h f.0 f.1.0 m') f.1.1 (rw e m)))
    row_on (close name role opened ∷ ks) bs st h f m =
        first_on (close name role opened) ks _ _ _ (close_on frame s l bs ks st name role opened h f.0 (after bs no_groups))
        (row_on ks bs _ (close_stands frame s l bs ks st name role opened h f.0) f.1 m)

    row_only : (ks : List Item) (bs : List ℕ) (st : Standing) → Stands frame s l bs ks st → Fit s bs ks
        → AllPass frame ks (along st (after bs no_groups)) → s + bits_t (bs ++ codes_in ks) ≤ l
    unfolding met_of
    row_only [] bs st h f p = rw (append-nil bs) (omega (arith, h.at, h.limit, h.within))
    row_only (walk w ∷ ks) bs st h f p =
        let m = walk_only frame s l bs ks st w h f.0 f.1.0 p.0 in
        let i = walk_on_lem frame s l bs ks st w h f.0 f.1.0 m in
        rw (← append_assoc bs (codes_of w) (codes_in ks))
        (row_only ks (bs ++ codes_of w) _ (walk_stands frame s l bs ks st w h f.0 f.1.0 m) f.1.1
        (subst (λ (r : Ran Along Unit). AllPass frame ks r.state) i p.1))
    row_only (close name role opened ∷ ks) bs st h f p =
        let i = close_on frame s l bs ks st name role opened h f.0 (after bs no_groups) in
        row_only ks bs _ (close_stands frame s l bs ks st name role opened h f.0) f.1
        (subst (λ (r : Ran Along Unit). AllPass frame ks r.state) i p.1)

-- 3. The bytes never move it: an item looks at them for the cursor's soundness alone, which it leaves as it was.

item_limit : (frame : List ℕ) (k : Item) (a : Along) → (item_of frame k a).state.standing.place.limit ≡ a.standing.place.limit
unfolding item_of
item_limit frame (walk w) a = walk_of_limit frame a.standing.place w.bap w.start w.end a.groups
item_limit frame (close name role opened) a = (close_keeps (length frame) a.standing name role opened).limit

module _ (frame frame' : List ℕ) where
  -- both hold the cursor, or neither
  abbrev Alike : Along → Type 0
  Alike a = unsound (length frame') a.standing.place ≡ unsound (length frame) a.standing.place

  item_alike : (k : Item) (a : Along) → Alike a → item_of frame' k a ≡ item_of frame k a
  unfolding item_of walk_of
  item_alike (walk w) a e = rw e
  item_alike (close name role opened) a e = rw (close_alike (length frame) a.standing name role opened (length frame') e)

  row_alike : (ks : List Item) (r : Ran Along Unit) → Alike r.state → row_from frame' ks r ≡ row_from frame ks r
  unfolding row_from
  row_alike [] r e = refl
  row_alike (k ∷ ks) r e =
      row_alike ks (then_run r (λ _ a. item_of frame' k a)) (still r.outcome) ∙ ap (row_from frame ks) (same r.outcome)
    where
      still : (o : Outcome Unit) → Alike (follow o r.state (λ _ a. item_of frame' k a)).state
      still (taken u) = rw (item_limit frame' k r.state) e
      still (refused g) = e

      same : (o : Outcome Unit) → follow o r.state (λ _ a. item_of frame' k a) ≡ follow o r.state (λ _ a. item_of frame k a)
      same (taken u) = item_alike k r.state e
      same (refused g) = refl

-- 4. The theorem.

module _ (frame : List ℕ) (st : Standing) (ks : List Item) (h : Sound frame st ks) where
  abbrev from : ℕ
  from = st.place.pos

  abbrev limit : ℕ
  limit = st.place.limit

  stands : Stands frame from limit [] ks st
  unfolding bits_t sum_of
  stands = record { cursor = h.cursor; limit = refl; at = sym (add-zero from); within = h.within; log_room = h.log_room }

  passes : Passes frame st ks ↔ (from + bits_t (codes_in ks) ≤ limit)
  unfolding after
  passes = (row_only frame from limit ks [] st stands h.fit, λ m. (row_on frame from limit ks [] st stands h.fit m).0)

  ends : Passes frame st ks → end_of frame st ks ≡ from + bits_t (codes_in ks)
  unfolding after
  ends p = (row_on frame from limit ks [] st stands h.fit (passes.0 p)).1

-- demand 3
pub conserved : (frame : List ℕ) (st : Standing) (ks : List Item) → Sound frame st ks → Conserved frame st ks
conserved frame st ks h =
    record {
      passes = passes frame st ks h;
      ends = ends frame st ks h;
      any_order = λ ls p. sym (T-order (walks_of ks) (walks_of ls) p);
      reordered = λ ls p i. (
        (λ q. (passes frame st ks h).1 (rw (T-order (walks_of ks) (walks_of ls) p) ((passes frame st ls i).0 q)), other ls p i),
        λ q. ends frame st ls i (other ls p i q) ∙ ap (λ n. st.place.pos + n) (sym (T-order (walks_of ks) (walks_of ls) p)) ∙ sym (ends frame st ks h q),
      );
      any_bits = λ frame' e. row_alike frame frame' ks (begun (along st no_groups)) (e ∙ sym h.cursor);
    }
  where
    other : (ls : List Item) → Perm (walks_of ks) (walks_of ls) → Sound frame st ls → Passes frame st ks → Passes frame st ls
    other ls p i q = (passes frame st ls i).1 (rw (← T-order (walks_of ks) (walks_of ls) p) ((passes frame st ks h).0 q))
