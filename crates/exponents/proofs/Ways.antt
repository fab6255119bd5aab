-- The ways through the functions: what each comes to once its tests are known, and what tests that don't hold say.
-- Assumes nothing.
use Prim.Native.Nat.{ℕ, ◌+◌, ◌-◌, ◌*◌, ◌/◌, ◌%◌, ◌≤◌, ◌<◌}
use mathlib.Core.Path.{◌≡◌, refl, sym, ◌∙◌, ap}
use mathlib.Core.Bool.{Bool, true, false, ◌||◌}
use mathlib.Core.List.{List}
use native.Mathlib.Omega.{arith}
use lib.Dec.{leb, ltb}
use lib.ListN.{replicate}
use lib.Seq.{sets}
use borrow.Author.Tests.{ltb-false, leb-false, lt-ltb, le-ltb}
use Rattle.refusal.specs.Refusals.{Grounds, grounds, Outcome, taken, refused, refuse_if, and_then, Ran, ends, then_run}
use Rattle.refusal.proofs.TestLaws.{or_false}
use Rattle.syntax.specs.declared.Ask.{Ask}
use Rattle.syntax.specs.declared.cursor.Cursor.{Cursor}
use Rattle.syntax.specs.Reads.{Standing, standing, read_of}
use Rattle.syntax.specs.Cursors.{Held, held_of, over}
use Rattle.syntax.proofs.ReadLaws.{read_taken}
use Rattle.exponents.specs.declared.ExpSet.{ExpSet}
use Rattle.tables.specs.Bands.{zeros}
use Rattle.exponents.specs.Set.{size_of, group_count, digits, running, off_scale, outside}
use Rattle.exponents.specs.Reads.{unfit, abs_ask, group_ask, set_of}
use Rattle.exponents.specs.Turns.{Laid, laid, last_of, begun_of, stepped, step_on, onward, unpack_on, group_on, groups_on, first_on, closed_on}
use Rattle.exponents.proofs.Held.{held_along}
use Rattle.exponents.proofs.Lists.{three_runs}
use Rattle.exponents.proofs.Turns.{groups_stay, groups_stop, groups_again, set_is}

-- the tests of the arguments
pub record Fit (slot strategy start end : ℕ) : Type 0 where
  pub least : 1 ≤ strategy
  pub most : strategy ≤ 3
  pub some : start < end
  pub bins : end ≤ 256

pub fit_says : (slot strategy start end : ℕ) → unfit slot strategy start end ≡ false → Fit slot strategy start end
fit_says slot strategy start end e =
    let a = or_false (ltb 6 slot || ltb strategy 1 || ltb 3 strategy || leb end start) (ltb 256 end) e in
    let b = or_false (ltb 6 slot || ltb strategy 1 || ltb 3 strategy) (leb end start) a.0 in
    let c = or_false (ltb 6 slot || ltb strategy 1) (ltb 3 strategy) b.0 in
    let d = or_false (ltb 6 slot) (ltb strategy 1) c.0 in
    record {
      least = ltb-false strategy 1 d.1;
      most = ltb-false 3 strategy c.1;
      some = leb-false end start b.1;
      bins = ltb-false 256 end a.1;
    }

-- the three digits of a group, one after another
module _ (g bit v : ℕ) (l : Laid) where
  abbrev whole : Outcome Laid
  whole = refuse_if (outside l.last (digits v)) 8 bit (taken (onward g l v))

  abbrev second : Laid → Outcome Laid
  second m = step_on g bit m (v / 5 % 5)

  abbrev third : Laid → Outcome Laid
  third m = step_on g bit m (v % 5)

  abbrev last_step : Laid
  last_step = stepped g (stepped g (stepped g l (v / 25)) (v / 5 % 5)) (v % 5)

  laid_three : last_step ≡ onward g l v
  unfolding running last_of
  laid_three =
      let a = l.last + v / 25 - 2 in
      let b = a + v / 5 % 5 - 2 in
      let c = b + v % 5 - 2 in
      let p : l.next + g + g ≡ l.next + 2 * g = omega arith in
      let q : l.next + g + g + g ≡ l.next + 3 * g = omega arith in
      let x : List ℕ = sets (sets l.exp l.next (replicate g a)) (l.next + g) (replicate g b) in
      let s = ap (λ (k : ℕ). sets x k (replicate g c)) p ∙ three_runs l.exp l.next g a b c in
      λ i. laid c (q i) (s i)

  three_steps : and_then (and_then (step_on g bit l (v / 25)) second) third ≡ whole
  unfolding outside
  three_steps = go (off_scale (l.last + v / 25)) (off_scale (l.last + v / 25 - 2 + v / 5 % 5)) (off_scale (l.last + v / 25 - 2 + v / 5 % 5 - 2 + v % 5)) refl refl
    where
      go : (t u w : Bool)
          → second (stepped g l (v / 25)) ≡ refuse_if u 8 bit (taken (stepped g (stepped g l (v / 25)) (v / 5 % 5)))
          → third (stepped g (stepped g l (v / 25)) (v / 5 % 5)) ≡ refuse_if w 8 bit (taken last_step)
          → and_then (and_then (refuse_if t 8 bit (taken (stepped g l (v / 25)))) second) third
          ≡ refuse_if (t || (u || (w || false))) 8 bit (taken (onward g l v))
      go true u w e f = refl
      go false true w e f = ap (λ o. and_then o third) e
      go false false true e f = ap (λ o. and_then o third) e ∙ f
      go false false false e f = ap (λ o. and_then o third) e ∙ f ∙ ap (λ (m : Laid). taken m) laid_three

  pub stop_first : {x : Grounds} → refused x ≡ step_on g bit l (v / 25) → refused x ≡ whole
  stop_first e = ap (λ o. and_then (and_then o second) third) e ∙ three_steps

  module _ {m : Laid} {h : ℕ} (e : taken m ≡ step_on g bit l (v / 25)) (s : h ≡ g) where
    pub stop_second : {x : Grounds} → refused x ≡ step_on h bit m (v / 5 % 5) → refused x ≡ whole
    stop_second f =
        ap (λ o. and_then o third) (f ∙ (ap (λ (k : ℕ). step_on k bit m (v / 5 % 5)) s ∙ ap (λ o. and_then o second) e)) ∙ three_steps

    pub to_third : {n : Laid} {j : ℕ} {o : Outcome Laid} → taken n ≡ step_on h bit m (v / 5 % 5) → j ≡ h → o ≡ step_on j bit n (v % 5) → o ≡ whole
    to_third {n} {j} {o} f t k =
        k ∙ ap (λ (i : ℕ). step_on i bit n (v % 5)) (t ∙ s)
        ∙ ap (λ q. and_then q third) (f ∙ ap (λ (i : ℕ). step_on i bit m (v / 5 % 5)) s)
        ∙ ap (λ q. and_then (and_then q second) third) e
        ∙ three_steps

-- a group is what is read, unpacked
module _ (g : ℕ) (l : Laid) (c₀ : Cursor) (r : Ran Standing ℕ) {c : Cursor} {log : List ℕ} where
  pub group_stays : {x : Grounds} → held_of {A = ℕ} (refused x) c log ≡ over c₀ r → held_of {A = Laid} (refused x) c log ≡ over c₀ (unpack_on g l r)
  unfolding unpack_on
  group_stays e = held_along c₀ r (λ _. unpack_on g l) e

  module _ {v : ℕ} (e : held_of (taken v) c log ≡ over c₀ r) where
    unpacks : over c (ends (standing c.place log) (refuse_if (ltb 124 v) 7 c.place.pos (whole g c.place.pos v l))) ≡ over c₀ (unpack_on g l r)
    unfolding unpack_on
    unpacks = held_along c₀ r (λ _. unpack_on g l) e

    pub group_above : 124 < v → held_of {A = Laid} (refused (grounds 7 c.place.pos)) c log ≡ over c₀ (unpack_on g l r)
    group_above h = ap (λ t. over c (ends (standing c.place log) (refuse_if t 7 c.place.pos (whole g c.place.pos v l)))) (sym (lt-ltb 124 v h)) ∙ unpacks

    pub group_ends : v ≤ 124 → {o : Outcome Laid} → o ≡ whole g c.place.pos v l → held_of o c log ≡ over c₀ (unpack_on g l r)
    group_ends h e =
        ap (λ (o : Outcome Laid). held_of o c log) e
        ∙ ap (λ t. over c (ends (standing c.place log) (refuse_if t 7 c.place.pos (whole g c.place.pos v l)))) (sym (le-ltb 124 v h))
        ∙ unpacks

-- a turn of the loop over the groups, taken or refused
module _ (ask : Ask) (g i : ℕ) (c₀ : Cursor) (r : Ran Standing Laid) {c c' : Cursor} {log log' : List ℕ} {l : Laid} {h : ℕ}
    (so_far : held_of (taken l) c log ≡ over c₀ (groups_on c₀.bytes.now ask g i r)) (same : h ≡ g) where
  pub groups_turn : {o : Outcome Laid} → held_of o c' log' ≡ over c (unpack_on h l (read_of c.bytes.now (standing c.place log) ask))
      → held_of o c' log' ≡ over c₀ (groups_on c₀.bytes.now ask g (i + 1) r)
  unfolding group_on
  groups_turn e =
      e
      ∙ ap (λ (k : ℕ). over c (unpack_on k l (read_of c.bytes.now (standing c.place log) ask))) same
      ∙ held_along c₀ (groups_on c₀.bytes.now ask g i r) (λ frame. group_on frame ask g) so_far
      ∙ ap (over c₀) (groups_again c₀.bytes.now ask g i r)

  pub groups_halt : {x : Grounds} → held_of (refused x) c' log' ≡ over c (unpack_on h l (read_of c.bytes.now (standing c.place log) ask))
      → {n : ℕ} → i + 1 ≤ n → held_of (refused x) c' log' ≡ over c₀ (groups_on c₀.bytes.now ask g n r)
  groups_halt {x} e {n} k =
      let t = groups_turn e in
      let s : groups_on c₀.bytes.now ask g (i + 1) r ≡ ends (standing c'.place log') (refused x)
      = sym (ap (λ (q : Ran Held Laid). ends (standing q.state.cursor.place q.state.log) q.outcome) t) in
      t ∙ ap (over c₀) (groups_stop c₀.bytes.now ask g (i + 1) n r s k)

-- reading a set: 6, or the absolute exponent, the groups and the end
module _ (slot strategy start end : ℕ) (c₀ : Cursor) (log₀ : List ℕ) where
  abbrev all : Ran Held ExpSet
  all = over c₀ (set_of c₀.bytes.now (standing c₀.place log₀) slot strategy start end)

  pub set_unfit : unfit slot strategy start end ≡ true → held_of (refused (grounds 6 c₀.place.pos)) c₀ log₀ ≡ all
  unfolding set_of
  set_unfit e = rw e

  abbrev read : Ask → Ran Standing ℕ
  read ask = read_of c₀.bytes.now (standing c₀.place log₀) ask

  abbrev then_groups : List ℕ → Ran Standing ℕ → Ran Standing Laid
  then_groups frame r =
      groups_on frame (group_ask slot) (size_of strategy) (group_count slot (size_of strategy) start end)
      (then_run r (λ abs st. ends st (taken (begun_of slot start zeros abs))))

  module _ (fit : unfit slot strategy start end ≡ false) {ask : Ask} (first : ask ≡ abs_ask slot) {c : Cursor} {log : List ℕ} where
    along : {o : Outcome ℕ} → held_of o c log ≡ over c₀ (read ask) → over c (closed_on start end (then_groups c.bytes.now (ends (standing c.place log) o))) ≡ all
    unfolding first_on
    along e =
        held_along c₀ (read ask) (λ frame r. closed_on start end (then_groups frame r)) e
        ∙ ap (λ (x : Ask). over c₀ (closed_on start end (then_groups c₀.bytes.now (read x)))) first
        ∙ ap (over c₀) (set_is c₀.bytes.now (standing c₀.place log₀) slot strategy start end fit)

    pub set_unread : {x : Grounds} → held_of {A = ℕ} (refused x) c log ≡ over c₀ (read ask) → held_of {A = ExpSet} (refused x) c log ≡ all
    unfolding closed_on
    set_unread {x} e =
        ap (λ (r : Ran Standing Laid). over c (closed_on start end r))
        (sym (groups_stay c.bytes.now (group_ask slot) (size_of strategy) (group_count slot (size_of strategy) start end) (standing c.place log) x))
        ∙ along e

    module _ {abs : ℕ} (e : held_of (taken abs) c log ≡ over c₀ (read ask)) where
      pub abs_low : abs ≤ 15
      abs_low =
          let t : (read (abs_ask slot)).outcome ≡ taken abs
          = ap (λ (x : Ask). (read x).outcome) (sym first) ∙ sym (ap (λ (h : Ran Held ℕ). h.outcome) e) in
          let b : abs < 16 = (read_taken c₀.bytes.now (standing c₀.place log₀) (abs_ask slot) abs t).below in
          omega arith

      module _ {g h : ℕ} (size : g ≡ size_of strategy) (runs : h ≡ g) {ask' : Ask} (each : ask' ≡ group_ask slot) {n : ℕ} (count : n ≡ group_count slot g start end)
          {l : Laid} (begun : l ≡ begun_of slot start zeros abs) {c' : Cursor} {log' : List ℕ} where
        closes : {o : Outcome Laid} → held_of o c' log' ≡ over c (groups_on c.bytes.now ask' h n (ends (standing c.place log) (taken l)))
            → over c' (closed_on start end (ends (standing c'.place log') o)) ≡ all
        closes {o} f =
            held_along c (then_groups c.bytes.now (ends (standing c.place log) (taken abs))) (λ _. closed_on start end) (f ∙ same) ∙ along e
          where
            many : n ≡ group_count slot (size_of strategy) start end
            many = count ∙ ap (λ (k : ℕ). group_count slot k start end) size

            same : over c (groups_on c.bytes.now ask' h n (ends (standing c.place log) (taken l)))
                ≡ over c (then_groups c.bytes.now (ends (standing c.place log) (taken abs)))
            same = λ i. over c (groups_on c.bytes.now (each i) ((runs ∙ size) i) (many i) (ends (standing c.place log) (taken (begun i))))

        pub set_stops : {x : Grounds} → held_of {A = Laid} (refused x) c' log' ≡ over c (groups_on c.bytes.now ask' h n (ends (standing c.place log) (taken l)))
            → held_of {A = ExpSet} (refused x) c' log' ≡ all
        unfolding closed_on
        set_stops f = closes f

        module _ {m : Laid} (f : held_of (taken m) c' log' ≡ over c (groups_on c.bytes.now ask' h n (ends (standing c.place log) (taken l)))) where
          abbrev closed : Bool → Ran Held ExpSet
          closed t =
              over c' (ends (standing c'.place log') (refuse_if t 9 c'.place.pos (taken (record { exp = m.exp; start = start; end = end }))))

          tested : closed (ltb m.next end) ≡ all
          unfolding closed_on
          tested = closes f

          pub set_short : m.next < end → held_of {A = ExpSet} (refused (grounds 9 c'.place.pos)) c' log' ≡ all
          set_short h = ap closed (sym (lt-ltb m.next end h)) ∙ tested

          pub set_done : end ≤ m.next → held_of (taken (record { exp = m.exp; start = start; end = end })) c' log' ≡ all
          set_done h = ap closed (sym (le-ltb m.next end h)) ∙ tested
