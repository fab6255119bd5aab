-- Lists that are written out place by place, a slot's segments in its row, and a state's rows after a call that changes one slot's or none.
-- Assumes nothing.
use mathlib.Core.Path.{◌≡◌, refl, sym, ap, subst, ◌∙◌}
use mathlib.Core.List.{List, [], ◌∷◌, map}
use Prim.Native.Nat.{ℕ, zero, suc, ◌+◌, ◌<◌, ◌≤◌}
use native.Mathlib.Nat.{le_of_suc-le-suc}
use Prim.Native.Nat.{zero-le}
use Rattle.std.proofs.lemmas.List.{get_or-take, get_or-drop}
use Rattle.std.proofs.Common.{length-drop, length-take}
use Rattle.std.specs.Prelude.{Result, Ok, Err}
use Rattle.refusal.specs.declared.Refusal.{Refusal}
use Rattle.refusal.specs.Refusals.{Outcome, taken, refused, grounds, grounds_of, outcome_of, and_then, leaves, Ran, follow, then_run}
use Rattle.syntax.specs.Reads.{Standing}
use Rattle.blocks.specs.declared.AllocState.{AllocState}
use Rattle.convention.specs.Replies.{told_of}
use native.Mathlib.Numerals.{add-one}
use native.Mathlib.Omega.{arith}
use lib.ListN.{length, get_or, set, take, drop, get_or-eq_default}
use lib.Seq.{set_out}
use mir.Syntax.{w8}
use mir.Val.{Val}
use denote.Plain.{UInt}
use denote.Array.{Array, each}
use denote.Shadow.{shadow}
use Rattle.alloc.specs.Table.{from, table, inside}
use Rattle.alloc.proofs.TableLaws.{get_d_table, length_table, table_ext, inside_in}
use Rattle.tables.specs.declared.Delta.{Delta}
use Rattle.blocks.specs.Block.{no_delta, segments_at}
use Rattle.blocks.specs.Side.{with_delta, settled_of, reached}
use Rattle.capi.specs.States.{row_at, Whole, segments_from, state_from, row_of, rows_after, Kept, kept, kept_of, gathered, gathered_of}

from_suc : {X : Type 0} (i n : ℕ) (f : ℕ → X) → from (suc i) n f ≡ from i n (λ k. f (suc k))
unfolding from
from_suc i zero f = refl
from_suc i (suc n) f = ap (λ (r : List _). f (suc i) ∷ r) (from_suc (suc i) n f)

-- the elements themselves
all_of : {X : Type 0} (d : X) (l : List X) → table (length l) (λ k. get_or l k d) ≡ l
unfolding from
all_of d [] = refl
all_of d (x ∷ xs) = ap (λ (r : List _). x ∷ r) (from_suc 0 (length xs) (λ k. get_or (x ∷ xs) k d) ∙ all_of d xs)

pub table_all : {X : Type 0} (d : X) (l : List X) (n : ℕ) → length l ≡ n → table n (λ k. get_or l k d) ≡ l
table_all d l n h = subst (λ (m : ℕ). table m (λ k. get_or l k d) ≡ l) h (all_of d l)

-- the n bytes from a place on
pub part_is : (l : List ℕ) (at n : ℕ) → at + n ≤ length l → take n (drop at l) ≡ table n (λ k. get_or l (at + k) 0)
part_is l at n h =
    sym (table_all 0 (take n (drop at l)) n (omega (arith, length-take n (drop at l), length-drop at l)))
    ∙ table_ext n _ _ 0 (λ k j. get_or-take n (drop at l) k 0 j ∙ get_or-drop at l k 0)

-- a table that starts at 1
pub from_one : {X : Type 0} (n : ℕ) (z : X) (f : ℕ → X) → table n (inside 0 n z (λ k. f (k + 1))) ≡ from 1 n f
from_one n z f =
    table_ext n _ _ z (λ k h. inside_in 0 n z (λ j. f (j + 1)) k zero-le h)
    ∙ table_ext n (λ k. f (k + 1)) (λ k. f (suc k)) z (λ k h. ap f (add-one k))
    ∙ sym (from_suc 0 n f)

-- rows that are held as arrays of n bytes have n bytes each
pub each_long : (n : ℕ) (rows : List (List ℕ)) (us : List Val) → shadow (each (List ℕ) (Array (UInt w8) n).own_val rows us)
    → (i : ℕ) → i < length rows → length (row_at rows i) ≡ n
each_long n [] us p i h = absurd (omega (arith, h))
each_long n (r ∷ rs) [] p i h = absurd p
each_long n (r ∷ rs) (u ∷ us) p zero h = p.0.1.0.1
each_long n (r ∷ rs) (u ∷ us) p (suc i) h = each_long n rs us p.1 i (le_of_suc-le-suc h)

-- a row's segments, written out again, are the row
row_again : (row : List ℕ) → length row ≡ 25 → row_of (segments_from row) ≡ row
unfolding row_of segments_from from
row_again row h = table_all 0 row 25 h

-- a call that leaves the state as it was, as a refused one does, changes no byte of it
pub unchanged : (rows : List (List ℕ)) → Whole rows → rows_after rows (state_from rows) ≡ rows
unfolding rows_after state_from from
unchanged rows (h, each) =
    (λ i.
    row_at rows 0
    ∷ row_again (row_at rows 1) (each 1 (omega arith)) i
    ∷ row_again (row_at rows 2) (each 2 (omega arith)) i
    ∷ row_again (row_at rows 3) (each 3 (omega arith)) i
    ∷ row_again (row_at rows 4) (each 4 (omega arith)) i
    ∷ row_again (row_at rows 5) (each 5 (omega arith)) i
    ∷ row_again (row_at rows 6) (each 6 (omega arith)) i
    ∷ row_again (row_at rows 7) (each 7 (omega arith)) i
    ∷ [])
    ∙ table_all [] rows 8 h

-- a slot's segments are those in its row, and a slot above 6 has none
module _ (rows : List (List ℕ)) (slot : ℕ) where
  in_row : (state_from rows).delta ≡ table 7 (λ k. segments_from (row_at rows (suc k)))
  unfolding state_from
  in_row = from_suc 0 7 (λ k. segments_from (row_at rows k))

  pub segments_in : slot ≤ 6 → segments_from (row_at rows (slot + 1)) ≡ segments_at (state_from rows) slot
  segments_in h =
      rw add-one
      (sym (ap (λ (ds : List Delta). get_or ds slot no_delta) in_row ∙ get_d_table 7 (λ k. segments_from (row_at rows (suc k))) slot no_delta (omega (arith, h))))

  pub segments_out : 6 < slot → no_delta ≡ segments_at (state_from rows) slot
  segments_out h =
      sym (ap (λ (ds : List Delta). get_or ds slot no_delta) in_row
      ∙ get_or-eq_default (table 7 (λ k. segments_from (row_at rows (suc k)))) no_delta (omega (arith, h, length_table 7 (λ k. segments_from (row_at rows (suc k))))))

-- what f makes of each element after a store
map_set : {X Y : Type 0} (f : X → Y) (l : List X) (i : ℕ) (v : X) → map f (set l i v) ≡ set (map f l) i (f v)
map_set f [] i v = refl
map_set f (x ∷ xs) zero v = refl
map_set f (x ∷ xs) (suc i) v = ap (λ (t : List _). f x ∷ t) (map_set f xs i v)

-- other segments for a slot change its row alone, and for a slot above 6 none
module _ (rows : List (List ℕ)) (h : Whole rows) (slot : ℕ) (d : Delta) where
  pub put_in : set rows (slot + 1) (row_of d) ≡ rows_after rows (with_delta (state_from rows) slot d)
  unfolding rows_after
  put_in =
      rw add-one
      (ap (λ (l : List (List ℕ)). set l (suc slot) (row_of d)) (sym (unchanged rows h))
      ∙ ap (λ (l : List (List ℕ)). row_at rows 0 ∷ l) (sym (map_set row_of (state_from rows).delta slot d)))

  pub put_out : 6 < slot → rows ≡ rows_after rows (with_delta (state_from rows) slot d)
  put_out k = sym (set_out rows (slot + 1) (row_of d) (omega (arith, h.0, k))) ∙ put_in

-- a call's answer, which leaves a slot other segments, in the rows: what was answered is put, and a refused call changes nothing
abbrev pub left_by : List (List ℕ) → ℕ → Outcome Delta → Ran AllocState Unit
left_by rows slot o = leaves (state_from rows) (and_then o (λ d. taken (with_delta (state_from rows) slot d)))

module _ (rows : List (List ℕ)) (slot : ℕ) {answer : Result Delta Refusal} where
  pub kept_put : {d : Delta} {after : List (List ℕ)} → answer ≡ Ok d → after ≡ rows_after rows (with_delta (state_from rows) slot d)
      → kept 0 0 after ≡ kept_of rows (left_by rows slot (outcome_of answer))
  kept_put e h = ap (λ (l : List (List ℕ)). kept 0 0 l) h ∙ ap (λ (x : Result Delta Refusal). kept_of rows (left_by rows slot (outcome_of x))) (sym e)

  pub kept_told : Whole rows → {r : Refusal} {k b : ℕ} → answer ≡ Err r → grounds k b ≡ grounds_of r
      → kept k b rows ≡ kept_of rows (left_by rows slot (outcome_of answer))
  kept_told h e g =
      (λ i. kept (g i).number (g i).bit (sym (unchanged rows h) i))
      ∙ ap (λ (x : Result Delta Refusal). kept_of rows (left_by rows slot (outcome_of x))) (sym e)

-- the same of a reading
pub gathered_put : (rows : List (List ℕ)) (slot : ℕ) (p : Ran Standing Delta) {k b : ℕ} {after : List (List ℕ)} → kept k b after ≡ kept_of rows (left_by rows slot p.outcome)
    → gathered k b p.state.place.pos p.state.place.count p.state.log after
    ≡ gathered_of rows (settled_of (state_from rows) (then_run p (λ d st. reached (with_delta (state_from rows) slot d) st)))
gathered_put rows slot p e =
    ap (λ (w : Kept). record { moved = record { told = w.told; pos = p.state.place.pos; count = p.state.place.count; log = p.state.log }; rows = w.rows }) e
    ∙ go p.outcome
  where
    go : (o : Outcome Delta)
        → record { moved = record { told = told_of (left_by rows slot o).outcome; pos = p.state.place.pos; count = p.state.place.count; log = p.state.log }; rows = rows_after rows (left_by rows slot o).state }
        ≡ gathered_of rows (settled_of (state_from rows) (follow o p.state (λ d st. reached (with_delta (state_from rows) slot d) st)))
    go (taken d) = refl
    go (refused g) = refl
