-- Tiling: what is accepted, what an accepted tiling says, and how a log that tiles the bits so far grows.
-- Assumes nothing.
use Prim.Native.Nat.{ℕ, zero, suc, ◌+◌, ◌*◌, ◌≤◌, ◌<◌}
use mathlib.Core.Path.{◌≡◌, refl, sym, ◌∙◌}
use mathlib.Core.List.{List}
use mathlib.Core.Bool.{true, false, not}
use mathlib.Core.Logic.{⊎_elim, ◌↔◌}
use native.Mathlib.Numerals.{add-one}
use native.Mathlib.Omega.{arith}
use lib.ListN.{length}
use lib.Bits.{bit_or, bit_xor}
use lib.Dec.{eqb, ltb}
use borrow.Author.Tests.{eqb-true, eq-eqb, ltb-false, le-ltb, not-false}
use Rattle.refusal.specs.Refusals.{taken, refuse_if}
use Rattle.refusal.proofs.Laws.{past_test}
use Rattle.refusal.proofs.TestLaws.{and_left, and_right}
use Rattle.syntax.specs.declared.Element.{Element}
use Rattle.syntax.specs.Elements.{written}
use Rattle.syntax.specs.Reads.{room}
use Rattle.syntax.specs.Tiling.{pos_at, width_at, end_at, follows, tiles, tiling_of, widths, Reaches, InOne}
use Rattle.syntax.proofs.Bools.{off_turn, lt_or_ge}
use Rattle.syntax.proofs.Log.{written_before, written_at}

-- the test on the first n elements, and what it says of each
pub follows_each : (log : List ℕ) (n : ℕ) → follows log n ≡ true → (k : ℕ) → k < n → pos_at log k ≡ end_at log k
unfolding follows
follows_each log zero e k h = absurd (omega arith)
follows_each log (suc n) e k h =
    ⊎_elim
    (λ (l : k < n). follows_each log n (and_left (follows log n) _ e) k l)
    (λ (g : n ≤ k). let z : k ≡ n = omega arith in rw z (eqb-true _ _ (and_right (follows log n) _ e)))
    (lt_or_ge k n)

pub each_follows : (log : List ℕ) (n : ℕ) → ((k : ℕ) → k < n → pos_at log k ≡ end_at log k) → follows log n ≡ true
unfolding follows
each_follows log zero h = refl
each_follows log (suc n) h = rw (each_follows log n (λ k l. h k (omega arith)), eq-eqb (pos_at log n) (end_at log n) (h n (omega arith)))

-- the steps of a check from the first element on
pub follows_zero : (log : List ℕ) → follows log 0 ≡ true
unfolding follows
follows_zero log = refl

pub end_zero : (log : List ℕ) → end_at log 0 ≡ 0
unfolding end_at
end_zero log = refl

pub end_next : (log : List ℕ) (k : ℕ) → end_at log (k + 1) ≡ pos_at log k + width_at log k
unfolding end_at
end_next log k = rw add-one

-- one element more of a check: `off` is 0 as long as they follow each other
pub off_next : (log : List ℕ) (k off at : ℕ) → eqb off 0 ≡ follows log k → at ≡ end_at log k
    → eqb (bit_or off (bit_xor (pos_at log k) at)) 0 ≡ follows log (k + 1)
unfolding follows
off_next log k off at f e = off_turn off (pos_at log k) at ∙ rw (f, e, add-one)

-- the end of a check that found no gap
pub ends_at : (log : List ℕ) (n total k at : ℕ) → k ≡ n → follows log k ≡ true → at ≡ end_at log k → eqb at total ≡ tiles log n total
unfolding tiles
ends_at log n total k at e f h = rw (h, ← e, f)

-- the end of one that found a gap
pub breaks_at : (log : List ℕ) (n total k : ℕ) → k ≡ n → follows log k ≡ false → false ≡ tiles log n total
unfolding tiles
breaks_at log n total k e f = rw (← e, f)

-- the test says just that the elements tile
pub tiles_reaches : (log : List ℕ) (n total : ℕ) → tiles log n total ≡ true → Reaches log n total
unfolding tiles
tiles_reaches log n total e =
    record { starts = follows_each log n (and_left (follows log n) _ e); ends = eqb-true _ _ (and_right (follows log n) _ e) }

pub reaches_tiles : (log : List ℕ) (n total : ℕ) → Reaches log n total → tiles log n total ≡ true
unfolding tiles
reaches_tiles log n total r = rw (each_follows log n r.starts, eq-eqb (end_at log n) total r.ends)

-- of a log that reaches the total the count alone is tested
pub reaches_tiling : (log : List ℕ) (n total : ℕ) → Reaches log n total → tiling_of log n total ≡ refuse_if (ltb (room (length log)) n) 6 0 (taken tt)
unfolding tiling_of
reaches_tiling log n total r = simp (reaches_tiles log n total r)

-- so it is accepted
pub reaches_accepted : (log : List ℕ) (n total : ℕ) → n ≤ room (length log) → Reaches log n total → tiling_of log n total ≡ taken tt
reaches_accepted log n total h r = reaches_tiling log n total r ∙ simp (le-ltb (room (length log)) n h)

-- and an accepted one reaches it
pub accepted_reaches : (log : List ℕ) (n total : ℕ) → tiling_of log n total ≡ taken tt → (n ≤ room (length log)) × Reaches log n total
unfolding tiling_of
accepted_reaches log n total e =
    let a = past_test (ltb (room (length log)) n) _ _ e in
    let b = past_test (not (tiles log n total)) _ _ a.1 in
    (ltb-false (room (length log)) n a.0, tiles_reaches log n total (not-false (tiles log n total) b.0))

-- tiling is accepted just where the elements tile
pub accepted_iff : (log : List ℕ) (n total : ℕ) → (tiling_of log n total ≡ taken tt) ↔ ((n ≤ room (length log)) × Reaches log n total)
accepted_iff log n total = (accepted_reaches log n total, λ h. reaches_accepted log n total h.0 h.1)

-- where elements that follow each other end is the sum of their widths
end_widths : (log : List ℕ) (n : ℕ) → ((k : ℕ) → k < n → pos_at log k ≡ end_at log k) → end_at log n ≡ widths log n
unfolding end_at widths
end_widths log zero h = refl
end_widths log (suc n) h = omega (arith, end_widths log n (λ k l. h k (omega arith)), h n (omega arith))

widths_suc : (log : List ℕ) (k : ℕ) → widths log (suc k) ≡ widths log k + width_at log k
unfolding widths
widths_suc log k = refl

widths_le : (log : List ℕ) (n k : ℕ) → k ≤ n → widths log k ≤ widths log n
widths_le log zero k h = let z : k ≡ 0 = omega arith in rw z (omega arith)
widths_le log (suc n) k h =
    ⊎_elim
    (λ (l : k < suc n). omega (arith, widths_le log n k (omega arith), widths_suc log n))
    (λ (g : suc n ≤ k). let z : k ≡ suc n = omega arith in rw z (omega arith))
    (lt_or_ge k (suc n))

-- some element has bit b, by the sums of the widths
record Held (log : List ℕ) (n b : ℕ) : Type 0 where
  at : ℕ
  below : at < n
  from : widths log at ≤ b
  to : b < widths log at + width_at log at

find : (log : List ℕ) (n b : ℕ) → b < widths log n → Held log n b
unfolding widths
find log zero b h = absurd (omega arith)
find log (suc n) b h =
    ⊎_elim
    (λ (l : b < widths log n). let f = find log n b l in record { at = f.at; below = omega arith; from = f.from; to = f.to })
    (λ (g : widths log n ≤ b). record { at = n; below = omega arith; from = g; to = h })
    (lt_or_ge b (widths log n))

-- two elements with one bit are one
same : (log : List ℕ) (b i j : ℕ) → widths log i ≤ b → b < widths log i + width_at log i
    → widths log j ≤ b → b < widths log j + width_at log j → i ≡ j
same log b i j f t f' t' =
    ⊎_elim
    (λ (l : i < j). absurd (omega (arith, widths_le log j (suc i) l, widths_suc log i)))
    (λ (g : j ≤ i).
    ⊎_elim
    (λ (l : j < i). absurd (omega (arith, widths_le log i (suc j) l, widths_suc log j)))
    (λ (g' : i ≤ j). omega arith)
    (lt_or_ge j i))
    (lt_or_ge i j)

-- elements that tile the bits below pos: their widths sum to pos
pub reaches_sum : (log : List ℕ) (n pos : ℕ) → Reaches log n pos → widths log n ≡ pos
reaches_sum log n pos r = sym (end_widths log n r.starts) ∙ r.ends

-- and each of those bits lies in exactly one of them
pub reaches_one : (log : List ℕ) (n pos : ℕ) → Reaches log n pos → (b : ℕ) → b < pos → InOne log n b
reaches_one log n pos r b h =
    let at_width : (k : ℕ) → k < n → pos_at log k ≡ widths log k =
    λ k l. r.starts k l ∙ end_widths log k (λ j m. r.starts j (omega arith)) in
    let f = find log n b (omega (arith, reaches_sum log n pos r)) in
    let s = at_width f.at f.below in
    record {
      at = f.at;
      below = f.below;
      from = omega (arith, f.from);
      to = omega (arith, f.to);
      only = λ j l from' to'. let s' = at_width j l in same log b j f.at (omega arith) (omega arith) f.from f.to;
    }

-- of an accepted tiling the widths sum to the total
pub accepted_sum : (log : List ℕ) (n total : ℕ) → tiling_of log n total ≡ taken tt → widths log n ≡ total
accepted_sum log n total e = reaches_sum log n total (accepted_reaches log n total e).1

-- and each bit below it lies in exactly one element
pub accepted_one : (log : List ℕ) (n total : ℕ) → tiling_of log n total ≡ taken tt → (b : ℕ) → b < total → InOne log n b
accepted_one log n total e = reaches_one log n total (accepted_reaches log n total e).1

-- an empty log reaches bit 0
pub reaches_none : (log : List ℕ) → Reaches log 0 0
reaches_none log = record { starts = λ k h. absurd (omega arith); ends = end_zero log }

-- an element that is written where the log ends
module _ (log : List ℕ) (k : ℕ) (e : Element) (room : 8 * k + 8 ≤ length log) where
  end_same : (n : ℕ) → n ≤ k → end_at (written log k e) n ≡ end_at log n
  unfolding end_at
  end_same zero h = refl
  end_same (suc n) h =
      rw (written_before log k e room (8 * n + 4) (omega arith), written_before log k e room (8 * n + 5) (omega arith))

  pub reaches_on : Reaches log k e.pos → Reaches (written log k e) (k + 1) (e.pos + e.width)
  reaches_on r =
      let p = written_at log k e room 4 (omega arith) in
      let w = written_at log k e room 5 (omega arith) in
      record {
        starts = λ n h.
            ⊎_elim
            (λ (l : n < k). written_before log k e room (8 * n + 4) (omega arith) ∙ r.starts n l ∙ sym (end_same n (omega arith)))
            (λ (g : k ≤ n). let z : n ≡ k = omega arith in rw z (p ∙ sym (end_same k (omega arith) ∙ r.ends)))
            (lt_or_ge n k);
        ends = end_next _ k ∙ rw (p, w);
      }
