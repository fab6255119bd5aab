-- What the code holds on its way: the last result, the bin of the next, and the bins. These follow the steps of private functions: no public
-- contract cites them. A group at a time it comes to the same as all groups at once (`proofs/Turns.antt`).
-- Assumes nothing.
use Rattle.std.specs.Prelude.{ℕ, zero, suc, ◌+◌, ◌-◌, ◌*◌, List, [], ◌∷◌, length, replicate, ltb, Result, Ok, Err}
use Rattle.std.proofs.lemmas.List.Edits.{sets}
use Rattle.refusal.specs.Refusals.{Outcome, taken, told, refuse_if, Ran, ends, then_run}
use Rattle.refusal.specs.declared.Refusal.{Refusal}
use Rattle.syntax.specs.declared.Ask.{Ask}
use Rattle.syntax.specs.Reads.{Standing, read_of}
use Rattle.exponents.specs.declared.ExpSet.{ExpSet}
use Rattle.exponents.specs.declared.run.Run.{Run}
use Rattle.exponents.specs.Set.{digits, running, off_scale, outside, spread, first_of, leading, base_of}
use Rattle.exponents.specs.Reads.{Left, abs_ask, left_of}

pub record Laid : Type 0 where
  pub last : ℕ
  pub next : ℕ
  pub exp : List ℕ

abbrev pub laid : ℕ → ℕ → List ℕ → Laid
laid last next exp = record { last = last; next = next; exp = exp }

-- what a run holds, with the bins
abbrev pub laid_of : Run → List ℕ → Laid
laid_of w exp = laid w.last w.next exp

-- what goes with an answer, where it is no refusal
abbrev pub holding : {A B : Type 0} → Result A Refusal → B → Outcome B
holding (Ok _) b = taken b
holding (Err r) b = told r

-- the last result of some digits
unfoldable pub last_of : ℕ → List ℕ → ℕ
last_of e [] = e
last_of e (d ∷ ds) = last_of (e + d - 2) ds

-- before any group
abbrev pub begun_of : ℕ → ℕ → List ℕ → ℕ → Laid
begun_of slot start exp abs =
    laid (first_of slot abs) (base_of slot start + length (leading slot abs)) (sets exp (base_of slot start) (leading slot abs))

-- with one digit more, whose result stands in g bins: 8 where it is outside
abbrev pub stepped : ℕ → Laid → ℕ → Laid
stepped g l d = laid (l.last + d - 2) (l.next + g) (sets l.exp l.next (replicate g (l.last + d - 2)))

abbrev pub step_on : ℕ → ℕ → Laid → ℕ → Outcome Laid
step_on g bit l d = refuse_if (off_scale (l.last + d)) 8 bit (taken (stepped g l d))

-- with one group more
abbrev pub onward : ℕ → Laid → ℕ → Laid
onward g l v =
    laid (last_of l.last (digits v)) (l.next + 3 * g) (sets l.exp l.next (spread g (running l.last (digits v))))

-- a group that was read: 7, then 8, then it is unpacked
unfoldable pub unpack_on : ℕ → Laid → Ran Standing ℕ → Ran Standing Laid
unpack_on g l r =
    then_run r (λ v st.
    ends st
    (refuse_if (ltb 124 v) 7 st.place.pos
    (refuse_if (outside l.last (digits v)) 8 st.place.pos
    (taken (onward g l v)))))

-- one group, and n of them
unfoldable pub group_on : List ℕ → Ask → ℕ → Ran Standing Laid → Ran Standing Laid
group_on frame ask g r = then_run r (λ l st. unpack_on g l (read_of frame st ask))

unfoldable pub groups_on : List ℕ → Ask → ℕ → ℕ → Ran Standing Laid → Ran Standing Laid
groups_on frame ask g zero r = r
groups_on frame ask g (suc n) r = group_on frame ask g (groups_on frame ask g n r)

-- the absolute exponent
unfoldable pub first_on : List ℕ → ℕ → ℕ → List ℕ → Standing → Ran Standing Laid
first_on frame slot start exp st = then_run (read_of frame st (abs_ask slot)) (λ abs st₁. ends st₁ (taken (begun_of slot start exp abs)))

-- the set of what was laid: 9
unfoldable pub closed_on : ℕ → ℕ → Ran Standing Laid → Ran Standing ExpSet
closed_on start end r =
    then_run r (λ l st.
    ends st
    (refuse_if (ltb l.next end) 9 st.place.pos
    (taken (record { exp = l.exp; start = start; end = end }))))

-- and what is left where there is none
unfoldable pub finish_on : ℕ → ℕ → Ran Standing Laid → Ran Left Unit
finish_on start end r = left_of (closed_on start end r)
