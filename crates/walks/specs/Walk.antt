-- The conventional mantissa walk (TS 6.3.5; document 01, "Walks"): what a mantissa costs, what it does to the groups, and the walk over
-- a range of bins, for all inputs, by document 01's numbers and its order.
-- Assumes nothing.
use Rattle.std.specs.Prelude.{ℕ, ◌+◌, ◌%◌, ◌≡◌, Bool, false, cond, ◌||◌, List, [], ◌∷◌, length, get_or, eqb, ltb}
use Rattle.std.proofs.Math.Seq.{slice}
use Rattle.refusal.specs.Refusals.{Outcome, taken, refused, grounds, refuse_if, past_limit, Ran, ran_of, settle, then_run}
use Rattle.syntax.specs.declared.Place.{Place}
use Rattle.syntax.specs.Reads.{unsound, ahead}
use Rattle.walks.specs.declared.Groups.{Groups}
use Rattle.walks.specs.declared.Walked.{Walked}

-- where a walk stands: the cursor's place, and the groups
pub record State : Type 0 where
  pub place : Place
  pub groups : Groups

abbrev pub state : Place → Groups → State
state p g = record { place = p; groups = g }

-- what an answer means, with the place and the groups after it
abbrev pub walked_of : Walked → Ran State Unit
walked_of w = ran_of w.answer (state w.place w.groups)

-- a walk that has come so far
abbrev pub going : State → Ran State Unit
going s = record { outcome = taken tt; state = s }

-- a walk that is refused where it stands: number k at the cursor's bit
abbrev pub stopped : ℕ → State → Ran State Unit
stopped k s = record { outcome = refused (grounds k s.place.pos); state = s }

-- "Widths of bap 0, 3, 5 to 15: 0, 3, 4, 5, 6, 7, 8, 9, 10, 11, 12, 14, 16", in the code's place; codes 1, 2 and 4 have none of their own
abbrev pub widths : List ℕ
widths = 0 ∷ 0 ∷ 0 ∷ 3 ∷ 0 ∷ 4 ∷ 5 ∷ 6 ∷ 7 ∷ 8 ∷ 9 ∷ 10 ∷ 11 ∷ 12 ∷ 14 ∷ 16 ∷ []

unfoldable pub width : ℕ → ℕ
width b = get_or widths b 0

-- a group's bits "at a group's first member", before which it has none
abbrev pub share : ℕ → ℕ → ℕ
share n bits = cond (eqb n 0) bits 0

-- "Codes 1, 2, 4 cost 5, 7, 7 at a group's first member"
unfoldable pub cost : Groups → ℕ → ℕ
cost g b =
    cond (eqb b 1) (share g.g1 5)
    (cond (eqb b 2) (share g.g2 7)
    (cond (eqb b 4) (share g.g4 7)
    (width b)))

-- the groups with one mantissa more: "groups of 3, 3, 2"
unfoldable pub counted : Groups → ℕ → Groups
counted g b =
    cond (eqb b 1) (record { g1 = (g.g1 + 1) % 3; g2 = g.g2; g4 = g.g4 })
    (cond (eqb b 2) (record { g1 = g.g1; g2 = (g.g2 + 1) % 3; g4 = g.g4 })
    (cond (eqb b 4) (record { g1 = g.g1; g2 = g.g2; g4 = (g.g4 + 1) % 2 })
    g))

-- n bits from the cursor on: 1 where they pass the limit; no bits pass none
abbrev pub passing : Place → ℕ → Outcome Unit
passing p n = cond (eqb n 0) (taken tt) (past_limit (p.pos + n) p.limit p.pos (taken tt))

-- 13 for a code above 15; else the groups count the mantissa
abbrev pub counting_of : ℕ → State → Ran State Unit
counting_of b s = settle s (state s.place (counted s.groups b)) (refuse_if (ltb 15 b) 13 s.place.pos (taken tt))

-- the cursor moves over n bits
abbrev pub moving_of : ℕ → State → Ran State Unit
moving_of n s = settle s (state (ahead s.place n) s.groups) (passing s.place n)

-- one mantissa: it is counted, and then passed over
unfoldable pub mantissa_of : ℕ → State → Ran State Unit
mantissa_of b s = then_run (counting_of b s) (λ _ t. moving_of (cost s.groups b) t)

-- the mantissas of a list of codes in order; a refused walk stays where it stands
unfoldable pub walk_codes : List ℕ → Ran State Unit → Ran State Unit
walk_codes [] r = r
walk_codes (b ∷ bs) r = walk_codes bs (then_run r (λ _ s. mantissa_of b s))

-- "Range: start ≤ end ≤ 256, else 6"
abbrev pub unfit_range : ℕ → ℕ → Bool
unfit_range start end = ltb end start || ltb 256 end

-- "a group state no walk can reach gives 6 too"
abbrev pub unreachable : Groups → Bool
unreachable g = ltb 2 g.g1 || (ltb 2 g.g2 || ltb 1 g.g4)

-- the groups that a walk can leave
abbrev pub Reachable : Groups → Type 0
Reachable g = unreachable g ≡ false

abbrev pub unfit_walk : ℕ → Place → ℕ → ℕ → Groups → Bool
unfit_walk len place start end groups = unsound len place || (unfit_range start end || unreachable groups)

-- the walk over the bins from start to end: 6, then mantissa by mantissa
unfoldable pub walk_of : List ℕ → Place → List ℕ → ℕ → ℕ → Groups → Ran State Unit
walk_of frame place bap start end groups =
    let s = state place groups in
    walk_codes (slice start end bap)
    (settle s s (refuse_if (unfit_walk (length frame) place start end groups) 6 place.pos (taken tt)))
