-- Reading the exponents of one channel: what it comes to, and the place, the log and the set after it, for all inputs, by document 01's
-- numbers and its order of tests.
-- Assumes nothing.
use Rattle.std.specs.Prelude.{ℕ, zero, suc, ◌+◌, Bool, ◌||◌, List, [], ◌∷◌, ◌++◌, length, pos, leb, ltb}
use Rattle.refusal.specs.Refusals.{outcome_of, taken, refuse_if, Ran, ends, leaves, then_run}
use Rattle.syntax.specs.declared.Role.TheVariants.{Plain}
use Rattle.syntax.specs.declared.Ask.{Ask}
use Rattle.syntax.specs.Names as names
use Rattle.syntax.specs.Reads.{Standing, standing, read_of}
use Rattle.exponents.specs.declared.ExpSet.{ExpSet}
use Rattle.exponents.specs.declared.Exponents.{Exponents}
use Rattle.tables.specs.Bands.{zeros}
use Rattle.tables.specs.Slots.{no_slot}
use Rattle.exponents.specs.Set.{by_slot, size_of, group_count, all_digits, outside, first_of, outputs, base_of, bins_of}

-- what reading a set leaves behind: the cursor's numbers and the log, and the set
pub record Left : Type 0 where
  pub standing : Standing
  pub set : ExpSet

abbrev pub left : Standing → ExpSet → Left
left st set = record { standing = st; set = set }

-- what an answer means, with the log after it
abbrev pub exponents_of : Exponents → List ℕ → Ran Left Unit
exponents_of r log = record { outcome = outcome_of r.answer; state = left (standing r.place log) r.set }

-- "6 for slot, strategy, then range (start < end ≤ 256 required)"
abbrev pub unfit : ℕ → ℕ → ℕ → ℕ → Bool
unfit slot strategy start end = no_slot slot || ltb strategy 1 || ltb 3 strategy || leb end start || ltb 256 end

abbrev pub fit_of : Standing → ℕ → ℕ → ℕ → ℕ → Ran Standing Unit
fit_of st slot strategy start end = ends st (refuse_if (unfit slot strategy start end) 6 st.place.pos (taken tt))

-- an element that is asked for: its name by the slot, the slot as its index, 0 for coupling and LFE
abbrev pub ask_of : ℕ → ℕ → ℕ → ℕ → ℕ → Ask
ask_of slot full coupling lfe width =
    record { name = by_slot slot full coupling lfe; role = Plain; index = pos (by_slot slot slot 0 0); width = width }

-- the absolute exponent, 4 bits, and a group, 7 bits
abbrev pub abs_ask : ℕ → Ask
abs_ask slot = ask_of slot names.absexp names.cplabsexp names.lfeabsexp 4

abbrev pub group_ask : ℕ → Ask
group_ask slot = ask_of slot names.exps names.cplexps names.lfeexps 7

-- the groups vs and one more, from the exponent e on: it is read; then 7, "grouped exponent above 124", and 8, "exponent outside 0..24"
unfoldable pub group_of : List ℕ → Ask → ℕ → List ℕ → Standing → Ran Standing (List ℕ)
group_of frame ask e vs st =
    then_run (read_of frame st ask) (λ v st₁.
    ends st₁
    (refuse_if (ltb 124 v) 7 st₁.place.pos
    (refuse_if (outside e (all_digits (vs ++ (v ∷ [])))) 8 st₁.place.pos
    (taken (vs ++ (v ∷ []))))))

-- the values of n groups, read one after another
unfoldable pub groups_of : List ℕ → Ask → ℕ → ℕ → Standing → Ran Standing (List ℕ)
groups_of frame ask e zero st = ends st (taken [])
groups_of frame ask e (suc n) st = then_run (groups_of frame ask e n st) (group_of frame ask e)

-- a set: 6, the absolute exponent, every group, and last 9, "exponent set shorter than its range"
unfoldable pub set_of : List ℕ → Standing → ℕ → ℕ → ℕ → ℕ → Ran Standing ExpSet
set_of frame st slot strategy start end =
    let g = size_of strategy in
    let base = base_of slot start in
    then_run (fit_of st slot strategy start end) (λ _ st₀.
    then_run (read_of frame st₀ (abs_ask slot)) (λ abs st₁.
    then_run (groups_of frame (group_ask slot) (first_of slot abs) (group_count slot g start end) st₁) (λ vs st₂.
    ends st₂
    (refuse_if (ltb (base + length (outputs slot g abs vs)) end) 9 st₂.place.pos
    (taken (record { exp = bins_of base (outputs slot g abs vs); start = start; end = end }))))))

-- "exponent sets are all zeros on refusal"
abbrev pub no_set : ExpSet
no_set = record { exp = zeros; start = 0; end = 0 }

-- the set that was taken, and none where the reading is refused
abbrev pub left_of : Ran Standing ExpSet → Ran Left Unit
left_of r = record { outcome = (leaves no_set r.outcome).outcome; state = left r.state (leaves no_set r.outcome).state }

-- what reading the exponents of a slot comes to
abbrev pub read_exponents_of : List ℕ → Standing → ℕ → ℕ → ℕ → ℕ → Ran Left Unit
read_exponents_of frame st slot strategy start end = left_of (set_of frame st slot strategy start end)
