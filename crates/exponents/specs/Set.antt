-- From the groups of a channel to its exponents (TS 6.1.3), in the words of document 01, "Exponents". Nothing is read here.
-- Assumes nothing.
use Rattle.std.specs.Prelude.{ℕ, ◌+◌, ◌-◌, ◌*◌, ◌/◌, ◌%◌, ◌^◌, Bool, false, cond, ◌||◌, List, [], ◌∷◌, ◌++◌, replicate, ltb}
use Rattle.std.proofs.lemmas.List.Edits.{sets}
use Rattle.tables.specs.Bands.{zeros}
use Rattle.tables.specs.Slots.{is_coupling, is_lfe}

-- what goes for a full bandwidth channel, for coupling and for LFE
abbrev pub by_slot : {A : Type 0} → ℕ → A → A → A → A
by_slot slot full coupling lfe = cond (is_coupling slot) coupling (cond (is_lfe slot) lfe full)

-- "Group size g is 1, 2, 4"
unfoldable pub size_of : ℕ → ℕ
size_of strategy = 2 ^ (strategy - 1)

-- "Groups: coupling (end-start)/3g; LFE 2; others (end-1+3g-3)/3g, rounded down"
unfoldable pub group_count : ℕ → ℕ → ℕ → ℕ → ℕ
group_count slot g start end = by_slot slot ((end - 1 + 3 * g - 3) / (3 * g)) ((end - start) / (3 * g)) 2

-- "Each 7-bit group gives three steps, base-5 digits minus 2": its digits, the highest first
abbrev pub digits : ℕ → List ℕ
digits v = v / 25 ∷ v / 5 % 5 ∷ v % 5 ∷ []

-- those of every group
unfoldable pub all_digits : List ℕ → List ℕ
all_digits [] = []
all_digits (v ∷ vs) = digits v ++ all_digits vs

-- the results: each is the one before it, from e on, plus a digit minus 2
unfoldable pub running : ℕ → List ℕ → List ℕ
running e [] = []
running e (d ∷ ds) = (e + d - 2) ∷ running (e + d - 2) ds

-- a result that is 2 less than a sum is below 0, or above 24
abbrev pub off_scale : ℕ → Bool
off_scale sum = ltb sum 2 || ltb 24 (sum - 2)

-- "each result is tested 0..24": whether some result is outside
unfoldable pub outside : ℕ → List ℕ → Bool
outside e [] = false
outside e (d ∷ ds) = off_scale (e + d) || outside (e + d - 2) ds

-- "then repeated g times"
unfoldable pub spread : ℕ → List ℕ → List ℕ
spread g [] = []
spread g (e ∷ es) = replicate g e ++ spread g es

-- "Absolute exponent 4 bits, doubled for coupling": what the first step is added to
abbrev pub first_of : ℕ → ℕ → ℕ
first_of slot abs = cond (is_coupling slot) (2 * abs) abs

-- "and there not itself an output"
abbrev pub leading : ℕ → ℕ → List ℕ
leading slot abs = cond (is_coupling slot) [] (abs ∷ [])

-- the outputs of an absolute exponent and all its groups
abbrev pub outputs : ℕ → ℕ → ℕ → List ℕ → List ℕ
outputs slot g abs vs = leading slot abs ++ spread g (running (first_of slot abs) (all_digits vs))

-- "Outputs stand from bin 0, or from start for coupling"
abbrev pub base_of : ℕ → ℕ → ℕ
base_of slot start = cond (is_coupling slot) start 0

-- "bins without one are 0", 256 of them; storing past the last bin changes nothing: "those past bin 255 are dropped"
abbrev pub bins_of : ℕ → List ℕ → List ℕ
bins_of base outs = sets zeros base outs
