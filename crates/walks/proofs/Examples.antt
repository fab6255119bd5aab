-- Document 01, fixed values: K1, K2, K3, and the row 4 then 4, which tells shared groups from groups that begin anew at each channel;
-- and where a refused walk leaves the cursor and the groups. antt computes them. Assumes nothing.
use Prim.Native.Nat.{ℕ, ◌-◌}
use mathlib.Core.Path.{◌≡◌, refl}
use mathlib.Core.List.{List, [], ◌∷◌, ◌++◌, map}
use lib.ListN.{length, replicate}
use lib.IntN.{pos}
use Rattle.refusal.specs.Refusals.{taken, Ran}
use Rattle.syntax.specs.declared.Place.{Place}
use Rattle.syntax.specs.Reads.{Standing, standing}
use Rattle.walks.specs.Walk.{State, state, stopped, width, cost, counted, mantissa_of, walk_codes, walk_of}
use Rattle.walks.specs.Row.{sum_of, bits_t, Item, walk, no_groups, item_of, row_from, row_of, end_of, met_of, codes_in}

-- the codes of a channel, from bin 0 on; the other bins are 0
abbrev channel : List ℕ → List ℕ
channel cs = cs ++ replicate (256 - length cs) 0

-- walks over them
abbrev walks : List (List ℕ) → List Item
walks css = map (λ (cs : List ℕ). walk (record { bap = channel cs; start = 0; end = length cs })) css

-- a frame of 64 bytes, and a cursor at its bit 0
abbrev frame : List ℕ
frame = replicate 64 0

abbrev place : ℕ → Place
place limit = record { pos = 0; limit = limit; block = pos 0; count = 0 }

abbrev start : Standing
start = standing (place 512) []

-- the row passes, ends at bit n, and its T is n
abbrev Costs : List (List ℕ) → ℕ → Type 0
Costs css n = ((row_of frame start (walks css)).outcome ≡ taken tt) × (end_of frame start (walks css) ≡ n) × (bits_t (codes_in (walks css)) ≡ n)

pub k1 : Costs ((1 ∷ 1 ∷ 1 ∷ 1 ∷ []) ∷ []) 10
unfolding row_from item_of walk_of walk_codes mantissa_of cost counted width bits_t sum_of met_of
k1 = (refl, refl, refl)

pub k2 : Costs ((1 ∷ 2 ∷ 4 ∷ 3 ∷ 0 ∷ 15 ∷ []) ∷ []) 38
unfolding row_from item_of walk_of walk_codes mantissa_of cost counted width bits_t sum_of met_of
k2 = (refl, refl, refl)

pub k3 : Costs ((4 ∷ []) ∷ (4 ∷ 4 ∷ []) ∷ []) 14
unfolding row_from item_of walk_of walk_codes mantissa_of cost counted width bits_t sum_of met_of
k3 = (refl, refl, refl)

-- with groups that begin anew it would be 14
pub four_then_four : Costs ((4 ∷ []) ∷ (4 ∷ []) ∷ []) 7
unfolding row_from item_of walk_of walk_codes mantissa_of cost counted width bits_t sum_of met_of
four_then_four = (refl, refl, refl)

-- a walk over codes from bit 0, with no group open, and how it ends
abbrev over : ℕ → List ℕ → Ran State Unit
over limit cs = walk_of frame (place limit) (channel cs) 0 (length cs) no_groups

abbrev refused_at : ℕ → ℕ → ℕ → ℕ → Ran State Unit
refused_at k bit g1 limit =
    stopped k (state (record { pos = bit; limit = limit; block = pos 0; count = 0 }) (record { g1 = g1; g2 = 0; g4 = 0 }))

-- 1: the second 1 is free, the 3 and then a third 1 pass, and a fourth begins a group, which is counted though its 5 bits pass the limit;
-- 13: the code is not counted; 6: a limit past the data, a range past bin 256, groups that no walk leaves
pub refusals : (over 12 (1 ∷ 1 ∷ 3 ∷ 1 ∷ 1 ∷ []) ≡ refused_at 1 8 1 12) × (over 12 (1 ∷ 16 ∷ []) ≡ refused_at 13 5 1 12)
    × (over 513 (1 ∷ []) ≡ refused_at 6 0 0 513) × (walk_of frame (place 12) (channel []) 0 257 no_groups ≡ refused_at 6 0 0 12)
    × (walk_of frame (place 12) (channel []) 0 1 (record { g1 = 3; g2 = 0; g4 = 0 }) ≡ refused_at 6 0 3 12)
unfolding walk_of walk_codes mantissa_of cost counted width
refusals = (refl, refl, refl, refl, refl)
