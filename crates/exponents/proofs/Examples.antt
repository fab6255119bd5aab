-- Document 01, fixed values K4 to K7, and its "Run" of exponents: the definitions, computed; and what that run says of every group.
-- Assumes nothing.
use Prim.Native.Nat.{ℕ, ◌+◌, ◌-◌, ◌*◌, ◌/◌}
use mathlib.Core.Path.{◌≡◌, refl}
use mathlib.Core.Bool.{true, false}
use mathlib.Core.List.{List, [], ◌∷◌, ◌++◌}
use native.Mathlib.Omega.{arith}
use lib.ListN.{length, replicate}
use lib.IntN.{pos}
use borrow.Author.Tests.{lt-ltb, le-ltb}
use Rattle.refusal.specs.Refusals.{grounds, taken, refused, Ran}
use Rattle.bits.specs.Bits.{bit_at, bits_at}
use Rattle.syntax.specs.Elements.{written}
use Rattle.syntax.specs.Reads.{standing, fits, read_of}
use Rattle.exponents.specs.Set.{size_of, group_count, digits, all_digits, running, outside, spread, bins_of}
use Rattle.exponents.specs.Reads.{Left, group_of, groups_of, set_of, no_set, read_exponents_of}
use Rattle.exponents.proofs.Lists.{three_on_scale}

-- a slot's exponents, read from bit 0 of some bytes in block 0, with an empty log that has room for a few elements
abbrev over : ℕ → ℕ → ℕ → ℕ → ℕ → List ℕ → Ran Left Unit
over room slot strategy start end bytes =
    read_exponents_of bytes (standing (record { pos = 0; limit = 8 * length bytes; block = pos 0; count = 0 }) (replicate (8 * room) 0)) slot strategy start end

abbrev read : ℕ → ℕ → ℕ → ℕ → List ℕ → Ran Left Unit
read = over 3

-- it is taken, and from bin at on the exponents are these, all others 0
abbrev Gives : Ran Left Unit → ℕ → List ℕ → Type 0
Gives r at es = (r.outcome ≡ taken tt) × (r.state.set.exp ≡ replicate at 0 ++ es ++ replicate (256 - at - length es) 0)

-- it is refused by number k at bit b, with no set, and the cursor stands there
abbrev Refuses : Ran Left Unit → ℕ → ℕ → Type 0
Refuses r k b = (r.outcome ≡ refused (grounds k b)) × (r.state.set ≡ no_set) × (r.state.standing.place.pos ≡ b)

-- "K4 slot 0, D15, 0..4, absolute 5, group 62: 5,5,5,5"
pub k4 : Gives (read 0 1 0 4 (0x57 ∷ 0xC0 ∷ [])) 0 (5 ∷ 5 ∷ 5 ∷ 5 ∷ [])
unfolding set_of groups_of group_of size_of group_count all_digits running outside spread read_of fits written bits_at bit_at
k4 = (refl, refl)

-- "K5 group 124: 5,7,9,11"
pub k5 : Gives (read 0 1 0 4 (0x5F ∷ 0x80 ∷ [])) 0 (5 ∷ 7 ∷ 9 ∷ 11 ∷ [])
unfolding set_of groups_of group_of size_of group_count all_digits running outside spread read_of fits written bits_at bit_at
k5 = (refl, refl)

-- "K6 group 125: 7"
pub k6 : Refuses (read 0 1 0 4 (0x5F ∷ 0xA0 ∷ [])) 7 11
unfolding set_of groups_of group_of size_of group_count all_digits running outside spread read_of fits written bits_at bit_at
k6 = (refl, refl, refl)

-- "K7 absolute 1, group 0: 8"
pub k7 : Refuses (read 0 1 0 4 (0x10 ∷ 0x00 ∷ [])) 8 11
unfolding set_of groups_of group_of size_of group_count all_digits running outside spread read_of fits written bits_at bit_at
k7 = (refl, refl, refl)

-- "Coupling absolute 13 needs a first step of -2": group 12 has it, group 37 begins with -1
pub coupling-13 : Gives (read 5 1 10 13 (0xD1 ∷ 0x80 ∷ [])) 10 (24 ∷ 24 ∷ 24 ∷ []) × Refuses (read 5 1 10 13 (0xD4 ∷ 0xA0 ∷ [])) 8 11
unfolding set_of groups_of group_of size_of group_count all_digits running outside spread read_of fits written bits_at bit_at
coupling-13 = ((refl, refl), (refl, refl, refl))

pub coupling-13-needs : (v : ℕ) → outside (2 * 13) (digits v) ≡ false → v / 25 ≡ 0
coupling-13-needs v h = let s = (three_on_scale 26 _ _ _ h).0.1 in omega (arith, s)

-- "14 gives 8 whenever a first group of at most 124 is read"; a group of 125 gives 7
pub coupling-14 : Refuses (read 5 1 10 13 (0xE1 ∷ 0x80 ∷ [])) 8 11 × Refuses (read 5 1 10 13 (0xEF ∷ 0xA0 ∷ [])) 7 11
unfolding set_of groups_of group_of size_of group_count all_digits running outside spread read_of fits written bits_at bit_at
coupling-14 = ((refl, refl, refl), (refl, refl, refl))

pub coupling-14-never : (v : ℕ) → outside (2 * 14) (digits v) ≡ true
unfolding outside
coupling-14-never v = rw (le-ltb (28 + v / 25) 2 (omega arith), lt-ltb 24 (28 + v / 25 - 2) (omega arith))

-- "D15 end 2 in slot 0 gives 9": no group is read
pub short : Refuses (read 0 1 0 2 (0x50 ∷ [])) 9 4
unfolding set_of groups_of group_of size_of group_count all_digits running outside spread read_of fits written bits_at bit_at
short = (refl, refl, refl)

-- D45: each result stands in four bins; LFE has two groups; past bin 255 nothing is kept
pub sizes : Gives (read 0 3 0 4 (0x5F ∷ 0x80 ∷ [])) 0 (5 ∷ 7 ∷ 7 ∷ 7 ∷ 7 ∷ 9 ∷ 9 ∷ 9 ∷ 9 ∷ 11 ∷ 11 ∷ 11 ∷ 11 ∷ [])
    × Gives (read 6 1 0 7 (0x57 ∷ 0xDF ∷ 0x00 ∷ [])) 0 (5 ∷ 5 ∷ 5 ∷ 5 ∷ 7 ∷ 9 ∷ 11 ∷ [])
    × (bins_of 254 (1 ∷ 2 ∷ 3 ∷ []) ≡ replicate 254 0 ++ (1 ∷ 2 ∷ []))
unfolding set_of groups_of group_of size_of group_count all_digits running outside spread read_of fits written bits_at bit_at
sizes = ((refl, refl), (refl, refl), refl)

-- what is logged: slot 3 with its index, coupling with 0
pub logs : ((read 3 1 0 4 (0x57 ∷ 0xC0 ∷ [])).state.standing.log
    ≡ (1 ∷ 0 ∷ 0 ∷ 3 ∷ 0 ∷ 4 ∷ 5 ∷ 0 ∷ []) ++ (2 ∷ 0 ∷ 0 ∷ 3 ∷ 4 ∷ 7 ∷ 62 ∷ 0 ∷ []) ++ replicate 8 0)
    × ((read 5 1 10 13 (0xD4 ∷ 0xA0 ∷ [])).state.standing.log
    ≡ (3 ∷ 0 ∷ 0 ∷ 0 ∷ 0 ∷ 4 ∷ 13 ∷ 0 ∷ []) ++ (4 ∷ 0 ∷ 0 ∷ 0 ∷ 4 ∷ 7 ∷ 37 ∷ 0 ∷ []) ++ replicate 8 0)
unfolding set_of groups_of group_of size_of group_count all_digits running outside spread read_of fits written bits_at bit_at
logs = (refl, refl)

-- 6 for slot, strategy and range; 1 for a group past the limit; 19 for a full log
pub refusals : Refuses (read 7 1 0 4 (0x57 ∷ 0xC0 ∷ [])) 6 0 × Refuses (read 0 0 0 4 (0x57 ∷ 0xC0 ∷ [])) 6 0
    × Refuses (read 0 4 0 4 (0x57 ∷ 0xC0 ∷ [])) 6 0 × Refuses (read 0 1 4 4 (0x57 ∷ 0xC0 ∷ [])) 6 0
    × Refuses (read 0 1 0 257 (0x57 ∷ 0xC0 ∷ [])) 6 0 × Refuses (read 0 1 0 4 (0x57 ∷ [])) 1 4
    × Refuses (over 1 0 1 0 4 (0x57 ∷ 0xC0 ∷ [])) 19 4
unfolding set_of groups_of group_of size_of group_count all_digits running outside spread read_of fits written bits_at bit_at
refusals =
    ((refl, refl, refl), (refl, refl, refl), (refl, refl, refl), (refl, refl, refl), (refl, refl, refl), (refl, refl, refl), (refl, refl, refl))
