-- Document 01's refusal numbers, and what a call comes to: a value, or a refusal by its number and the cursor's bit.
-- Definitions above this crate are written with these words, in the document's numbers and its order of tests.
-- Assumes nothing.
use Rattle.std.specs.Prelude.{ℕ, Bool, cond, ◌||◌, ltb, Result, Ok, Err}
use Rattle.refusal.specs.declared.Why.{Why}
use Rattle.refusal.specs.declared.Why.TheVariants as why
use Rattle.refusal.specs.declared.Refusal.{Refusal}

-- document 01, the table "Refusal numbers"
abbrev pub number_of : Why → ℕ
number_of why.PastLimit = 1
number_of why.NoSync = 2
number_of why.ShortHeader = 3
number_of why.BadSize = 4
number_of why.BadBsid = 5
number_of why.BadArgument = 6
number_of why.GroupAbove = 7
number_of why.ExponentOutside = 8
number_of why.SetTooShort = 9
number_of why.NotSent = 10
number_of why.CodePastTable = 11
number_of why.NotCovered = 12
number_of why.PointerAbove = 13
number_of why.GainAbove = 14
number_of why.BadDelta = 15
number_of why.NoRoomForTail = 16
number_of why.BadAux = 17
number_of why.NotTiled = 18
number_of why.LogFull = 19
number_of why.BadLength = 20
number_of why.BadTables = 21

-- on what grounds a call is refused: "a refusal carries its number and the cursor's bit, 0 without a cursor"
pub record Grounds : Type 0 where
  pub number : ℕ
  pub bit : ℕ

-- number k at bit b
abbrev pub grounds : ℕ → ℕ → Grounds
grounds k b = record { number = k; bit = b }

-- what a call comes to: it is taken, with a value, or refused
pub data Outcome (A : Type 0) : Type 0 where
  taken : A → Outcome A
  refused : Grounds → Outcome A

-- the code's refusal in the document's terms
abbrev pub grounds_of : Refusal → Grounds
grounds_of r = grounds (number_of r.why) r.bit

-- what a call comes to that answers the refusal r
abbrev pub told : {A : Type 0} → Refusal → Outcome A
told r = refused (grounds_of r)

-- what a call comes to, by its answer
abbrev pub outcome_of : {A : Type 0} → Result A Refusal → Outcome A
outcome_of (Ok a) = taken a
outcome_of (Err r) = told r

-- k at bit b where the test holds, else what follows
abbrev pub refuse_if : {A : Type 0} → Bool → ℕ → ℕ → Outcome A → Outcome A
refuse_if test k b next = cond test (refused (grounds k b)) next

-- 1 at bit b where a stretch of bits ends past the limit, else what follows
abbrev pub past_limit : {A : Type 0} → ℕ → ℕ → ℕ → Outcome A → Outcome A
past_limit end limit b next = cond (ltb limit end) (refused (grounds 1 b)) next

-- 1 at bit b where either of two stretches ends past its limit, else what follows
abbrev pub past_either : {A : Type 0} → ℕ → ℕ → ℕ → ℕ → ℕ → Outcome A → Outcome A
past_either end limit end' limit' b next = cond (ltb limit end || ltb limit' end') (refused (grounds 1 b)) next

-- what follows a call that was taken; a refusal is passed on
abbrev pub and_then : {A B : Type 0} → Outcome A → (A → Outcome B) → Outcome B
and_then (taken a) next = next a
and_then (refused g) next = refused g

-- a refusal from below, told at the cursor's bit b
abbrev pub placed : {A : Type 0} → ℕ → Outcome A → Outcome A
placed b (taken a) = taken a
placed b (refused g) = refused (grounds g.number b)

-- a call over a state: what it comes to, and the state after it, also where it is refused
pub record Ran (S A : Type 0) : Type 0 where
  pub outcome : Outcome A
  pub state : S

-- an answer over a state, with the state after it
abbrev pub ran_of : {S A : Type 0} → Result A Refusal → S → Ran S A
ran_of r s = record { outcome = outcome_of r; state = s }

-- an outcome that leaves the state as it stands
abbrev pub ends : {S A : Type 0} → S → Outcome A → Ran S A
ends s o = record { outcome = o; state = s }

-- a call that leaves the state s where it is refused, and s' where it is taken
abbrev pub settle : {S A : Type 0} → S → S → Outcome A → Ran S A
settle s s' (taken a) = record { outcome = taken a; state = s' }
settle s s' (refused g) = record { outcome = refused g; state = s }

-- a call that leaves what it was taken with, and s where it is refused: "Allocation state changes only on success; bap answers .. are all
-- zeros on refusal"
abbrev pub leaves : {S : Type 0} → S → Outcome S → Ran S Unit
leaves s (taken s') = record { outcome = taken tt; state = s' }
leaves s (refused g) = record { outcome = refused g; state = s }

-- what follows an outcome over a state; a refusal is passed on, with the state as it stands
abbrev pub follow : {S A B : Type 0} → Outcome A → S → (A → S → Ran S B) → Ran S B
follow (taken a) s next = next a s
follow (refused g) s next = record { outcome = refused g; state = s }

-- what follows a call over a state
abbrev pub then_run : {S A B : Type 0} → Ran S A → (A → S → Ran S B) → Ran S B
then_run r next = follow r.outcome r.state next
