-- The calling convention: what a call comes to, as the number answered and what the lent room holds then.
-- Assumes nothing.
use Rattle.std.specs.Prelude.{ℕ, List}
use Rattle.refusal.specs.Refusals.{Outcome, taken, refused, Ran}

-- the number answered: 0 where the call is taken, else the refusal's
abbrev pub code_of : {A : Type 0} → Outcome A → ℕ
code_of (taken a) = 0
code_of (refused g) = g.number

-- the room for the bit: the refusal's, 0 where the call is taken
abbrev pub bit_of : {A : Type 0} → Outcome A → ℕ
bit_of (taken a) = 0
bit_of (refused g) = g.bit

-- the room for the value: another where the call is refused
abbrev pub value_or : {A : Type 0} → A → Outcome A → A
value_or other (taken a) = a
value_or other (refused g) = other

-- what a caller is told: the number answered, and the room for the bit
pub record Told : Type 0 where
  pub code : ℕ
  pub bit : ℕ

abbrev pub told : ℕ → ℕ → Told
told k b = record { code = k; bit = b }

abbrev pub told_of : {A : Type 0} → Outcome A → Told
told_of o = told (code_of o) (bit_of o)

-- the same with a value
pub record Reply (A : Type 0) : Type 0 where
  pub code : ℕ
  pub value : A
  pub bit : ℕ

abbrev pub reply : {A : Type 0} → ℕ → A → ℕ → Reply A
reply k v b = record { code = k; value = v; bit = b }

abbrev pub reply_of : {A : Type 0} → A → Outcome A → Reply A
reply_of other o = reply (code_of o) (value_or other o) (bit_of o)

-- the same of a call that changes lent bytes, and gives no value
pub record Running : Type 0 where
  pub told : Told
  pub bytes : List ℕ

abbrev pub running : ℕ → ℕ → List ℕ → Running
running k b bs = record { told = told k b; bytes = bs }

abbrev pub running_of : {A : Type 0} → Ran (List ℕ) A → Running
running_of r = record { told = told_of r.outcome; bytes = r.state }
