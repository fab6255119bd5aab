-- What the functions of this crate answer, for all inputs, by document 01's numbers: "The bits layer tests 6, then 1 for any range
-- (position plus width) past either buffer; a refused set changes nothing, and a set takes the value's low bits."
-- There is no cursor here, so a refusal's bit is 0. Assumes nothing.
use Rattle.std.specs.Prelude.{ℕ, ◌+◌, ◌*◌, List, Bool, length, ltb, eqb}
use Rattle.refusal.specs.Refusals.{Outcome, taken, refuse_if, past_limit, past_either, and_then, Ran, settle}
use Rattle.bits.specs.Bits.{bits_at, set_bits}

-- the n bits from pos on pass the end of len bytes
abbrev pub beyond : ℕ → ℕ → ℕ → Bool
beyond len pos n = ltb (8 * len) (pos + n)

-- whether n bits from pos on may be read or set: 6 for a width above 32, then 1 for a range past the end
abbrev pub fit_of : ℕ → ℕ → ℕ → Outcome Unit
fit_of len pos n =
    refuse_if (ltb 32 n) 6 0
    (past_limit (pos + n) (8 * len) 0
    (taken tt))

-- reading: the bits' value
abbrev pub get_of : List ℕ → ℕ → ℕ → Outcome ℕ
get_of bs pos n = and_then (fit_of (length bs) pos n) (λ _. taken (bits_at bs pos n))

-- setting: a refused set changes nothing
abbrev pub set_of : List ℕ → ℕ → ℕ → ℕ → Ran (List ℕ) Unit
set_of bs pos n v = settle bs (set_bits bs pos n v) (fit_of (length bs) pos n)

-- comparing two ranges of any width: 1 where either passes its buffer, else whether they have the same bits,
-- which is whether they have the same value
abbrev pub range_eq_of : List ℕ → ℕ → List ℕ → ℕ → ℕ → Outcome Bool
range_eq_of x a y b n =
    past_either (a + n) (8 * length x) (b + n) (8 * length y) 0
    (taken (eqb (bits_at x a n) (bits_at y b n)))

-- whether a range of any width is all zeros: 1 where it passes its buffer
abbrev pub range_zero_of : List ℕ → ℕ → ℕ → Outcome Bool
range_zero_of x a n =
    past_limit (a + n) (8 * length x) 0
    (taken (eqb (bits_at x a n) 0))
