-- Laws of the answers: what a caller learns from an answer, and which answer it gets where it knows the range.
-- Assumes nothing.
use mathlib.Core.Path.{◌≡◌, sym, ap}
use mathlib.Core.List.{List}
use mathlib.Core.Bool.{true, false}
use Prim.Native.Nat.{ℕ, ◌+◌, ◌*◌, ◌^◌, ◌≤◌, ◌<◌}
use lib.ListN.{length}
use lib.Dec.{ltb}
use borrow.Author.Tests.{le-ltb, lt-ltb, ltb-false}
use Rattle.refusal.specs.Refusals.{Grounds, grounds, taken, refused, past_limit}
use Rattle.refusal.proofs.Laws.{taken_same, past_refuse_if, past_limit_lem, past_then}
use Rattle.bits.specs.Bits.{bits_at, set_bits}
use Rattle.bits.specs.Answers.{beyond, fit_of, get_of, set_of}
use Rattle.bits.proofs.Laws.{bits_at_lt}

module _ (bs : List ℕ) (pos n : ℕ) where
  -- a range inside is read
  pub get_inside : n ≤ 32 → pos + n ≤ 8 * length bs → get_of bs pos n ≡ taken (bits_at bs pos n)
  get_inside h l = simp (le-ltb 32 n h, le-ltb (8 * length bs) (pos + n) l)

  -- a range past the end is refused with 1
  pub get_past : n ≤ 32 → 8 * length bs < pos + n → get_of bs pos n ≡ refused (grounds 1 0)
  get_past h l = simp (le-ltb 32 n h, lt-ltb (8 * length bs) (pos + n) l)

  -- a width above 32 is refused with 6, wherever the range lies
  pub get_wide : 32 < n → get_of bs pos n ≡ refused (grounds 6 0)
  get_wide h = simp (lt-ltb 32 n h)

  module _ (v : ℕ) where
    -- a range inside is set
    pub set_inside : n ≤ 32 → pos + n ≤ 8 * length bs → set_of bs pos n v ≡ record { outcome = taken tt; state = set_bits bs pos n v }
    set_inside h l = simp (le-ltb 32 n h, le-ltb (8 * length bs) (pos + n) l)

    -- a refused set changes nothing
    pub set_past : n ≤ 32 → 8 * length bs < pos + n → set_of bs pos n v ≡ record { outcome = refused (grounds 1 0); state = bs }
    set_past h l = simp (le-ltb 32 n h, lt-ltb (8 * length bs) (pos + n) l)

    pub set_wide : 32 < n → set_of bs pos n v ≡ record { outcome = refused (grounds 6 0); state = bs }
    set_wide h = simp (lt-ltb 32 n h)

-- a value that was answered: what it is, and that the range lies inside
pub record Read (bs : List ℕ) (pos n v : ℕ) : Type 0 where
  pub narrow : n ≤ 32
  pub inside : pos + n ≤ 8 * length bs
  pub value : v ≡ bits_at bs pos n
  pub below : v < 2 ^ n

-- the tests of a range: the first that holds tells its refusal
module _ (len pos n : ℕ) where
  pub fit_wide : {g : Grounds} → ltb 32 n ≡ true → g ≡ grounds 6 0 → refused g ≡ fit_of len pos n
  fit_wide t e = simp t (ap refused e)

  pub fit_past : {g : Grounds} → ltb 32 n ≡ false → beyond len pos n ≡ true → g ≡ grounds 1 0 → refused g ≡ fit_of len pos n
  fit_past t u e = simp (t, u) (ap refused e)

  pub fit_done : ltb 32 n ≡ false → beyond len pos n ≡ false → taken tt ≡ fit_of len pos n
  fit_done t u = simp (t, u)

-- what the tests of a range that is taken show
pub fit_inside : (len pos n : ℕ) → fit_of len pos n ≡ taken tt → (n ≤ 32) × (pos + n ≤ 8 * len)
fit_inside len pos n e =
    let p = past_refuse_if (ltb 32 n) 6 0 (past_limit (pos + n) (8 * len) 0 (taken tt)) e in
    (ltb-false 32 n p.0, (past_limit_lem (pos + n) (8 * len) 0 (taken tt) p.1).0)

pub got_value : (bs : List ℕ) (pos n v : ℕ) → get_of bs pos n ≡ taken v → Read bs pos n v
got_value bs pos n v e =
    let p = past_then (fit_of (length bs) pos n) (λ _. taken (bits_at bs pos n)) e in
    let h = fit_inside (length bs) pos n p.1 in
    let x = sym (taken_same p.2) in
    record { narrow = h.0; inside = h.1; value = x; below = rw x (bits_at_lt bs pos n) }
