-- A line of recorded answers as text: words after single spaces, decimal numbers, bytes in hex.
-- Assumes nothing.
use Rattle.std.specs.Prelude.{ℕ, ◌+◌, ◌-◌, ◌*◌, ◌%◌, ◌≤◌, ◌≡◌, Bool, false, cond, ◌&&◌, List, [], ◌∷◌, ◌++◌, length, take, eqb, leb, ltb, Option, Some, None, option_map, option_and_then}

-- `None` is what cannot be read: where the test holds, else what follows says
abbrev pub unless : {A : Type 0} → Bool → Option A → Option A
unless test next = cond test None next

-- n counts bytes at the start of xs; the second part follows from the first, and is what lending those bytes asks
abbrev pub Counts : ℕ → List ℕ → Type 0
Counts n xs = (n ≤ length xs) × (n ≡ length (take n xs))

-- what stands ahead of the first b, and what stands from it on
unfoldable pub ahead : ℕ → List ℕ → List ℕ
ahead b [] = []
ahead b (x ∷ xs) = cond (eqb x b) [] (x ∷ ahead b xs)

unfoldable pub since : ℕ → List ℕ → List ℕ
since b [] = []
since b (x ∷ xs) = cond (eqb x b) (x ∷ xs) (since b xs)

abbrev pub within : ℕ → ℕ → ℕ → Bool
within low high b = leb low b && leb b high

-- the number v with the digit b after it: b is `0` to `9`, and the number at most `most`
unfoldable pub after_digit : ℕ → ℕ → ℕ → Option ℕ
after_digit most v b = cond (within 48 57 b && leb (10 * v + (b - 48)) most) (Some (10 * v + (b - 48))) None

-- the number v with more digits after it
unfoldable pub after_digits : ℕ → ℕ → List ℕ → Option ℕ
after_digits most v [] = Some v
after_digits most v (b ∷ bs) = option_and_then (λ w. after_digits most w bs) (after_digit most v b)

-- one digit or more
unfoldable pub decimal_of : ℕ → List ℕ → Option ℕ
decimal_of most bs = unless (eqb (length bs) 0) (after_digits most 0 bs)

-- a digit in hex, `0` to `9` and `a` to `f`
unfoldable pub nibble_of : ℕ → Option ℕ
nibble_of b = cond (within 48 57 b) (Some (b - 48)) (cond (within 97 102 b) (Some (b - 87)) None)

-- the byte of two digits
unfoldable pub pair_of : ℕ → ℕ → Option ℕ
pair_of high low = option_and_then (λ h. option_map (λ l. 16 * h + l) (nibble_of low)) (nibble_of high)

-- the bytes of pairs of digits, after those that are done
unfoldable pub after_pairs : List ℕ → List ℕ → Option (List ℕ)
after_pairs done [] = Some done
after_pairs done (high ∷ []) = None
after_pairs done (high ∷ low ∷ bs) = option_and_then (λ b. after_pairs (done ++ b ∷ []) bs) (pair_of high low)

-- `-`
unfoldable pub is_dash : List ℕ → Bool
is_dash [] = false
is_dash (b ∷ []) = eqb b 45
is_dash (b ∷ c ∷ bs) = false

-- pairs of digits, at most as many as there is room for
unfoldable pub pairs_of : ℕ → List ℕ → Option (List ℕ)
pairs_of room bs =
    unless (eqb (length bs % 2) 1)
    (unless (ltb (2 * room) (length bs))
    (after_pairs [] bs))

-- `-` for no bytes, or pairs of digits, one or more
unfoldable pub bytes_of : ℕ → List ℕ → Option (List ℕ)
bytes_of room bs =
    cond (is_dash bs) (Some [])
    (unless (eqb (length bs) 0)
    (pairs_of room bs))

-- what was read at the start of a list, and what is left of it
pub record Read (A : Type 0) : Type 0 where
  pub value : A
  pub left : List ℕ

-- the word after one space, up to the next
unfoldable pub word_from : List ℕ → Option (Read (List ℕ))
word_from [] = None
word_from (b ∷ bs) = cond (eqb b 32) (Some (record { value = ahead 32 bs; left = since 32 bs })) None

-- the next word, by what its bytes say
abbrev pub next_as : {A : Type 0} → (List ℕ → Option A) → List ℕ → Option (Read A)
next_as says line = option_and_then (λ w. option_map (λ v. record { value = v; left = w.left }) (says w.value)) (word_from line)
