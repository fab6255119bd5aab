-- After 2 ^ 15 - 1 idle steps the register is what it was: the generator divides x^32 + x^16 + x^4 + x, and squaring leads on from there.
-- Assumes nothing.
use mathlib.Core.Path.{◌≡◌, refl, sym, ap, ap₂, ◌∙◌, subst}
use Prim.Native.Nat.{ℕ, zero, suc, ◌+◌, ◌*◌, ◌/◌, ◌%◌, ◌^◌, ◌<◌}
use native.Mathlib.Nat.{add_comm, pow-suc}
use native.Mathlib.Omega.{arith}
use lib.Arith.{bin_ind}
use lib.ListN.{replicate}
use lib.Bits.{bit_xor, xor_shifted}
use Rattle.crc.specs.Crc.{shift, crc_of, idle, unshift}
use Rattle.std.specs.Int.Bits.{xor_assoc}
use Rattle.crc.proofs.Xor.{bit, bit_lt, xor_pairs, xor_cancel_left}
use Rattle.crc.proofs.Linear.{shift_linear, idle_linear, idle_add, idle_shift, idle_lt}
use Rattle.crc.proofs.Bytes.{shift_up, crc_zeros}
use Rattle.crc.proofs.Back.{unshift_shift}

-- the number of idle steps after which the register is what it was
abbrev pub period : ℕ
period = 32767

-- idle steps and other idle steps can change places
idle_comm : (m n c : ℕ) → idle m (idle n c) ≡ idle n (idle m c)
idle_comm m n c = sym (idle_add n m c) ∙ ap (λ (k : ℕ). idle k c) (add_comm n m) ∙ idle_add m n c

-- what holds of 1, of sums and of steps holds of each register
register : (P : ℕ → Type 0) → P 1 → ((a b : ℕ) → P a → P b → P (bit_xor a b)) → ((c : ℕ) → P c → P (shift c 0)) → (c : ℕ) → c < 2 ^ 16 → P c
register P one sum step = bin_ind (λ (c : ℕ). c < 2 ^ 16 → P c) (λ h. zero_holds) by_half
  where
    zero_holds : P 0
    zero_holds = sum 1 1 one one

    by_half : (c : ℕ) → (c / 2 < 2 ^ 16 → P (c / 2)) → c < 2 ^ 16 → P c
    by_half c half h =
        let small : c / 2 < 2 ^ 15 = omega arith in
        let less : c / 2 < 2 ^ 16 = omega arith in
        let back : c / 2 * 2 + c % 2 ≡ c = omega arith in
        subst P (ap (λ (k : ℕ). bit_xor k (c % 2)) (shift_up (c / 2) small) ∙ xor_shifted (c / 2) 1 (c % 2) (bit_lt c) ∙ back)
        (sum (shift (c / 2) 0) (c % 2) (step (c / 2) (half less)) (bit P zero_holds one (c % 2) (bit_lt c)))

-- a map over the register that is linear and passes through a step
record Steady (f : ℕ → ℕ) : Type 0 where
  linear : (a b : ℕ) → f (bit_xor a b) ≡ bit_xor (f a) (f b)
  passes : (c : ℕ) → f (shift c 0) ≡ shift (f c) 0

-- idle steps are such a map, and so is the sum of two
idle_steady : (n : ℕ) → Steady (idle n)
idle_steady n = record { linear = idle_linear n; passes = idle_shift n }

sum_steady : (f g : ℕ → ℕ) → Steady f → Steady g → Steady (λ (c : ℕ). bit_xor (f c) (g c))
sum_steady f g sf sg =
    record {
      linear = λ a b. ap₂ bit_xor (sf.linear a b) (sg.linear a b) ∙ xor_pairs (f a) (f b) (g a) (g b);
      passes = λ c. ap₂ bit_xor (sf.passes c) (sg.passes c) ∙ sym (shift_linear (f c) (g c) 0 0);
    }

-- two such maps that agree at 1 agree at each register
steady_same : (f g : ℕ → ℕ) → Steady f → Steady g → f 1 ≡ g 1 → (c : ℕ) → c < 2 ^ 16 → f c ≡ g c
steady_same f g sf sg one =
    register (λ (c : ℕ). f c ≡ g c) one
    (λ a b p q. sf.linear a b ∙ ap₂ bit_xor p q ∙ sym (sg.linear a b))
    (λ c p. sf.passes c ∙ ap (λ (k : ℕ). shift k 0) p ∙ sym (sg.passes c))

-- the sum of two maps that commute, done twice, is the sum of each done twice
twice : (f g : ℕ → ℕ) → Steady f → Steady g → ((c : ℕ) → f (g c) ≡ g (f c)) → (c : ℕ)
    → bit_xor (f (bit_xor (f c) (g c))) (g (bit_xor (f c) (g c))) ≡ bit_xor (f (f c)) (g (g c))
twice f g sf sg comm c =
    ap₂ bit_xor (sf.linear (f c) (g c)) (sg.linear (f c) (g c) ∙ ap (λ (k : ℕ). bit_xor k (g (g c))) (sym (comm c)))
    ∙ xor_assoc (f (f c)) (f (g c)) (bit_xor (f (g c)) (g (g c)))
    ∙ ap (bit_xor (f (f c))) (xor_cancel_left (f (g c)) (g (g c)))

-- 2 ^ k idle steps
unfoldable leap : ℕ → ℕ → ℕ
leap k c = idle (2 ^ k) c

-- leaps are steady, commute, and two of them are the next
leap_steady : (k : ℕ) → Steady (leap k)
unfolding leap
leap_steady k = idle_steady (2 ^ k)

leap_comm : (j k c : ℕ) → leap j (leap k c) ≡ leap k (leap j c)
unfolding leap
leap_comm j k c = idle_comm (2 ^ j) (2 ^ k) c

leap_twice : (k c : ℕ) → leap k (leap k c) ≡ leap (suc k) c
unfolding leap
leap_twice k c = sym (idle_add (2 ^ k) (2 ^ k) c) ∙ ap (λ (n : ℕ). idle n c) (double (2 ^ k) ∙ sym (pow-suc 2 k))
  where
    double : (n : ℕ) → n + n ≡ n * 2
    double n = omega arith

leap_lt : (k c : ℕ) → c < 2 ^ 16 → leap k c < 2 ^ 16
unfolding leap
leap_lt k c h = idle_lt (2 ^ k) c h

-- the numbers two and four after k
abbrev two_on : ℕ → ℕ
two_on k = suc (suc k)

abbrev four_on : ℕ → ℕ
four_on k = two_on (two_on k)

-- the first two terms of the sum below
abbrev pair : ℕ → ℕ → ℕ
pair k c = bit_xor (leap (four_on k) c) (leap (two_on k) c)

pair_steady : (k : ℕ) → Steady (pair k)
pair_steady k = sum_steady (leap (four_on k)) (leap (two_on k)) (leap_steady (four_on k)) (leap_steady (two_on k))

pair_comm : (k c : ℕ) → pair k (leap k c) ≡ leap k (pair k c)
pair_comm k c =
    ap₂ bit_xor (leap_comm (four_on k) k c) (leap_comm (two_on k) k c)
    ∙ sym ((leap_steady k).linear (leap (four_on k) c) (leap (two_on k) c))

-- computed at 1
at_one : leap 5 1 ≡ bit_xor (pair 0 1) (leap 0 1)
unfolding leap idle shift
at_one = refl

-- x^32 = x^16 + x^4 + x modulo the generator, and so for the squares of both sides, again and again
leaps : (k c : ℕ) → c < 2 ^ 16 → leap (suc (four_on k)) c ≡ bit_xor (pair k c) (leap k c)
leaps zero c h = steady_same (leap 5) (λ (c : ℕ). bit_xor (pair 0 c) (leap 0 c)) (leap_steady 5) (sum_steady (pair 0) (leap 0) (pair_steady 0) (leap_steady 0)) at_one c h
leaps (suc k) c h =
    sym (leap_twice (suc (four_on k)) c)
    ∙ leaps k (leap (suc (four_on k)) c) (leap_lt (suc (four_on k)) c h)
    ∙ ap (λ (d : ℕ). bit_xor (pair k d) (leap k d)) (leaps k c h)
    ∙ twice (pair k) (leap k) (pair_steady k) (leap_steady k) (pair_comm k) c
    ∙ ap₂ bit_xor
    (twice (leap (four_on k)) (leap (two_on k)) (leap_steady (four_on k)) (leap_steady (two_on k)) (leap_comm (four_on k) (two_on k)) c
    ∙ ap₂ bit_xor (leap_twice (four_on k) c) (leap_twice (two_on k) c)) (leap_twice k c)

-- the same at 1, in numbers
leap_one : (k a b d : ℕ) → leap (four_on k) 1 ≡ a → leap (two_on k) 1 ≡ b → leap k 1 ≡ d → leap (suc (four_on k)) 1 ≡ bit_xor (bit_xor a b) d
leap_one k a b d p q r = leaps k 1 (omega arith) ∙ ap₂ bit_xor (ap₂ bit_xor p q) r

-- 2 ^ 15 steps do what one step does
leap-15 : leap 15 1 ≡ leap 0 1
unfolding leap idle shift
leap-15 =
    let s5 = leap_one 0 _ _ _ refl refl refl in
    let s6 = leap_one 1 _ _ _ s5 refl refl in
    let s7 = leap_one 2 _ _ _ s6 refl refl in
    let s8 = leap_one 3 _ _ _ s7 s5 refl in
    let s9 = leap_one 4 _ _ _ s8 s6 refl in
    let s10 = leap_one 5 _ _ _ s9 s7 s5 in
    let s11 = leap_one 6 _ _ _ s10 s8 s6 in
    let s12 = leap_one 7 _ _ _ s11 s9 s7 in
    let s13 = leap_one 8 _ _ _ s12 s10 s8 in
    let s14 = leap_one 9 _ _ _ s13 s11 s9 in
    leap_one 10 _ _ _ s14 s12 s10

-- one step back from there
one_back : (a : ℕ) → a < 2 ^ 16 → idle 1 a ≡ idle 1 1 → a ≡ 1
unfolding idle shift unshift
one_back a h e = sym (unshift_shift a 0 h) ∙ ap (λ (k : ℕ). unshift k 0) e

turn : idle period 1 ≡ 1
unfolding leap
turn = one_back (idle period 1) (idle_lt period 1 (omega arith)) (sym (idle_add period 1 1) ∙ leap-15)

-- after so many idle steps the register is what it was
pub idle_returns : (c : ℕ) → c < 2 ^ 16 → idle period c ≡ c
idle_returns = steady_same (idle period) (λ (c : ℕ). c) (idle_steady period) (record { linear = λ a b. refl; passes = λ c. refl }) turn

-- and after any number of rounds
rounds : (m c : ℕ) → c < 2 ^ 16 → idle (m * period) c ≡ c
unfolding idle
rounds zero c h = refl
rounds (suc m) c h = ap (λ (n : ℕ). idle n c) (more m) ∙ idle_add period (m * period) c ∙ ap (idle (m * period)) (idle_returns c h) ∙ rounds m c h
  where
    more : (m : ℕ) → suc m * period ≡ period + m * period
    more m = omega arith

-- so of n zero bytes only the rest after division by the period counts
pub zeros_round : (c n : ℕ) → c < 2 ^ 16 → crc_of c (replicate (n % period) 0) ≡ crc_of c (replicate n 0)
zeros_round c n h =
    let p : 8 * n ≡ 8 * (n / period) * period + 8 * (n % period) = omega arith in
    crc_zeros c (n % period)
    ∙ ap (idle (8 * (n % period))) (sym (rounds (8 * (n / period)) c h))
    ∙ sym (idle_add (8 * (n / period) * period) (8 * (n % period)) c)
    ∙ ap (λ (k : ℕ). idle k c) (sym p)
    ∙ sym (crc_zeros c n)
