-- Laws of tests: when two tests are the same, that one of two orders holds, and a test that gathers differences bit by bit.
-- Assumes nothing.
use Prim.Native.Nat.{ℕ, ◌≤◌, ◌<◌}
use mathlib.Core.Path.{◌≡◌, refl, sym, ◌∙◌}
use mathlib.Core.Bool.{◌&&◌}
use mathlib.Core.Logic.{◌⊎◌, inl, inr}
use native.Mathlib.Decide.{dec_lt, ℕ_discrete}
use native.Mathlib.Omega.{arith}
use lib.Dec.{ltb, eqb}
use lib.Bits.{bit_or, bit_xor, or_add_and, xor_add_and, and_le_l, and_le_r, xor_self}
use borrow.Author.Tests.{lt-ltb, le-ltb, eq-eqb, ne_eqb}

-- two tests that hold together are the same
pub same_test : (a b x y : ℕ) → (a < b → x < y) → (b ≤ a → y ≤ x) → ltb a b ≡ ltb x y
same_test a b x y f g = go (dec_lt a b)
  where
    go : Dec (a < b) → ltb a b ≡ ltb x y
    go (yes h) = lt-ltb a b h ∙ sym (lt-ltb x y (f h))
    go (no h) = le-ltb a b (omega arith) ∙ sym (le-ltb x y (g (omega arith)))

pub lt_or_ge : (a b : ℕ) → (a < b) ⊎ (b ≤ a)
lt_or_ge a b = go (dec_lt a b)
  where
    go : Dec (a < b) → (a < b) ⊎ (b ≤ a)
    go (yes h) = inl h
    go (no h) = inr (omega arith)

-- no bit is set of what was off before and of what two numbers differ in, just where nothing was off and they are the same
pub off_turn : (off p q : ℕ) → eqb (bit_or off (bit_xor p q)) 0 ≡ (eqb off 0 && eqb p q)
off_turn off p q = go (ℕ_discrete off 0) (ℕ_discrete p q)
  where
    or_zero : (a b : ℕ) → bit_or a b ≡ 0 → (a ≡ 0) × (b ≡ 0)
    or_zero a b e =
        let s = or_add_and a b in
        let l = and_le_l a b in
        let r = and_le_r a b in
        (omega arith, omega arith)

    xor_zero : (a b : ℕ) → bit_xor a b ≡ 0 → a ≡ b
    xor_zero a b e =
        let s = xor_add_and a b in
        let l = and_le_l a b in
        let r = and_le_r a b in
        omega arith

    go : Dec (off ≡ 0) → Dec (p ≡ q) → eqb (bit_or off (bit_xor p q)) 0 ≡ (eqb off 0 && eqb p q)
    go (yes e) (yes f) = rw (e, f, xor_self q) (sym (eq-eqb q q refl))
    go (yes e) (no f) = ne_eqb (bit_or off (bit_xor p q)) 0 (λ z. f (xor_zero p q (or_zero off (bit_xor p q) z).1)) ∙ sym (rw (eq-eqb off 0 e, ne_eqb p q f))
    go (no e) f = ne_eqb (bit_or off (bit_xor p q)) 0 (λ z. e (or_zero off (bit_xor p q) z).0) ∙ sym (rw (ne_eqb off 0 e))
