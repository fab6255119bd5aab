-- Signed numbers as log words: what the casts there and back ask, and that a word leads back to its number.
-- Assumes nothing.
use Rattle.std.proofs.Common.{ℕ, suc, ◌-◌, ◌*◌, ◌%◌, ◌^◌, ◌≤◌, ◌<◌, ◌≡◌, ap, ◌∙◌, arith, ℤ, pos, negsuc}
use mathlib.Core.Logic.{⊎_elim}
use borrow.Author.Tests.{le-ltb, lt-ltb}
use mir.Syntax.{Width, w8, w16}
use mir.Val.{SFits, bits, hbits, to_z}
use mir.Facts.{to_z-neg, to_z_pos}
use Rattle.syntax.specs.Elements.{signed_word, signed_of}
use Rattle.syntax.proofs.Bools.{lt_or_ge}

-- the low bits of a word in two's complement
pub low_bits : (w : Width) (u : ℕ) → 2 ^ bits w ≡ 2 * 2 ^ hbits w → 0 < 2 ^ hbits w → to_z w (u % (2 * 2 ^ hbits w)) ≡ signed_of (2 ^ hbits w) u
unfolding signed_of
low_bits w u full some =
    let half = 2 ^ hbits w in
    let n = u % (2 * half) in
    ⊎_elim
    (λ (l : n < half). to_z_pos w l ∙ rw (lt-ltb n half l))
    (λ (g : half ≤ n).
    let k = 2 * half - 1 - n in
    let below : n < 2 * half = omega arith in
    let whole : n ≡ 2 ^ bits w - suc k = omega arith in
    ap (to_z w) whole ∙ to_z-neg w k (omega arith) ∙ rw (le-ltb n half g))
    (lt_or_ge n half)

-- a word leads back to its number: an index's
pub index_back : (z : ℤ) → SFits w16 z → signed_of 32768 (signed_word z) ≡ z
unfolding signed_of
index_back (pos n) f =
    let h : n < 32768 = f.sfits in
    let e : n % 65536 ≡ n = omega arith in
    rw (e, lt-ltb n 32768 h)
index_back (negsuc n) f =
    let h : n < 32768 = f.sfits in
    let e : (65536 - suc n) % 65536 ≡ 65535 - n = omega arith in
    rw (e, le-ltb (65535 - n) 32768 (omega arith)) (ap negsuc (omega arith))

-- and a block's
pub block_back : (z : ℤ) → SFits w8 z → signed_of 128 (signed_word z) ≡ z
unfolding signed_of
block_back (pos n) f =
    let h : n < 128 = f.sfits in
    let e : n % 256 ≡ n = omega arith in
    rw (e, lt-ltb n 128 h)
block_back (negsuc n) f =
    let h : n < 128 = f.sfits in
    let e : (65536 - suc n) % 256 ≡ 255 - n = omega arith in
    rw (e, le-ltb (255 - n) 128 (omega arith)) (ap negsuc (omega arith))
