-- Roles and their words: a role's position among the cases is its number, and its word leads back to it.
-- Assumes nothing.
use Prim.Native.Nat.{ℕ, ◌+◌, ◌*◌, ◌/◌, ◌%◌, ◌≤◌, ◌<◌}
use mathlib.Core.Path.{◌≡◌, refl, sym}
use mathlib.Core.Bool.{Bool, true, ◌&&◌, not}
use native.Mathlib.Omega.{arith}
use lib.Dec.{leb}
use Rattle.syntax.specs.declared.Role.{Role}
use Rattle.syntax.specs.declared.Role.TheVariants.{Plain, Sync, Crc1, Crc2, CrcRsv, FrameSize, Dialnorm, ComprExists, Compr, DynrngExists, Dynrng, Skiple, Skipl, Skipfld, Addbsi, Mantissas, AuxBits, AuxDataL, AuxDataE, BlkStrtInfoE, BlkStrtInfo}
use Rattle.syntax.specs.Elements.{role_number, programme_of, role_word, role_of}
use Rattle.refusal.proofs.TestLaws.{clash}

-- the numbers of the roles that carry a programme
abbrev pub carries : ℕ → Bool
carries n = leb 6 n && leb n 10

-- any other carries none
pub no_programme : (r : Role) → not (carries (role_number r)) ≡ true → 0 ≡ programme_of r
no_programme Plain e = refl
no_programme Sync e = refl
no_programme Crc1 e = refl
no_programme Crc2 e = refl
no_programme CrcRsv e = refl
no_programme FrameSize e = refl
no_programme (Dialnorm p) e = clash (sym e)
no_programme (ComprExists p) e = clash (sym e)
no_programme (Compr p) e = clash (sym e)
no_programme (DynrngExists p) e = clash (sym e)
no_programme (Dynrng p) e = clash (sym e)
no_programme Skiple e = refl
no_programme Skipl e = refl
no_programme Skipfld e = refl
no_programme Addbsi e = refl
no_programme Mantissas e = refl
no_programme AuxBits e = refl
no_programme AuxDataL e = refl
no_programme AuxDataE e = refl
no_programme BlkStrtInfoE e = refl
no_programme BlkStrtInfo e = refl

-- number and programme of a word
parts : (p k : ℕ) → p < 256 → k < 32 → ((k + 32 * p) / 32 % 256 ≡ p) × ((k + 32 * p) % 32 ≡ k)
parts p k h l = omega arith

pub role_back : (r : Role) → programme_of r < 256 → role_of (role_word r) ≡ r
role_back Plain h = refl
role_back Sync h = refl
role_back Crc1 h = refl
role_back Crc2 h = refl
role_back CrcRsv h = refl
role_back FrameSize h = refl
role_back (Dialnorm p) h = let e = parts p 6 h (omega arith) in rw (e.0, e.1)
role_back (ComprExists p) h = let e = parts p 7 h (omega arith) in rw (e.0, e.1)
role_back (Compr p) h = let e = parts p 8 h (omega arith) in rw (e.0, e.1)
role_back (DynrngExists p) h = let e = parts p 9 h (omega arith) in rw (e.0, e.1)
role_back (Dynrng p) h = let e = parts p 10 h (omega arith) in rw (e.0, e.1)
role_back Skiple h = refl
role_back Skipl h = refl
role_back Skipfld h = refl
role_back Addbsi h = refl
role_back Mantissas h = refl
role_back AuxBits h = refl
role_back AuxDataL h = refl
role_back AuxDataE h = refl
role_back BlkStrtInfoE h = refl
role_back BlkStrtInfo h = refl

-- past k numbers that a number is not, it is above them
pub up : (k n : ℕ) → k ≤ n → (n ≡ k → ⊥) → k + 1 ≤ n
up k n h ne = omega arith
