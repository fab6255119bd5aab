-- Laws of ℤ that hand it to `omega`. A number z of ℤ is `up z` less `dn z`, two numbers of ℕ of which one is 0. Sums, differences, orders and
-- equations of ℤ are then linear facts of ℕ, which `omega` reads.
-- Assumes nothing.
use Prim.Native.Nat.{ℕ, ◌<◌, ◌≤◌, ◌+◌, ◌-◌, ◌*◌, ◌/◌, min, suc, max, zero}
use mathlib.Core.Path.{◌≡◌, subst, sym, ap, ◌∙◌, refl}
use native.Mathlib.Omega.{arith}
use lib.IntN.{ℤ, pos, ◌-ℤ◌, ◌+ℤ◌, nat_abs, ◌*ℤ◌, negsuc, neg_ℤ, sub_ℕ}
use mir.Syntax.{w32}
use mir.Val.{SFits}
use borrow.Author.Tests.{ltb-true, ltb-false}
use mathlib.Core.Bool.{Bool, true, false, cond, not}
use lib.Dec.{ltb, leb, T, ltb→lt, leb→le}
use lib.Signed.{shr_z, mag, lt_z, non_neg}
use native.Mathlib.Nat.{mul-zero}
use Rattle.tables.specs.Numbers.{up, dn, max_z, Within}

-- one of the two is 0
pub parts : (z : ℤ) → min (up z) (dn z) ≡ 0
parts (pos n) = omega arith
parts (negsuc n) = omega arith

cond_ind : (c : Bool) (x y : ℤ) (P : ℤ → Type 0) → (c ≡ true → P x) → (c ≡ false → P y) → P (cond c x y)
cond_ind true x y P f g = f refl
cond_ind false x y P f g = g refl

-- a − b of two naturals
pub sub_law : (a b : ℕ) → (up (sub_ℕ a b) ≡ a - b) × (dn (sub_ℕ a b) ≡ b - a)
sub_law a b = cond_ind (ltb a b) (negsuc (b - suc a)) (pos (a - b)) (λ z. (up z ≡ a - b) × (dn z ≡ b - a))
    (λ t. let h : a < b = ltb-true a b t in (omega arith, omega arith))
    (λ t. let h : b ≤ a = ltb-false a b t in (refl, omega arith))

-- the sum, by differences: linear, for orders and equations
pub add_law : (a b : ℤ) → up (a +ℤ b) + (dn a + dn b) ≡ dn (a +ℤ b) + (up a + up b)
add_law (pos a) (pos b) = omega arith
add_law (pos a) (negsuc b) = omega (arith, sub_law a (suc b))
add_law (negsuc a) (pos b) = omega (arith, sub_law b (suc a))
add_law (negsuc a) (negsuc b) = omega arith

pub neg_law : (a : ℤ) → (up (neg_ℤ a) ≡ dn a) × (dn (neg_ℤ a) ≡ up a)
neg_law (pos zero) = (refl, refl)
neg_law (pos (suc n)) = (refl, refl)
neg_law (negsuc n) = (refl, refl)

pub min_law : (a b : ℤ) → up (a -ℤ b) + (dn a + up b) ≡ dn (a -ℤ b) + (up a + dn b)
min_law a b = omega (arith, add_law a (neg_ℤ b), neg_law b)

pub same : {a b : ℤ} → a ≡ b → (up a ≡ up b) × (dn a ≡ dn b)
same e = (ap up e, ap dn e)

-- order, as a test
pub lt_true : (a b : ℤ) → lt_z a b ≡ true → up a + dn b < up b + dn a
lt_true (pos a) (pos b) t = omega (arith, ltb-true a b t)
lt_true (pos a) (negsuc b) t = absurd (ff t)
  where
    ff : false ≡ true → ⊥
    ff p = subst (λ (x : Bool). T (not x)) p tt
lt_true (negsuc a) (pos b) t = omega arith
lt_true (negsuc a) (negsuc b) t = omega (arith, ltb-true b a t)

pub lt_false : (a b : ℤ) → lt_z a b ≡ false → up b + dn a ≤ up a + dn b
lt_false (pos a) (pos b) t = omega (arith, ltb-false a b t)
lt_false (pos a) (negsuc b) t = omega arith
lt_false (negsuc a) (pos b) t = absurd (ff t)
  where
    ff : true ≡ false → ⊥
    ff p = subst T p tt
lt_false (negsuc a) (negsuc b) t = omega (arith, ltb-false b a t)

pub shr4_law : (z : ℤ) → (up (shr_z z 4) ≡ up z / 4) × (dn (shr_z z 4) ≡ (dn z + 3) / 4)
shr4_law (pos n) = (refl, refl)
shr4_law (negsuc n) = (refl, omega arith)

mag_of : (z : ℤ) → up z < dn z + 2147483648 → dn z ≤ up z + 2147483648 → mag z < 2147483648
mag_of (pos n) h k = omega arith
mag_of (negsuc n) h k = omega arith

pub sfits : (z : ℤ) → up z < dn z + 2147483648 → dn z ≤ up z + 2147483648 → SFits w32 z
sfits z h k = record { sfits = mag_of z h k }

pub nonneg : (z : ℤ) → dn z ≤ up z → T (non_neg z)
nonneg (pos n) h = tt
nonneg (negsuc n) h = absurd (omega arith)

pub abs_law : (z : ℤ) → nat_abs z ≡ up z + dn z
abs_law (pos n) = omega arith
abs_law (negsuc n) = omega arith

pub max_law : (a b : ℤ) → (up (max_z a b) ≡ max (up a) (up b)) × (dn (max_z a b) ≡ min (dn a) (dn b))
max_law a b = cond_ind (lt_z a b) b a (λ z. (up z ≡ max (up a) (up b)) × (dn z ≡ min (dn a) (dn b)))
    (λ t. let h = lt_true a b t in let p = parts a in let q = parts b in (omega arith, omega arith))
    (λ t. let h = lt_false a b t in let p = parts a in let q = parts b in (omega arith, omega arith))

-- a multiple by a number that is not negative
pub mul_law : (k : ℕ) (z : ℤ) → (up (pos k *ℤ z) ≡ k * up z) × (dn (pos k *ℤ z) ≡ k * dn z)
mul_law k (pos n) = (refl, sym (mul-zero k))
mul_law k (negsuc n) =
    let e = neg_law (pos (k * suc n)) in
    (e.0 ∙ sym (mul-zero k), e.1)

pub within_fits : (lo hi : ℕ) {z : ℤ} → Within lo hi z → T (leb lo 2147483648) → T (ltb hi 2147483648) → SFits w32 z
within_fits lo hi {z} w p q =
    let p' = leb→le lo 2147483648 p in
    let q' = ltb→lt hi 2147483648 q in
    sfits z (omega arith) (omega arith)

pub within_cond : (lo hi : ℕ) (b : Bool) (x y : ℤ) → Within lo hi x → Within lo hi y → Within lo hi (cond b x y)
within_cond lo hi true x y p q = p
within_cond lo hi false x y p q = q

pub within_max : (lo hi : ℕ) (x y : ℤ) → Within lo hi x → Within lo hi y → Within lo hi (max_z x y)
within_max lo hi x y p q =
    let m = max_law x y in
    record { low = omega arith; high = omega arith }

pub within_sub : (l h m k : ℕ) (a b : ℤ) → Within l h a → Within m k b → Within (l + k) (h + m) (a -ℤ b)
within_sub l h m k a b p q =
    let d = min_law a b in
    let z = parts (a -ℤ b) in
    record { low = omega arith; high = omega arith }

pub within_add : (l h m k : ℕ) (a b : ℤ) → Within l h a → Within m k b → Within (l + m) (h + k) (a +ℤ b)
within_add l h m k a b p q =
    let d = add_law a b in
    let z = parts (a +ℤ b) in
    record { low = omega arith; high = omega arith }

-- a wider range
pub widen : {l h : ℕ} (m k : ℕ) {z : ℤ} → Within l h z → l ≤ m → h ≤ k → Within m k z
widen m k w p q = record { low = omega arith; high = omega arith }
