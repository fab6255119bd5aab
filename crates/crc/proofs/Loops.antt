-- A run over bytes in pairs, and over zero bytes: what the bytes to come make of the register stays the same.
-- Assumes nothing.
use Rattle.std.proofs.Common.{◌≡◌, ℕ, zero, suc, ◌*◌, ◌≤◌, List, [], ◌∷◌, length, get_or, drop, replicate, fold, refl, arith}
use Rattle.std.specs.Simd.{first_chunks}
use Rattle.crc.specs.Crc.{byte_in, crc_of}

-- the bytes one by one
pub crc_fold : (c : ℕ) (xs : List ℕ) → fold byte_in c xs ≡ crc_of c xs
unfolding crc_of
crc_fold c [] = refl
crc_fold c (x ∷ xs) = crc_fold (byte_in c x) xs

-- a pair of bytes
abbrev pub pair_in : ℕ → List ℕ → ℕ
pair_in c p = byte_in (byte_in c (get_or p 0 0)) (get_or p 1 0)

-- pairs first, and then what is left
pub crc_pairs : (c k : ℕ) (xs : List ℕ) → k * 2 ≤ length xs → crc_of (fold pair_in c (first_chunks 2 k xs)) (drop (k * 2) xs) ≡ crc_of c xs
unfolding crc_of
crc_pairs c zero xs h = refl
crc_pairs c (suc k) [] h = absurd (omega arith)
crc_pairs c (suc k) (x ∷ []) h = absurd (omega arith)
crc_pairs c (suc k) (x ∷ y ∷ xs) h =
    let p : suc k * 2 ≡ suc (suc (k * 2)) = omega arith in
    let s = crc_pairs (byte_in (byte_in c x) y) k xs (omega arith) in
    rw p s

-- one zero byte more
pub zeros_more : (c i : ℕ) → crc_of c (replicate (suc i) 0) ≡ byte_in (crc_of c (replicate i 0)) 0
unfolding crc_of
zeros_more c zero = refl
zeros_more c (suc i) = zeros_more (byte_in c 0) i
