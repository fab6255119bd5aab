-- The bins of a channel, and TS 6.2.2.3, the banding structure: the bands' first bins, and a bin's band.
-- Assumes nothing.
use Rattle.std.specs.Prelude.{ℕ, ◌-◌, min, suc, List, [], ◌∷◌, get_or, replicate, cond, leb}

-- 256 bins, all zero
abbrev pub zeros : List ℕ
zeros = replicate 256 0

-- the first bins of the bands, and the end of the last
abbrev pub band_starts : List ℕ
band_starts =
    0 ∷ 1 ∷ 2 ∷ 3 ∷ 4 ∷ 5 ∷ 6 ∷ 7 ∷ 8 ∷ 9 ∷ 10 ∷ 11 ∷ 12 ∷ 13 ∷ 14 ∷ 15 ∷ 16 ∷ 17 ∷ 18 ∷ 19 ∷ 20 ∷ 21 ∷ 22 ∷ 23 ∷ 24 ∷ 25 ∷ 26 ∷ 27
    ∷ 28 ∷ 31 ∷ 34 ∷ 37 ∷ 40 ∷ 43 ∷ 46 ∷ 49 ∷ 55 ∷ 61 ∷ 67 ∷ 73 ∷ 79 ∷ 85 ∷ 97 ∷ 109 ∷ 121 ∷ 133 ∷ 157 ∷ 181 ∷ 205 ∷ 229 ∷ 253 ∷ []

-- the first bin of band k; past the last band, its end
unfoldable pub band_start : ℕ → ℕ
band_start k = get_or band_starts (min k 50) 0

-- how many of the list are at most b
abbrev pub at_most : List ℕ → ℕ → ℕ
at_most [] b = 0
at_most (x ∷ xs) b = cond (leb x b) (suc (at_most xs b)) (at_most xs b)

-- the band of bin b: the last one that starts at b or below; past the last band, the number of bands
unfoldable pub band_of : ℕ → ℕ
band_of b = at_most band_starts b - 1
