-- What a caller hands in is fit (document 01, "Allocation"): lent tables have their lengths and their numbers, and segments their codes.
-- Assumes nothing.
use Rattle.std.specs.Prelude.{ℕ, zero, suc, ◌+◌, List, Bool, true, ◌&&◌, leb, eqb, length, get_or}
use Rattle.tables.specs.declared.Delta.{Delta}

-- the n numbers of a list from place start on are at most top
unfoldable pub upto : ℕ → List ℕ → ℕ → ℕ → Bool
upto top l start zero = true
upto top l start (suc n) = upto top l start n && leb (get_or l (start + n) 0) top

-- a lent table of n entries, each at most top
unfoldable pub lent_fits : ℕ → ℕ → List ℕ → Bool
lent_fits n top l = eqb (length l) n && upto top l 0 n

-- "HEARING (150 entries, 0..4095) and LOG_ADD (256 entries, 0..64) are lent by the caller and tested"
unfoldable pub tables_fit : List ℕ → List ℕ → Bool
tables_fit hearing log_add = lent_fits 150 4095 hearing && lent_fits 256 64 log_add

-- "at most 8 segments, each 31, 15, 7"
unfoldable pub delta_fits : Delta → Bool
delta_fits d = leb d.count 8 && (upto 31 d.offset 0 d.count && (upto 15 d.len 0 d.count && upto 7 d.ba 0 d.count))
