-- `repair::columns` meets its contract. The loop's invariant: the columns so far, and the next.
-- Assumes nothing.
use Rattle.std.proofs.Common.{◌≡◌, ℕ, ◌*◌, ◌^◌, ◌<◌, length, get_or}
use Rattle.crc.specs.Crc.{idle}
use Rattle.repair.proofs.columns.Given as goal

abbrev pub invariant-loop-col : goal.invariant-loop-col
invariant-loop-col l =
    (length l.col-items ≡ 16)
    × ((k : ℕ) → k < l.col-index → get_or l.col-items k 0 ≡ idle (8 * l.n) (2 ^ k))
    × (l.c ≡ idle (8 * l.n) (idle l.col-index 1))
