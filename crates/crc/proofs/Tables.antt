-- The tables' rule, carried from the test over a whole table to each entry.
-- Assumes nothing.
use mathlib.Core.Path.{◌≡◌}
use mathlib.Core.Bool.{true}
use mathlib.Core.List.{List}
use Prim.Native.Nat.{ℕ, ◌*◌, ◌^◌, ◌<◌}
use lib.Dec.{eqb}
use lib.ListN.{get_or}
use borrow.Author.Tests.{eqb-true}
use Rattle.crc.specs.Crc.{idle}
use Rattle.crc.specs.Table.{ruled}
use Rattle.crc.proofs.Below.{below}

-- each entry of a table that passes the test keeps the rule
pub entry : (n : ℕ) (t : List ℕ) → ruled n t ≡ true → (k : ℕ) → k < 256 → get_or t k 0 ≡ idle (8 * n) (k * 2 ^ 8)
unfolding ruled
entry n t e k h = eqb-true (get_or t k 0) (idle (8 * n) (k * 2 ^ 8)) (below (λ (k : ℕ). eqb (get_or t k 0) (idle (8 * n) (k * 2 ^ 8))) 256 e k h)
