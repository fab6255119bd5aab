-- `alloc::masks` meets its contract: each turn fills one band's place.
-- Assumes nothing.
use Prim.Native.Nat.{ℕ}
use mathlib.Core.Path.{◌≡◌}
use lib.ListN.{get_or}
use lib.IntN.{pos}
use Rattle.alloc.specs.Clauses.{masks_of}
use Rattle.alloc.proofs.masks.Given as goal

abbrev pub invariant-loop-k : goal.invariant-loop-k
invariant-loop-k l =
    l.out ≡ masks_of (λ (j : ℕ). get_or l.excite j (pos 0)) (λ (j : ℕ). get_or l.power j (pos 0)) l.knee l.hearing l.fscod l.fn.first.0 l.k
