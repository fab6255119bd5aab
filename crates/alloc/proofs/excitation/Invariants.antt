-- `alloc::excitation` meets its contract: each turn takes one band's step and fills its place.
-- Assumes nothing.
use Prim.Native.Nat.{ℕ, ◌-◌}
use mathlib.Core.Path.{◌≡◌}
use lib.ListN.{get_or}
use lib.IntN.{pos}
use Rattle.alloc.specs.Excite.{leak_at, excite_of}
use Rattle.alloc.proofs.excitation.Given as goal

abbrev pub invariant-loop-k : goal.invariant-loop-k
invariant-loop-k l =
    (l.out ≡ excite_of l.c l.first.0 l.end.0 (λ (j : ℕ). get_or l.bnd j (pos 0)) l.initial.s l.k)
    × (l.s ≡ leak_at l.c l.first.0 l.end.0 (λ (j : ℕ). get_or l.bnd j (pos 0)) l.initial.s (l.k - l.first.0))
