-- `alloc::point` meets its contract: each turn puts one bin's pointer.
-- Assumes nothing.
use Prim.Native.Nat.{ℕ}
use mathlib.Core.Path.{◌≡◌}
use lib.ListN.{get_or}
use lib.IntN.{pos}
use Rattle.alloc.specs.Clauses.{pointed}
use Rattle.alloc.proofs.point.Given as goal

abbrev pub invariant-loop-i : goal.invariant-loop-i
invariant-loop-i l =
    l.out ≡ pointed l.baptab (λ (j : ℕ). get_or l.psd j (pos 0)) l.m l.lo l.i l.initial.out
