-- `aht::Over::bins` meets its contract: what the rest of the bins makes of the walk so far stays the same from turn to turn.
-- Assumes nothing.
use Prim.Native.Nat.{◌+◌, ◌*◌, ◌≤◌}
use mathlib.Core.Path.{◌≡◌}
use lib.ListN.{length, drop}
use Rattle.aht.specs.Aht.{count_active, walk_on}
use Rattle.aht.specs.Tallies.{tally_of, gain_bits}
use Rattle.aht.proofs.Over.bins.Given as goal

abbrev pub invariant-loop-h : goal.invariant-loop-h
invariant-loop-h l =
    (l.gains.mode ≡ l.mode) × (l.gains.base ≡ l.base) × (l.gains.met ≤ l.h-index)
    × (l.base + gain_bits l.mode (l.gains.met + count_active l.mode (drop l.h-index l.hebap)) ≤ 8 * length l.self.frame.now)
    × (walk_on l.self.frame.now l.mode l.base l.gains.met (drop l.h-index l.hebap) (tally_of l.self.frame.now l.self.place l.t) ≡ walk_on l.self.frame.now l.mode l.base 0 l.hebap (tally_of l.self.frame.now l.self.place l.initial.t))
