-- `exponents::groups` meets its contract: after so many turns the run is that of so many groups.
-- Assumes nothing.
use Prim.Native.Nat.{◌+◌, ◌*◌, ◌≤◌}
use mathlib.Core.Path.{◌≡◌}
use Rattle.refusal.specs.Refusals.{taken, ends}
use Rattle.syntax.specs.Reads.{standing}
use Rattle.syntax.specs.Cursors.{held_of, over}
use Rattle.exponents.specs.Turns.{laid_of, groups_on}
use Rattle.exponents.proofs.groups.Given as goal

abbrev pub invariant-loop : goal.invariant-loop
invariant-loop l =
    let s = l.initial in
    (held_of (taken (laid_of l.run l.exp)) l.c l.log
    ≡ over s.c (groups_on s.c.bytes.now l.ask s.run.size l.counter (ends (standing s.c.place s.log) (taken (laid_of s.run s.exp)))))
    × (l.run.size ≡ s.run.size) × (l.run.next ≤ 256 + 12 * l.counter)
