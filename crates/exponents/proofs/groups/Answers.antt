-- `exponents::groups` meets its contract: after so many turns the run is that of so many groups.
-- Assumes nothing.
use Prim.Native.Nat.{ℕ}
use mathlib.Core.Path.{◌≡◌, refl, ap, ◌∙◌}
use native.Mathlib.Omega.{arith}
use Rattle.std.proofs.lemmas.Result.{err_from_is_err_and}
use Rattle.refusal.specs.Refusals.{taken, ends}
use Rattle.syntax.specs.Reads.{standing}
use Rattle.syntax.specs.Cursors.{over}
use Rattle.exponents.specs.Turns.{laid_of, groups_on}
use Rattle.exponents.proofs.Ways.{groups_turn, groups_halt}
use Rattle.exponents.proofs.groups.Goals as goal

pub loop-init : goal.loop-init
unfolding groups_on
loop-init c = (refl, refl, omega arith)

pub group-requires : goal.group-requires
group-requires c = omega arith

pub returns-in_err-group : goal.returns-in_err-group
returns-in_err-group c =
    let p = err_from_is_err_and c.from_residual.result c.from_residual.ensures.1 in
    let a = c.args in
    let s = c.loop.invariant in
    rw (p.1, p.2) (groups_halt a.ask a.run.now.size c.loop.counter a.c.now _ s.0 s.1 c.in_err-group.ensures.laid (omega arith))

pub loop-preserved : goal.loop-preserved
loop-preserved c =
    let a = c.args in
    let s = c.loop.invariant in
    let g = c.in_ok-group.ensures in (
      groups_turn a.ask a.run.now.size c.loop.counter a.c.now _ s.0 s.1 g.laid,
      g.size ∙ s.1,
      omega (arith, c.group.ensures.next),
    )

pub returns : goal.returns
returns c =
    let p : c.loop.counter ≡ c.args.count = omega arith in
    let a = c.args in
    c.loop.invariant.0
    ∙ ap (λ (k : ℕ). over a.c.now (groups_on a.c.now.bytes.now a.ask a.run.now.size k (ends (standing a.c.now.place a.log.now) (taken (laid_of a.run.now a.exp.now))))) p
