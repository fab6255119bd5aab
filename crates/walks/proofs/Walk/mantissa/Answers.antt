-- `walks::Walk::mantissa` meets its contract: each way through it is a case of the definition.
-- Assumes nothing.
use native.Mathlib.Omega.{arith}
use Rattle.walks.proofs.Laws.{counted_reachable, mantissa_none, mantissa_above, mantissa_past, mantissa_on_lem}
use Rattle.walks.proofs.Walk.mantissa.Goals as goal

pub returns-then-b-eq0 : goal.returns-then-b-eq0
returns-then-b-eq0 c =
    let s = c.args.self.now in mantissa_none c.args.b s.place s.groups c.if-b-eq0.true

pub returns-then-b-gt15 : goal.returns-then-b-gt15
returns-then-b-gt15 c =
    let s = c.args.self.now in rw c.at.ensures (mantissa_above c.args.b s.place s.groups c.if-b-gt15.true)

pub invariant_of-self : goal.invariant_of-self
invariant_of-self c =
    let s = c.args.self.now in record { short = s.short; reachable = rw c.count-n.ensures.1 (counted_reachable c.args.b s.groups s.reachable) }

pub returns-then-saturating_sub-n : goal.returns-then-saturating_sub-n
returns-then-saturating_sub-n c =
    let s = c.args.self.now in
    let e = c.count-n.ensures in
    rw c.at-then-saturating_sub-n.ensures (mantissa_past c.args.b s.place s.groups _ _ c.if-b-gt15.false e.0 e.1 (omega arith))

pub invariant_of-self-2 : goal.invariant_of-self-2
invariant_of-self-2 c =
    let s = c.args.self.now in record { short = s.short; reachable = rw c.count-n.ensures.1 (counted_reachable c.args.b s.groups s.reachable) }

pub overflow_add-self : goal.overflow_add-self
overflow_add-self c = let h = c.args.self.now.short in omega arith

pub returns : goal.returns
returns c =
    let s = c.args.self.now in
    let e = c.count-n.ensures in
    mantissa_on_lem c.args.b s.place s.groups _ _ c.if-b-gt15.false e.0 e.1 (omega arith)
