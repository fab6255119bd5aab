-- `exponents::read_set` meets its contract: 6, or the absolute exponent, the groups and the end.
-- Assumes nothing.
use mathlib.Core.Path.{◌∙◌, sym}
use native.Mathlib.Omega.{arith}
use Rattle.std.proofs.lemmas.Result.{err_from_is_err_and}
use Rattle.exponents.proofs.Ways.{fit_says, set_unfit, set_unread, abs_low, set_stops, set_short, set_done}
use Rattle.exponents.proofs.read_set.Goals as goal

pub returns-then-is_unfit : goal.returns-then-is_unfit
returns-then-is_unfit c =
    let a = c.args in
    rw c.at.ensures (set_unfit a.slot a.strategy a.start a.end a.c.now a.log.now (sym c.is_unfit.ensures ∙ c.if-is_unfit.true))

pub returns-in_err-abs : goal.returns-in_err-abs
returns-in_err-abs c =
    let a = c.args in
    let p = err_from_is_err_and c.from_residual.result c.from_residual.ensures.1 in
    rw (p.1, p.2)
    (set_unread a.slot a.strategy a.start a.end a.c.now a.log.now (sym c.is_unfit.ensures ∙ c.if-is_unfit.false) c.abs_ask.ensures c.in_err-abs.ensures)

pub overflow_cast-abs : goal.overflow_cast-abs
overflow_cast-abs c =
    let a = c.args in
    omega (arith, abs_low a.slot a.strategy a.start a.end a.c.now a.log.now (sym c.is_unfit.ensures ∙ c.if-is_unfit.false) c.abs_ask.ensures c.in_ok-abs.ensures)

pub begin-run-requires : goal.begin-run-requires
begin-run-requires c =
    let a = c.args in
    let u = sym c.is_unfit.ensures ∙ c.if-is_unfit.false in
    let f = fit_says a.slot a.strategy a.start a.end u in (
      omega arith,
      abs_low a.slot a.strategy a.start a.end a.c.now a.log.now u c.abs_ask.ensures c.in_ok-abs.ensures,
      omega arith,
    )

pub returns-in_err-groups : goal.returns-in_err-groups
returns-in_err-groups c =
    let a = c.args in
    let r = c.from_residual-in_err-groups in
    let p = err_from_is_err_and r.result r.ensures.1 in
    rw (p.1, p.2)
    (set_stops a.slot a.strategy a.start a.end a.c.now a.log.now (sym c.is_unfit.ensures ∙ c.if-is_unfit.false) c.abs_ask.ensures c.in_ok-abs.ensures
    c.size_of-size.ensures.0 c.begin-run.ensures.size c.group_ask.ensures c.group_count-count.ensures.0
    c.begin-run.ensures.laid c.in_err-groups.ensures)

pub returns-then-run-end : goal.returns-then-run-end
returns-then-run-end c =
    let a = c.args in
    rw c.at-then-run-end.ensures
    (set_short a.slot a.strategy a.start a.end a.c.now a.log.now (sym c.is_unfit.ensures ∙ c.if-is_unfit.false) c.abs_ask.ensures c.in_ok-abs.ensures
    c.size_of-size.ensures.0 c.begin-run.ensures.size c.group_ask.ensures c.group_count-count.ensures.0
    c.begin-run.ensures.laid c.in_ok-groups.ensures c.if-run-end.true)

pub returns : goal.returns
returns c =
    let a = c.args in
    set_done a.slot a.strategy a.start a.end a.c.now a.log.now (sym c.is_unfit.ensures ∙ c.if-is_unfit.false) c.abs_ask.ensures c.in_ok-abs.ensures
    c.size_of-size.ensures.0 c.begin-run.ensures.size c.group_ask.ensures c.group_count-count.ensures.0
    c.begin-run.ensures.laid c.in_ok-groups.ensures c.if-run-end.false
