-- `frame::last_three` meets its contract: three elements, one after another.
-- Assumes nothing.
use mathlib.Core.Path.{ap, ◌∙◌}
use Prim.Native.Nat.{ℕ}
use Rattle.std.proofs.lemmas.Result.{err_from_is_err_and}
use Rattle.syntax.specs.declared.Role.TheVariants.{CrcRsv}
use Rattle.frame.specs.Tail.{tail_ask}
use Rattle.frame.proofs.Runs.{last_stops, last_stops_then, last_ends}
use Rattle.frame.proofs.last_three.Goals as goal

pub returns-in_err-read_next : goal.returns-in_err-read_next
returns-in_err-read_next c =
    let a = c.args in
    let p = err_from_is_err_and c.from_residual.result c.from_residual.ensures.1 in
    rw (p.1, p.2) (last_stops a.codec a.c.now a.log.now c.ask_of.ensures c.in_err-read_next.ensures)

pub returns-in_err-read_next-2 : goal.returns-in_err-read_next-2
returns-in_err-read_next-2 c =
    let a = c.args in
    let r = c.from_residual-in_err-read_next-2 in
    let p = err_from_is_err_and r.result r.ensures.1 in
    rw (p.1, p.2)
    (last_stops_then a.codec a.c.now a.log.now c.ask_of.ensures c.in_ok-read_next.ensures
    (c.ask_of-2.ensures ∙ ap (λ (n : ℕ). tail_ask n CrcRsv 1) c.reserved_name-rsv.ensures) c.in_err-read_next-2.ensures)

pub returns : goal.returns
returns c =
    let a = c.args in
    last_ends a.codec a.c.now a.log.now c.ask_of.ensures c.in_ok-read_next.ensures
    (c.ask_of-2.ensures ∙ ap (λ (n : ℕ). tail_ask n CrcRsv 1) c.reserved_name-rsv.ensures) c.in_ok-read_next-2.ensures c.ask_of-3.ensures
    c.read_next-3.ensures
