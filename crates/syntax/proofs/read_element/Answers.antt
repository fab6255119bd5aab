-- `syntax::read_element` meets its contract: an element whose value is taken is logged, a refused one changes nothing.
-- Assumes nothing.
use mathlib.Core.Path.{◌∙◌, sym, ap}
use Prim.Native.Nat.{ℕ}
use lib.ListN.{length}
use Rattle.std.specs.Prelude.{Result}
use Rattle.refusal.specs.declared.Refusal.{Refusal}
use Rattle.refusal.specs.Refusals.{taken, outcome_of, ran_of}
use Rattle.syntax.specs.Reads.{Standing, standing}
use Rattle.syntax.proofs.Tests.{room_words}
use Rattle.syntax.proofs.ReadLaws.{read_told, read_moves, read_halts}
use native.Mathlib.Omega.{arith}
use Rattle.syntax.proofs.read_element.Goals as goal

pub log_element-requires : goal.log_element-requires
log_element-requires c =
    let a = c.args in
    let t = read_told a.frame.now (standing a.place a.log.now) a.ask c.in-Ok.value (sym c.value_at-answer.ensures ∙ ap outcome_of c.in-Ok.is) in
    let r = room_words (length a.log.now) a.place.count t.free.room_left in
    omega (arith, t.free.short, t.free.within, r.0, r.1)

pub returns-in-Ok : goal.returns-in-Ok
returns-in-Ok c =
    let a = c.args in
    ap (λ (s : Standing). record { outcome = taken c.in-Ok.value; state = s }) c.log_element.ensures
    ∙ read_moves a.frame.now (standing a.place a.log.now) a.ask c.in-Ok.value (sym c.value_at-answer.ensures ∙ ap outcome_of c.in-Ok.is)

pub returns-in-Err : goal.returns-in-Err
returns-in-Err c =
    let a = c.args in
    ap (λ (r : Result ℕ Refusal). ran_of r (standing a.place a.log.now)) c.in-Err.is
    ∙ read_halts a.frame.now (standing a.place a.log.now) a.ask (sym c.value_at-answer.ensures ∙ ap outcome_of c.in-Err.is)
