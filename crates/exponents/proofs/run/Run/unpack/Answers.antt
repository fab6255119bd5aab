-- `exponents::run::Run::unpack` meets its contract: its three digits, one after another, are those of the definition.
-- Assumes nothing.
use Rattle.std.proofs.lemmas.Result.{err_from_is_err_and}
use Rattle.exponents.specs.Turns.{laid_of}
use Rattle.exponents.proofs.Ways.{stop_first, stop_second, to_third}
use Rattle.exponents.proofs.run.Run.unpack.Goals as goal

pub returns-in_err-step-clause-laid : goal.returns-in_err-step-clause-laid
returns-in_err-step-clause-laid c =
    let a = c.args in
    let p = err_from_is_err_and c.from_residual.result c.from_residual.ensures.1 in
    rw (p.1, p.2) (stop_first a.self.now.size a.bit a.v (laid_of a.self.now a.exp.now) c.in_err-step.ensures.laid)

pub returns-in_err-step-2-clause-laid : goal.returns-in_err-step-2-clause-laid
returns-in_err-step-2-clause-laid c =
    let a = c.args in
    let r = c.from_residual-in_err-step-2 in
    let p = err_from_is_err_and r.result r.ensures.1 in
    rw (p.1, p.2)
    (stop_second a.self.now.size a.bit a.v (laid_of a.self.now a.exp.now) c.in_ok-step.ensures.laid c.step.ensures.size c.in_err-step-2.ensures.laid)

pub returns-clause-laid : goal.returns-clause-laid
returns-clause-laid c =
    let a = c.args in
    to_third a.self.now.size a.bit a.v (laid_of a.self.now a.exp.now) c.in_ok-step.ensures.laid c.step.ensures.size
    c.in_ok-step-2.ensures.laid c.step-2.ensures.size c.step-3.ensures.laid
