-- `frame::read_tail_at` meets its contract: its tests, and then its elements.
-- Assumes nothing.
use mathlib.Core.Path.{refl, ap, sym, ◌∙◌}
use native.Mathlib.Omega.{arith}
use lib.ListN.{length}
use Rattle.std.proofs.lemmas.Result.{err_from_is_err_and}
use Rattle.syntax.specs.declared.Place.{Place}
use Rattle.syntax.specs.Reads.{standing}
use Rattle.syntax.specs.Cursors.{over}
use Rattle.frame.proofs.Fits.{fit_passed}
use Rattle.frame.proofs.Runs.{tail_stops, tail_on}
use Rattle.frame.proofs.read_tail_at.Goals as goal

pub returns-in_err-fit : goal.returns-in_err-fit
returns-in_err-fit c =
    let a = c.args in
    let p = err_from_is_err_and c.from_residual.result c.from_residual.ensures.1 in
    rw (p.1, p.2) (ap (over a.c.now) (tail_stops a.c.now.bytes.now (standing a.c.now.place a.log.now) a.total a.codec (sym c.in_err-fit.ensures)))

pub elements-requires : goal.elements-requires
elements-requires c =
    let a = c.args in
    let r = fit_passed a.c.now.bytes.now (length a.log.now) a.c.now.place a.total (sym c.in_ok-fit.ensures) in
    let e = ap (λ (p : Place). p.pos) c.outside_blocks-c.ensures in
    (omega (arith, r.last), omega (arith, r.fit.within, r.fit.sound), omega (arith, e, r.all))

pub returns : goal.returns
returns c =
    let a = c.args in
    c.elements.ensures
    ∙ ap (over a.c.now)
    (tail_on a.c.now.bytes.now (standing a.c.now.place a.log.now) a.total a.codec (sym c.in_ok-fit.ensures) c.outside_blocks-c.ensures refl)
