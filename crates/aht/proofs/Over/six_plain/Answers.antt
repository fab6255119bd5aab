-- `aht::Over::six_plain` meets its contract: the loop makes the step six times.
-- Assumes nothing.
use mathlib.Core.Path.{refl}
use native.Mathlib.Omega.{arith}
use Rattle.std.proofs.lemmas.Result.{err_from_is_err_and}
use Rattle.aht.specs.Aht.{read_on}
use Rattle.aht.specs.Tallies.{tally_of}
use Rattle.aht.proofs.Laws.{read_stays, times_none, times_again, times_ends}
use Rattle.aht.proofs.Over.six_plain.Goals as goal

pub loop-block-init : goal.loop-block-init
loop-block-init c =
    let a = c.args in
    let s = a.self.now in
    times_none (read_on s.frame.now a.m) (tally_of s.frame.now s.place a.t.now)

pub returns-in_err-read : goal.returns-in_err-read
returns-in_err-read c =
    let a = c.args in
    let s = a.self.now in
    let l = c.loop-block in
    let e = err_from_is_err_and c.from_residual.result c.from_residual.ensures.1 in
    rw (e.1, e.2)
    (times_ends (read_on s.frame.now a.m) (tally_of s.frame.now s.place a.t.now) 6 l._block
    (tally_of s.frame.now s.place l.t) _ _ (omega arith) l.invariant c.in_err-read.ensures.read (read_stays s.frame.now a.m) refl)

pub loop-block-preserved : goal.loop-block-preserved
loop-block-preserved c =
    let a = c.args in
    let s = a.self.now in
    let l = c.loop-block in
    times_again (read_on s.frame.now a.m) (tally_of s.frame.now s.place a.t.now) l._block
    (tally_of s.frame.now s.place l.t) _ l.invariant c.in_ok-read.ensures.read
