-- `aht::Over::words` meets its contract: the loop makes the step n times.
-- Assumes nothing.
use mathlib.Core.Path.{refl}
use native.Mathlib.Omega.{arith}
use Rattle.std.proofs.lemmas.Result.{err_from_is_err_and}
use Rattle.aht.specs.Aht.{word_on}
use Rattle.aht.specs.Tallies.{tally_of}
use Rattle.aht.proofs.Laws.{word_stays, times_none, times_again, times_ends, word_more}
use Rattle.aht.proofs.Over.words.Goals as goal

pub loop-word-init : goal.loop-word-init
loop-word-init c =
    let a = c.args in
    let s = a.self.now in
    (times_none (word_on s.frame.now a.mode) (tally_of s.frame.now s.place a.t.now), omega arith, c.requires)

pub returns-in_err-word-clause-words : goal.returns-in_err-word-clause-words
returns-in_err-word-clause-words c =
    let a = c.args in
    let s = a.self.now in
    let l = c.loop-word in
    let e = err_from_is_err_and c.from_residual.result c.from_residual.ensures.1 in
    rw (e.1, e.2)
    (times_ends (word_on s.frame.now a.mode) (tally_of s.frame.now s.place a.t.now) a.n l._word
    (tally_of s.frame.now s.place l.t) _ _ (omega arith) l.invariant.0 c.in_err-word.ensures.word (word_stays s.frame.now a.mode) refl)

pub loop-word-preserved : goal.loop-word-preserved
loop-word-preserved c =
    let a = c.args in
    let s = a.self.now in
    let l = c.loop-word in
    let m = c.in_ok-word.ensures.moved in (
      times_again (word_on s.frame.now a.mode) (tally_of s.frame.now s.place a.t.now) l._word
          (tally_of s.frame.now s.place l.t) _ l.invariant.0 c.in_ok-word.ensures.word,
      word_more a.t.now.pos l._word a.mode _ _ l.invariant.1 m.0,
      m.1,
    )
