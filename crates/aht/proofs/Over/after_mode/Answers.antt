-- `aht::Over::after_mode` meets its contract: the gain words come first, and then the bins.
-- Assumes nothing.
use mathlib.Core.Path.{refl, ◌∙◌, ap}
use Rattle.std.proofs.lemmas.Result.{err_from_is_err_and}
use Rattle.aht.specs.Aht.{times, word_on, sections}
use Rattle.aht.specs.Tallies.{tally_of}
use Rattle.aht.proofs.Laws.{words_end, words_on}
use Rattle.aht.proofs.Over.after_mode.Goals as goal

pub returns-in_err-words : goal.returns-in_err-words
returns-in_err-words c =
    let a = c.args in
    let f = a.self.now.frame.now in
    let r = tally_of f a.self.now.place a.t.now in
    let e = err_from_is_err_and c.from_residual.result c.from_residual.ensures.1 in
    rw (e.1, e.2)
    (words_end f a.hebap.now r a.mode _
    (c.in_err-words.ensures.words ∙ ap (λ n. times n (word_on f a.mode) r) (c.words_of.ensures ∙ ap (sections a.mode) c.count_active-n.ensures.0))
    refl)

pub returns : goal.returns
returns c =
    let a = c.args in
    let f = a.self.now.frame.now in
    let r = tally_of f a.self.now.place a.t.now in
    c.bins.ensures
    ∙ words_on f a.hebap.now r a.mode (tally_of f a.self.now.place c.words.new.t)
    (c.in_ok-words.ensures.words ∙ ap (λ n. times n (word_on f a.mode) r) (c.words_of.ensures ∙ ap (sections a.mode) c.count_active-n.ensures.0))
    refl
