-- `aht::aht` meets its contract: 6 comes first, and else the walk from gaqmod on.
-- Assumes nothing.
use Prim.Native.Nat.{◌-◌}
use mathlib.Core.Path.{◌≡◌, ◌∙◌, sym, ap}
use lib.Seq.{slice}
use Rattle.std.proofs.lemmas.Slice.{between_is}
use Rattle.bits.specs.Bits.{bits_at}
use Rattle.aht.specs.Aht.{Walk, going, tallied, told, refuse_on, read_on, mode_on, aht_of}
use Rattle.aht.specs.Tallies.{place_at, step_of}
use Rattle.aht.proofs.Laws.{begun_is, aht_unfit, aht_fit}
use Rattle.aht.proofs.aht.Goals as goal
use Rattle.aht.proofs.aht.Goals.{in-Ok, in-Err}

pub returns-then-is_unfit : goal.returns-then-is_unfit
unfolding refuse_on
returns-then-is_unfit c =
    let a = c.args in
    rw c.at.ensures (aht_unfit a.frame.now a.place a.hebap.now a.start.0 a.end.0 (sym c.is_unfit.ensures ∙ c.if-is_unfit.true))

pub returns : goal.returns
returns c =
    let a = c.args in
    let f = a.frame.now in
    let t = c.all-walked.new.t in
    let r : Walk = going (bits_at f (a.place.pos - 0) 0) (tallied (place_at a.place a.place.pos) 0) in
    let fits : told (step_of f a.place c.all-walked.result t) ≡ aht_of f a.place a.hebap.now a.start.0 a.end.0
    = ap told
    (c.all-walked.ensures
    ∙ ap (λ hs. mode_on f hs (read_on f 2 r)) (between_is a.hebap.now a.start.0 a.end.0)
    ∙ ap (λ q. mode_on f (slice a.start.0 a.end.0 a.hebap.now) (read_on f 2 q)) (begun_is f a.place))
    ∙ aht_fit f a.place a.hebap.now a.start.0 a.end.0 (sym c.is_unfit.ensures ∙ c.if-is_unfit.false) in
    elim c.match-walked.branch [
      | in-Ok w ↦ rw (w.answer-is, c.at-2.ensures) (ap (λ r. told (step_of f a.place r t)) (sym w.in-Ok.is) ∙ fits)
      | in-Err w ↦ rw (w.answer-is, w.at-in-Err.ensures, c.at-2.ensures) (ap (λ r. told (step_of f a.place r t)) (sym w.in-Err.is) ∙ fits)
    ]
