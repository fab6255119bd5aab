-- `aht::Over::six` meets its contract: each gain is a case of the definition.
-- Assumes nothing.
use mathlib.Core.Path.{◌∙◌, ap}
use Rattle.aht.specs.Aht.{times, gained_on}
use Rattle.aht.specs.Tallies.{tally_of}
use Rattle.aht.proofs.Laws.{times_alike, mantissa_plain, mantissa_two, mantissa_four}
use Rattle.aht.proofs.Over.six.Goals as goal
use Rattle.aht.proofs.Over.six.Goals.{then-gain-eq2, else-gain-eq2}

pub returns-then-gain-eq1 : goal.returns-then-gain-eq1
returns-then-gain-eq1 c =
    let a = c.args in
    let f = a.self.now.frame.now in
    c.six_plain.ensures
    ∙ times_alike 6 _ _ (mantissa_plain f a.m a.gain c.if-gain-eq1.true) (tally_of f a.self.now.place a.t.now)

pub returns : goal.returns
returns c =
    let a = c.args in
    let f = a.self.now.frame.now in
    let r = tally_of f a.self.now.place a.t.now in
    elim c.if-gain-eq2.branch [
      | then-gain-eq2 w ↦
          c.six_gained.ensures
          ∙ ap (λ p. times 6 (gained_on f p.0 p.1) r) w.small-is
          ∙ times_alike 6 _ _ (mantissa_two f a.m a.gain w.if-gain-eq2.true) r
      | else-gain-eq2 w ↦
          c.six_gained.ensures
          ∙ ap (λ p. times 6 (gained_on f p.0 p.1) r) w.small-is
          ∙ times_alike 6 _ _ (mantissa_four f a.m a.gain c.if-gain-eq1.false w.if-gain-eq2.false) r
    ]
