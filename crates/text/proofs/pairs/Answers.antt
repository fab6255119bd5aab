-- `text::pairs` meets its contract.
-- Assumes nothing.
use Rattle.std.proofs.Common.{◌∙◌, take, arith}
use Rattle.std.proofs.lemmas.Grind.{common_steps}
use Rattle.text.specs.Text.{pairs_of}
use Rattle.text.proofs.Laws.{pairs_on, pairs_stop, pairs_end}
use Rattle.text.proofs.pairs.Goals as goal

pub loop-i-preserved : goal.loop-i-preserved
loop-i-preserved c =
    pairs_on c.args.word.now c.loop-i.i (omega arith) c.loop-i.out (omega arith) (cc (c.pair.ensures, c.in_ok-out.was, c.as_chunks.ensures.front))
    ∙ c.loop-i.invariant

pub returns-in_err-out-clause-out_after : goal.returns-in_err-out-clause-out_after
unfolding pairs_of
returns-in_err-out-clause-out_after c =
    let stop = pairs_stop c.args.word.now c.loop-i.i (omega arith) (take c.loop-i.i c.loop-i.out) (cc (c.pair.ensures, c.in_err-out.was, c.as_chunks.ensures.front)) in
    grind (arith, common_steps)

pub returns-clause-out_after : goal.returns-clause-out_after
unfolding pairs_of
returns-clause-out_after c =
    let end = pairs_end (take c.loop-i.i c.loop-i.out) c.args.word.now c.loop-i.i (omega arith) in
    grind (arith, common_steps)
