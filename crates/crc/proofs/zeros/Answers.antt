-- `crc::zeros` meets its contract.
-- Assumes nothing.
use Rattle.std.proofs.Common.{◌≡◌, ◌%◌, ◌∙◌, refl, sym, ap, replicate, add-one, arith}
use Rattle.crc.specs.Crc.{byte_in, crc_of}
use Rattle.crc.proofs.Loops.{zeros_more}
use Rattle.crc.proofs.Period.{period, zeros_round}
use Rattle.crc.proofs.zeros.Goals as goal

pub loop-init : goal.loop-init
unfolding crc_of
loop-init c = refl

pub loop-preserved : goal.loop-preserved
loop-preserved c =
    let i = c.loop.counter in
    c.next-c.ensures ∙ ap (λ r. byte_in r 0) c.loop.invariant ∙ sym (zeros_more c.args.init i) ∙ ap (λ k. crc_of c.args.init (replicate k 0)) (sym (add-one i))

pub returns : goal.returns
returns c =
    let all : c.loop.counter ≡ c.args.n % period = omega arith in
    c.loop.invariant ∙ ap (λ k. crc_of c.args.init (replicate k 0)) all ∙ zeros_round c.args.init c.args.n c.ranges.init.fits
