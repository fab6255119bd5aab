-- `repair::repair_ac3` meets its contract. Assumes nothing.
use mathlib.Core.Path.{◌≡◌, sym, ap, ap₂, ◌∙◌}
use Prim.Native.Nat.{◌-◌}
use native.Mathlib.Omega.{arith}
use lib.ListN.{length}
use Rattle.crc.specs.Crc.{crc_of, crc1_of}
use Rattle.repair.specs.Repair.{part, crc_to, put_word, crc1_for, with_crc1, with_crc2, settled, repaired}
use Rattle.repair.proofs.Checks.{length_crc1, second_sum}
use Rattle.repair.proofs.repair_ac3.Goals as goal

pub put_crc2-requires : goal.put_crc2-requires
unfolding with_crc1
put_crc2-requires c =
    let s = c.args.frame.now in
    let one : c.crc1_of-crc1.result ≡ crc1_for s = c.crc1_of-crc1.ensures ∙ ap (λ e. crc1_of (part 4 e s)) c.five_eighths-five.ensures in
    let two : c.crc16-crc2.result ≡ crc_to (length s - 2) (with_crc1 s) =
    c.crc16-crc2.ensures ∙ ap (λ e. crc_of 0 (part e (length s - 2) s)) c.five_eighths-five.ensures ∙ second_sum s c.requires in
    let e = c.put_word.ensures ∙ ap (put_word s 2) one in
    let l = ap length e ∙ length_crc1 s in
    (omega (arith, l), two ∙ ap₂ (λ n t. crc_to (n - 2) t) (sym l) (sym e))

pub returns : goal.returns
unfolding repaired with_crc1
returns c =
    let s = c.args.frame.now in
    let one : c.crc1_of-crc1.result ≡ crc1_for s = c.crc1_of-crc1.ensures ∙ ap (λ e. crc1_of (part 4 e s)) c.five_eighths-five.ensures in
    c.put_crc2.ensures ∙ ap (λ t. with_crc2 (settled t)) (c.put_word.ensures ∙ ap (put_word s 2) one)
