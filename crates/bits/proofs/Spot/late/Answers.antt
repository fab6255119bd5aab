-- `bits::Spot::late` meets its contract: the bits are cut out of the bytes that are left.
-- Assumes nothing.
use mathlib.Core.Path.{◌≡◌, ◌∙◌}
use Prim.Native.Nat.{◌-◌, ◌*◌}
use lib.ListN.{length}
use Rattle.bits.proofs.Laws.{bits_at_cut}
use native.Mathlib.Omega.{arith}
use Rattle.bits.proofs.Spot.late.Goals as goal

pub returns : goal.returns
returns c =
    let a = c.args.self in
    let rest = length a.bytes.now - a.first in
    let e : rest * 8 ≡ 8 * rest = omega arith in
    c.cut.ensures
    ∙ rw (c.gather.ensures, e) (bits_at_cut a.bytes.now (8 * a.first) a.off c.args.n (8 * rest) (omega arith))
