-- `bits::Spot::seven` meets its contract: the bits are cut out of a longer read of whole bytes.
-- Assumes nothing.
use mathlib.Core.Path.{◌≡◌}
use Prim.Native.Nat.{◌-◌, ◌*◌}
use Rattle.bits.proofs.Laws.{bits_at_cut}
use native.Mathlib.Omega.{arith}
use Rattle.bits.proofs.Spot.seven.Goals as goal

pub returns : goal.returns
returns c =
    let a = c.args.self in
    let e : 64 - a.off - 56 ≡ 8 - a.off = omega arith in
    rw c.gather.ensures (rw e at (bits_at_cut a.bytes.now (8 * a.first) a.off 56 64 (omega arith)))
