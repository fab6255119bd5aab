-- `alloc::Bins::bands` meets its contract: a channel's bins have bands, and none past the last.
-- Assumes nothing.
use Prim.Native.Nat.{◌-◌}
use native.Mathlib.Omega.{arith}
use Rattle.tables.proofs.BandLaws.{band_below, band_mono}
use Rattle.alloc.proofs.Bins.bands.Goals as goal

pub overflow_add-result : goal.overflow_add-result
overflow_add-result c = omega (arith, band_below (c.args.self.end.0 - 1) (omega arith), c.band_of-last.ensures)

pub returns-clause-order : goal.returns-clause-order
returns-clause-order c =
    let b = band_below (c.args.self.end.0 - 1) (omega arith) in
    let m = band_mono c.args.self.start.0 (c.args.self.end.0 - 1) (omega arith) (omega arith) in
    (omega arith, omega arith)
