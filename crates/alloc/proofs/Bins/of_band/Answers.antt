-- `alloc::Bins::of_band` meets its contract: the bins that a band and the channel share.
-- Assumes nothing.
use native.Mathlib.Omega.{arith}
use Rattle.tables.proofs.BandLaws.{in_band}
use Rattle.alloc.proofs.Bins.of_band.Goals as goal

pub overflow_add-k : goal.overflow_add-k
overflow_add-k c =
    let a = c.args in
    let r = in_band a.self.start.0 a.self.end.0 a.k.0 (omega arith) (omega arith) (omega arith) (omega arith) in
    omega arith

pub returns-clause-order : goal.returns-clause-order
returns-clause-order c =
    let a = c.args in
    let r = in_band a.self.start.0 a.self.end.0 a.k.0 (omega arith) (omega arith) (omega arith) (omega arith) in
    (omega arith, omega arith)
