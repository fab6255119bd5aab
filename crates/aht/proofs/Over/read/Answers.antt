-- `aht::Over::read` meets its contract: it moves where its bits end within the limit.
-- Assumes nothing.
use native.Mathlib.Omega.{arith}
use Rattle.aht.proofs.Laws.{read_past, read_within}
use Rattle.aht.proofs.Over.read.Goals as goal

pub returns-then-saturating_sub-width-clause-read : goal.returns-then-saturating_sub-width-clause-read
returns-then-saturating_sub-width-clause-read c =
    let s = c.args.self.now in
    let t = c.args.t.now in
    read_past s.frame.now s.place c.args.n s.sound c.requires.1 _ t.pos t.tags (omega arith)

pub returns-clause-read : goal.returns-clause-read
returns-clause-read c =
    let s = c.args.self.now in
    let t = c.args.t.now in
    read_within s.frame.now s.place c.args.n s.sound c.requires.1 _ t.pos t.tags (omega arith)
