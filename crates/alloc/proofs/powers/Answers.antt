-- `alloc::powers` meets its contract: each turn fills one bin's place.
-- Assumes nothing.
use mathlib.Core.Path.{◌∙◌, ap}
use native.Mathlib.Omega.{arith}
use mathlib.Core.List.{List}
use lib.ListN.{get_or, set}
use lib.IntN.{ℤ, pos}
use mir.Syntax.{w32}
use mir.Val.{SFits}
use mir.Facts.{to_z-of_z}
use Rattle.alloc.specs.Clauses.{powers_of, psd_of}
use Rattle.alloc.proofs.TableLaws.{fill_turn, fill_start}
use Rattle.alloc.proofs.powers.Goals as goal

pub loop-i-init : goal.loop-i-init
unfolding powers_of
loop-i-init c = c.requires ∙ fill_start 256 c.args.bins.start.0 (pos 0) (λ i. psd_of (get_or c.args.exp.now i 0))

pub loop-i-preserved : goal.loop-i-preserved
unfolding powers_of
loop-i-preserved c =
    let f : SFits w32 c.psd_of.result = record { sfits = c.psd_of.type_inv } in
    rw (to_z-of_z f) (ap (λ (x : List ℤ). set x c.loop-i.i c.psd_of.result) c.loop-i.invariant ∙ fill_turn 256 c.args.bins.start.0 c.loop-i.i (pos 0) (λ i. psd_of (get_or c.args.exp.now i 0)) c.psd_of.result (omega arith) c.psd_of.ensures)
