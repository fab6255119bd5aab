-- `tables::all_upto` meets its contract: a test of the range, or of what the list has of it.
-- Assumes nothing.
use Prim.Native.Nat.{◌-◌, ℕ}
use mathlib.Core.Path.{◌∙◌, ap}
use mathlib.Core.Bool.{true}
use Rattle.std.specs.List.{fold, slice_range}
use Rattle.tables.specs.Fits.{upto}
use Rattle.tables.proofs.FitLaws.{also, fold_range, upto_byte}
use Rattle.tables.proofs.all_upto.Goals as goal

pub returns : goal.returns
returns c =
    let a = c.args in
    c.all_at_most.ensures
    ∙ ap (λ (i : ℕ). fold (also c.min-2.result) true (slice_range a.s.now i c.min-stop.result)) c.min.ensures
    ∙ fold_range c.min-2.result a.s.now a.start a.end c.min-stop.result c.min-stop.ensures
    ∙ ap (λ (t : ℕ). upto t a.s.now a.start (a.end - a.start)) c.min-2.ensures
    ∙ upto_byte a.top a.s.now a.start (a.end - a.start) (λ k. (c.type_inv.s k).fits)
