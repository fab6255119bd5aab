-- `alloc::lent` meets its contract: tables that fit have their lengths.
-- Assumes nothing.
use mathlib.Core.Path.{sym, ◌∙◌}
use Rattle.alloc.proofs.Cases.{tables_lengths}
use Rattle.alloc.proofs.lent.Goals as goal

pub returns-in_err-as_array : goal.returns-in_err-as_array
returns-in_err-as_array c =
    let l = tables_lengths _ _ (sym c.tables_fit.ensures ∙ c.if-not-tables_fit.false) in
    absurd (c.in_err-as_array.ensures.cases l.0)

pub returns-in_err-as_array-2 : goal.returns-in_err-as_array-2
returns-in_err-as_array-2 c =
    let l = tables_lengths _ _ (sym c.tables_fit.ensures ∙ c.if-not-tables_fit.false) in
    absurd (c.in_err-as_array-2.ensures.cases l.1)
