-- The rule for the words of an AC-3 frame is TS's table: one computed test over its 114 numbers.
-- Assumes nothing.
use mathlib.Core.Path.{refl}
use Rattle.probe.specs.Probe.{rate, words_of}
use Rattle.probe.specs.Table.{ruled, AsPrinted}

pub as_printed : AsPrinted
unfolding ruled words_of rate
as_printed = refl
