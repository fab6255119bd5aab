-- A channel's side information, from a caller's numbers.
-- Assumes nothing.
use Rattle.std.specs.Prelude.{ℕ, List, Bool, Option, get_or}
use Rattle.std.specs.Bool.{then_some}
use Rattle.alloc.specs.declared.Codes.{Codes}
use Rattle.alloc.specs.declared.Leak.{Leak}
use Rattle.tables.specs.declared.Delta.{Delta}

-- the codes, in the order of their names
abbrev pub codes_from : List ℕ → Codes
codes_from l =
    record { sdcycod = get_or l 0 0; fdcycod = get_or l 1 0; sgaincod = get_or l 2 0; dbpbcod = get_or l 3 0; floorcod = get_or l 4 0; fgaincod = get_or l 5 0; csnroffst = get_or l 6 0; fsnroffst = get_or l 7 0; fscod = get_or l 8 0 }

-- the leaks, where there are any
abbrev pub leak_from : Bool → ℕ → ℕ → Option Leak
leak_from has f s = then_some has (record { cplfleak = f; cplsleak = s })

-- the delta segments
abbrev pub delta_from : ℕ → List ℕ → List ℕ → List ℕ → Delta
delta_from n offset length ba = record { count = n; offset = offset; len = length; ba = ba }
