-- What `allocate` answers, for all inputs, by document 01's numbers and in its order: "One channel alone takes codes too: 21, 11, the empty
-- range, 6, 8, in this order". There is no cursor here, so a refusal's bit is 0.
-- Assumes nothing.
use Rattle.std.specs.Prelude.{ℕ, ◌-◌, List, Option, cond, not, ltb, leb}
use Rattle.refusal.specs.Refusals.{Outcome, taken, refuse_if, and_then, Ran, leaves}
use Rattle.alloc.specs.declared.Codes.{Codes}
use Rattle.alloc.specs.declared.Leak.{Leak}
use Rattle.tables.specs.declared.Delta.{Delta}
use Rattle.tables.specs.declared.Pointers.{Pointers}
use Rattle.alloc.specs.declared.Curve.{Curve}
use Rattle.alloc.specs.declared.Carried.{Carried}
use Rattle.alloc.specs.declared.Levels.{Levels}
use Rattle.tables.specs.Bands.{zeros}
use Rattle.tables.specs.Fits.{upto, tables_fit, delta_fits}
use Rattle.tables.specs.Pointers.{table_of}
use Rattle.alloc.specs.Params.{curve_of, levels_of, start_of}
use Rattle.alloc.specs.Channel.{pointers_of}

-- a channel with its parameters decoded: the empty range, 6, 8, and the pointers
unfoldable pub channel_of : List ℕ → ℕ → ℕ → Curve → Levels → Carried → Delta → Pointers → List ℕ → List ℕ → Outcome (List ℕ)
channel_of exp start end c v s d which hearing log_add =
    cond (leb end start) (taken zeros)
    (refuse_if (ltb 253 end) 6 0
    (refuse_if (not (upto 24 exp start (end - start))) 8 0
    (taken (pointers_of exp log_add hearing (table_of which) start end c s v d))))

-- the pointers that were taken, and zeros on refusal
abbrev pub filled : Outcome (List ℕ) → Ran (List ℕ) Unit
filled o = leaves zeros o

-- 21, then 11, then the channel
unfoldable pub allocate_of : List ℕ → ℕ → ℕ → Codes → Option Leak → Delta → Pointers → List ℕ → List ℕ → Ran (List ℕ) Unit
allocate_of exp start end codes leak delta which hearing log_add =
    filled
    (refuse_if (not (tables_fit hearing log_add)) 21 0
    (and_then (curve_of codes) (λ c.
    and_then (levels_of codes) (λ v.
    and_then (start_of leak) (λ s.
    refuse_if (not (delta_fits delta)) 11 0
    (channel_of exp start end c v s delta which hearing log_add))))))
