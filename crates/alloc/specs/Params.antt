-- TS 6.2.2.1: a channel's parameters, out of the codes that it is sent with. The first code past its table is refused with 11.
-- Assumes nothing.
use Rattle.std.specs.Prelude.{ℕ, ℤ, pos, ltb, false, not, Option, Some, None}
use Rattle.refusal.specs.Refusals.{Outcome, taken, refuse_if, and_then}
use Rattle.tables.specs.Codes.{code_at, slow_decay, fast_decay, slow_gain, knee_table, floor_table, fast_gain, leak_of, snr_of}
use Rattle.alloc.specs.declared.Codes.{Codes}
use Rattle.alloc.specs.declared.Leak.{Leak}
use Rattle.alloc.specs.declared.Curve.{Curve}
use Rattle.alloc.specs.declared.Levels.{Levels}
use Rattle.alloc.specs.declared.Carried.{Carried}
use Rattle.alloc.specs.declared.Parameters.{Parameters}
use Rattle.tables.specs.declared.Delta.{Delta}
use Rattle.tables.specs.Fits.{delta_fits}

-- the decays and gains of a channel
unfoldable pub curve_of : Codes → Outcome Curve
curve_of k =
    and_then (code_at slow_decay k.sdcycod) (λ sd.
    and_then (code_at fast_decay k.fdcycod) (λ fd.
    and_then (code_at slow_gain k.sgaincod) (λ sg.
    and_then (fast_gain k.fgaincod) (λ fg.
    taken (record { sdecay = sd; fdecay = fd; sgain = sg; fgain = fg })))))

-- its knee, floor and SNR offset, and the row of HEARING
unfoldable pub levels_of : Codes → Outcome Levels
levels_of k =
    and_then (code_at knee_table k.dbpbcod) (λ knee.
    and_then (code_at floor_table k.floorcod) (λ floor.
    and_then (snr_of k.csnroffst k.fsnroffst) (λ snr.
    refuse_if (ltb 2 k.fscod) 11 0
    (taken (record { knee = knee; floor = floor; snr = snr; fscod = k.fscod })))))

-- what the excitation begins with
abbrev pub begins_at : ℤ → ℤ → Carried
begins_at fast slow = record { fast = fast; slow = slow; low = pos 0; out = pos 0; begun = false }

-- the coupling channel begins with its leaks
unfoldable pub leaks_of : ℕ → ℕ → Outcome Carried
leaks_of f s = and_then (leak_of f) (λ fast. and_then (leak_of s) (λ slow. taken (begins_at fast slow)))

-- "a leak not given is 0, 0"
unfoldable pub start_of : Option Leak → Outcome Carried
start_of None = taken (begins_at (pos 0) (pos 0))
start_of (Some l) = leaks_of l.cplfleak l.cplsleak

-- all of a channel's parameters
unfoldable pub decoded_of : Codes → Option Leak → Delta → Outcome Parameters
decoded_of k l d =
    and_then (curve_of k) (λ c.
    and_then (levels_of k) (λ v.
    and_then (start_of l) (λ s.
    refuse_if (not (delta_fits d)) 11 0
    (taken (record { curve = c; levels = v; begun = s; delta = d })))))
