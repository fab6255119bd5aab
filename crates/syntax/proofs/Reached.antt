-- The log so far tiles the bits below the place: true of an empty log at bit 0, and kept by every read, span and closed span that
-- starts where the log ends, and by the sticky reader.
-- Assumes nothing.
use Prim.Native.Nat.{ℕ, ◌+◌, ◌-◌}
use mathlib.Core.Path.{◌≡◌, sym, subst}
use mathlib.Core.List.{List}
use native.Mathlib.Omega.{arith}
use lib.ListN.{length}
use Rattle.refusal.specs.Refusals.{taken, Ran}
use Rattle.syntax.specs.declared.Role.{Role}
use Rattle.syntax.specs.declared.Place.{Place}
use Rattle.syntax.specs.declared.Ask.{Ask}
use Rattle.syntax.specs.Reads.{Standing, standing, element_of, span_ask, read_of, span_of, close_of, next_of}
use Rattle.syntax.specs.Tiling.{tiling_of, Reaches, Reached}
use Rattle.syntax.proofs.Tiled.{reaches_none, reaches_on, reaches_accepted}
use Rattle.syntax.proofs.Tests.{room_words}
use Rattle.syntax.proofs.ReadLaws.{Roomy, read_either, span_either, next_either, close_taken}

-- an empty log at bit 0
pub reached_none : (p : Place) (log : List ℕ) → p.count ≡ 0 → p.pos ≡ 0 → Reached (standing p log)
reached_none p log c e = rw (c, e) (reaches_none log)

-- a read, whatever it comes to
pub read_reached : (frame : List ℕ) (st : Standing) (a : Ask) → Reached st → Reached (read_of frame st a).state
read_reached frame st a r =
    read_either frame st a Reached r
    (λ v t. reaches_on st.log st.place.count (element_of st.place st.place.pos a v)
    (room_words (length st.log) st.place.count t.free.room_left).1 r)

-- a span, whatever it comes to
pub span_reached : (len : ℕ) (st : Standing) (name : ℕ) (role : Role) (width : ℕ) → Reached st → Reached (span_of len st name role width).state
span_reached len st name role width r =
    span_either len st name role width Reached r
    (λ f. reaches_on st.log st.place.count (element_of st.place st.place.pos (span_ask name role width) 0)
    (room_words (length st.log) st.place.count f.room_left).1 r)

-- a closed span that starts where the log ends
pub close_reached : (len : ℕ) (st : Standing) (name : ℕ) (role : Role) (start : ℕ) → (close_of len st name role start).outcome ≡ taken tt
    → Reaches st.log st.place.count start → Reached (close_of len st name role start).state
close_reached len st name role start e r =
    let t = close_taken len st name role start e in
    let f = t.0 in
    let s : start + (st.place.pos - start) ≡ st.place.pos = omega (arith, f.ordered) in
    subst Reached (sym t.1)
    (rw s at (reaches_on st.log st.place.count (element_of st.place start (span_ask name role (st.place.pos - start)) 0)
    (room_words (length st.log) st.place.count f.room_left).1 r))

-- the sticky reader
pub next_reached : (frame : List ℕ) (a : Ask) (r : Ran Standing ℕ) → Reached r.state → Reached (next_of frame a r).state
next_reached frame a r h =
    let st = r.state in
    next_either frame a r Reached h
    (λ v t. reaches_on st.log st.place.count (element_of st.place st.place.pos a v)
    (room_words (length st.log) st.place.count t.free.room_left).1 h)

-- and at the end such a log is accepted, with the place for its total
pub reached_accepted : (st : Standing) → Roomy st → Reached st
    → tiling_of st.log st.place.count st.place.pos ≡ taken tt
reached_accepted st h r = reaches_accepted st.log st.place.count st.place.pos h r
