-- The element just logged is read back out of the log.
-- Assumes nothing.
use Prim.Native.Nat.{ℕ, ◌+◌, ◌-◌, ◌*◌, ◌≤◌, ◌<◌}
use mathlib.Core.Path.{◌≡◌, ap, ◌∙◌}
use mathlib.Core.List.{List}
use native.Mathlib.Omega.{arith}
use lib.ListN.{length}
use borrow.Author.Tests.{le-ltb, lt-leb}
use Rattle.refusal.specs.Refusals.{taken}
use Rattle.syntax.specs.declared.Element.{Element}
use Rattle.syntax.specs.declared.Role.{Role}
use Rattle.syntax.specs.declared.Ask.{Ask}
use Rattle.syntax.specs.Elements.{written, decoded, Typed}
use Rattle.syntax.specs.Reads.{Standing, room, element_of, span_ask, read_of, span_of, close_of}
use Rattle.syntax.specs.Tiling.{element_at}
use Rattle.syntax.proofs.Log.{decoded_written}
use Rattle.syntax.proofs.Tests.{room_words}
use Rattle.syntax.proofs.ReadLaws.{room_on, read_taken, span_taken, close_taken}

-- an element below the count
pub element_inside : (log : List ℕ) (count k : ℕ) → count ≤ room (length log) → k < count → element_at log count k ≡ taken (decoded log k)
unfolding element_at
element_inside log count k r h = simp (le-ltb (room (length log)) count r, lt-leb count k h)

module _ (log : List ℕ) (k : ℕ) (e : Element) (r : k < room (length log)) where
  fits_in : 8 * k + 8 ≤ length log
  fits_in = (room_words (length log) k r).1

  -- the element that was written
  pub element_back : Typed e → element_at (written log k e) (k + 1) k ≡ taken e
  element_back t = element_inside (written log k e) (k + 1) k (room_on log k e r) (omega arith) ∙ ap taken (decoded_written log k e fits_in t)

-- after a read that was taken
pub read_back_lem : (frame : List ℕ) (st : Standing) (a : Ask) (v : ℕ) → Typed (element_of st.place st.place.pos a v) → (read_of frame st a).outcome ≡ taken v
    → element_at (read_of frame st a).state.log (read_of frame st a).state.place.count st.place.count ≡ taken (element_of st.place st.place.pos a v)
read_back_lem frame st a v t e =
    let r = read_taken frame st a v e in
    rw r.after (element_back st.log st.place.count (element_of st.place st.place.pos a v) r.free.room_left t)

-- after a span
pub span_back : (len : ℕ) (st : Standing) (name : ℕ) (role : Role) (width : ℕ)
    → Typed (element_of st.place st.place.pos (span_ask name role width) 0) → (span_of len st name role width).outcome ≡ taken tt
    → element_at (span_of len st name role width).state.log (span_of len st name role width).state.place.count st.place.count
    ≡ taken (element_of st.place st.place.pos (span_ask name role width) 0)
span_back len st name role width t e =
    let r = span_taken len st name role width e in
    rw r.1 (element_back st.log st.place.count (element_of st.place st.place.pos (span_ask name role width) 0) r.0.room_left t)

-- after a closed span
pub close_back : (len : ℕ) (st : Standing) (name : ℕ) (role : Role) (start : ℕ)
    → Typed (element_of st.place start (span_ask name role (st.place.pos - start)) 0) → (close_of len st name role start).outcome ≡ taken tt
    → element_at (close_of len st name role start).state.log (close_of len st name role start).state.place.count st.place.count
    ≡ taken (element_of st.place start (span_ask name role (st.place.pos - start)) 0)
close_back len st name role start t e =
    let r = close_taken len st name role start e in
    rw r.1 (element_back st.log st.place.count (element_of st.place start (span_ask name role (st.place.pos - start)) 0) r.0.room_left t)
