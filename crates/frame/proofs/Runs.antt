-- The steps of a tail at a cursor are the definition's: what each comes to, and all of them together.
-- Assumes nothing.
use Prim.Native.Nat.{ℕ, ◌-◌}
use mathlib.Core.Path.{◌≡◌, refl, ap, ◌∙◌}
use mathlib.Core.List.{List}
use mathlib.Core.Bool.{Bool}
use lib.ListN.{length}
use Rattle.refusal.specs.Refusals.{Grounds, Outcome, taken, refused, and_then, placed, Ran, ends, then_run}
use Rattle.syntax.specs.declared.Place.{Place}
use Rattle.syntax.specs.declared.Ask.{Ask}
use Rattle.syntax.specs.declared.cursor.Cursor.{Cursor}
use Rattle.syntax.specs.declared.Role.TheVariants.{AuxBits, AuxDataE, CrcRsv, Crc2}
use Rattle.syntax.specs.Names as names
use Rattle.syntax.specs.Reads.{Standing, standing, read_of, span_of}
use Rattle.syntax.specs.Tiling.{tiling_of}
use Rattle.syntax.specs.Cursors.{Held, held_of, over}
use Rattle.exponents.proofs.Held.{held_stops, held_on}
use Rattle.probe.specs.declared.Codec.{Codec}
use Rattle.frame.specs.declared.Stretch.{Stretch}
use Rattle.frame.specs.Tail.{has_aux, behind, fit_of, outside, tail_ask, reserved_name, length_of, last_of, tiles_of, elements_of, tail_of}

-- auxdatae, the reserved bit, crc2
module _ (codec : Codec) where
  abbrev third : List ℕ → ℕ → Standing → Ran Standing ℕ
  third frame _ st = read_of frame st (tail_ask names.crc2 Crc2 16)

  abbrev second : List ℕ → ℕ → Standing → Ran Standing ℕ
  second frame _ st = then_run (read_of frame st (tail_ask (reserved_name codec) CrcRsv 1)) (third frame)

  module _ (c₀ : Cursor) (log₀ : List ℕ) where
    abbrev three : Ran Held ℕ
    three = over c₀ (last_of c₀.bytes.now codec (standing c₀.place log₀))

    abbrev next : Ask → Ran Standing ℕ
    next k = read_of c₀.bytes.now (standing c₀.place log₀) k

    begins : {ask : Ask} → ask ≡ tail_ask names.auxdatae AuxDataE 1 → over c₀ (then_run (next ask) (second c₀.bytes.now)) ≡ three
    unfolding last_of
    begins a = ap (λ (k : Ask). over c₀ (then_run (next k) (second c₀.bytes.now))) a

    module _ {ask : Ask} (a : ask ≡ tail_ask names.auxdatae AuxDataE 1) {c : Cursor} {log : List ℕ} where
      pub last_stops : {x : Grounds} → held_of {A = ℕ} (refused x) c log ≡ over c₀ (next ask) → held_of {A = ℕ} (refused x) c log ≡ three
      last_stops e = held_stops c₀ (next ask) second e ∙ begins a

      module _ {u : ℕ} (e : held_of (taken u) c log ≡ over c₀ (next ask)) where
        goes : {ask' : Ask} → ask' ≡ tail_ask (reserved_name codec) CrcRsv 1
            → over c (then_run (read_of c.bytes.now (standing c.place log) ask') (third c.bytes.now)) ≡ three
        goes a' =
            ap (λ (k : Ask). over c (then_run (read_of c.bytes.now (standing c.place log) k) (third c.bytes.now))) a'
            ∙ held_on c₀ (next ask) second e ∙ begins a

        module _ {ask' : Ask} (a' : ask' ≡ tail_ask (reserved_name codec) CrcRsv 1) {c' : Cursor} {log' : List ℕ} where
          pub last_stops_then : {x : Grounds} → held_of {A = ℕ} (refused x) c' log' ≡ over c (read_of c.bytes.now (standing c.place log) ask')
              → held_of {A = ℕ} (refused x) c' log' ≡ three
          last_stops_then f = held_stops c (read_of c.bytes.now (standing c.place log) ask') third f ∙ goes a'

          pub last_ends : {v : ℕ} → held_of (taken v) c' log' ≡ over c (read_of c.bytes.now (standing c.place log) ask')
              → {ask'' : Ask} → ask'' ≡ tail_ask names.crc2 Crc2 16 → {o : Outcome ℕ} {c'' : Cursor} {log'' : List ℕ}
              → held_of o c'' log'' ≡ over c' (read_of c'.bytes.now (standing c'.place log') ask'') → held_of o c'' log'' ≡ three
          last_ends f a'' h =
              h ∙ ap (λ (k : Ask). over c' (read_of c'.bytes.now (standing c'.place log') k)) a''
              ∙ held_on c (read_of c.bytes.now (standing c.place log) ask') third f ∙ goes a'

-- all the elements: auxbits starts at bit start
module _ (total : ℕ) (codec : Codec) (start : ℕ) where
  abbrev tiling : ℕ → List ℕ → ℕ → Standing → Ran Standing Stretch
  tiling l _ _ st = tiles_of total (record { start = start; width = l }) st

  abbrev lasts : List ℕ → ℕ → Standing → Ran Standing Stretch
  lasts frame l st = then_run (last_of frame codec st) (tiling l frame)

  abbrev lengths : Bool → ℕ → List ℕ → Unit {0} → Standing → Ran Standing Stretch
  lengths aux width frame _ st = then_run (length_of frame aux width st) (lasts frame)

-- with what the code knows of auxdatae and of what stands behind auxbits
module _ (total : ℕ) (codec : Codec) (c₀ : Cursor) (log₀ : List ℕ) where
  abbrev all : Ran Held Stretch
  all = over c₀ (elements_of c₀.bytes.now total codec (standing c₀.place log₀))

  abbrev spanned : ℕ → Ran Standing Unit
  spanned width = span_of (length c₀.bytes.now) (standing c₀.place log₀) names.auxbits AuxBits width

  module _ {has : Bool} (h : has ≡ has_aux c₀.bytes.now total) {n : ℕ} (k : n ≡ behind has) where
    abbrev width : ℕ
    width = total - n - c₀.place.pos

    starts : over c₀ (then_run (spanned width) (lengths total codec c₀.place.pos has width c₀.bytes.now)) ≡ all
    unfolding elements_of
    starts = rw (← h, ← k) refl

    module _ {c : Cursor} {log : List ℕ} where
      pub bits_stop : {x : Grounds} → held_of {A = Unit} (refused x) c log ≡ over c₀ (spanned width) → held_of {A = Stretch} (refused x) c log ≡ all
      bits_stop e = held_stops c₀ (spanned width) (lengths total codec c₀.place.pos has width) e ∙ starts

      module _ {u : Unit} (e : held_of (taken u) c log ≡ over c₀ (spanned width)) where
        abbrev long : Ran Standing ℕ
        long = length_of c.bytes.now has width (standing c.place log)

        after_bits : over c (then_run long (lasts total codec c₀.place.pos c.bytes.now)) ≡ all
        after_bits = held_on c₀ (spanned width) (lengths total codec c₀.place.pos has width) e ∙ starts

        module _ {c₁ : Cursor} {log₁ : List ℕ} where
          pub length_stop : {x : Grounds} → held_of {A = ℕ} (refused x) c₁ log₁ ≡ over c long → held_of {A = Stretch} (refused x) c₁ log₁ ≡ all
          length_stop f = held_stops c long (lasts total codec c₀.place.pos) f ∙ after_bits

          module _ {l : ℕ} (f : held_of (taken l) c₁ log₁ ≡ over c long) where
            abbrev ending : Ran Standing ℕ
            ending = last_of c₁.bytes.now codec (standing c₁.place log₁)

            after_length : over c₁ (then_run ending (tiling total codec c₀.place.pos l c₁.bytes.now)) ≡ all
            after_length = held_on c long (lasts total codec c₀.place.pos) f ∙ after_bits

            module _ {c₂ : Cursor} {log₂ : List ℕ} where
              pub last_stop : {x : Grounds} → held_of {A = ℕ} (refused x) c₂ log₂ ≡ over c₁ ending → held_of {A = Stretch} (refused x) c₂ log₂ ≡ all
              last_stop p = held_stops c₁ ending (tiling total codec c₀.place.pos l) p ∙ after_length

              module _ {v : ℕ} (p : held_of (taken v) c₂ log₂ ≡ over c₁ ending) where
                abbrev closed : Outcome Unit → Ran Held Stretch
                closed o = over c₂ (ends (standing c₂.place log₂) (and_then o (λ _. taken (record { start = c₀.place.pos; width = l }))))

                pub frame_told : {o : Outcome Unit} → o ≡ placed total (tiling_of log₂ c₂.place.count total) → closed o ≡ all
                unfolding tiles_of
                frame_told e = ap closed e ∙ held_on c₁ ending (tiling total codec c₀.place.pos l) p ∙ after_length

-- the two ways of a tail
module _ (frame : List ℕ) (st : Standing) (total : ℕ) (codec : Codec) where
  pub tail_stops : {g : Grounds} → fit_of frame (length st.log) st.place total ≡ refused g → ends st (refused g) ≡ tail_of frame st total codec
  unfolding tail_of
  tail_stops e = rw e

  pub tail_on : fit_of frame (length st.log) st.place total ≡ taken tt → {p : Place} → p ≡ outside st.place
      → {r : Ran Standing Stretch} → r ≡ elements_of frame total codec (standing p st.log) → r ≡ tail_of frame st total codec
  unfolding tail_of
  tail_on e f h = h ∙ rw (e, f)
