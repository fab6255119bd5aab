-- Reads, spans and the sticky reader: what each comes to, and the cursor's place and the log after it, for all inputs, by document
-- 01's numbers and its order of tests.
-- Assumes nothing.
use Rattle.std.specs.Prelude.{ℕ, ◌+◌, ◌-◌, ◌*◌, ◌/◌, min, List, Bool, ◌||◌, length, ltb, eqb, negsuc}
use Rattle.refusal.specs.Refusals.{Outcome, taken, refuse_if, past_limit, and_then, Ran, ran_of, settle, then_run}
use Rattle.bits.specs.Bits.{bits_at}
use Rattle.syntax.specs.declared.Role.{Role}
use Rattle.syntax.specs.declared.Element.{Element}
use Rattle.syntax.specs.declared.Place.{Place}
use Rattle.syntax.specs.declared.Ask.{Ask}
use Rattle.syntax.specs.declared.Moved.{Moved}
use Rattle.syntax.specs.Elements.{written}

-- what a reader leaves behind: the cursor's numbers, and the log
pub record Standing : Type 0 where
  pub place : Place
  pub log : List ℕ

abbrev pub standing : Place → List ℕ → Standing
standing p log = record { place = p; log = log }

-- what an answer means, with the place and the log after it; where no log is lent, with the place alone
abbrev pub moved_of : {A : Type 0} → Moved A → List ℕ → Ran Standing A
moved_of m log = ran_of m.answer (standing m.place log)

abbrev pub bare_moved_of : {A : Type 0} → Moved A → Ran Place A
bare_moved_of m = ran_of m.answer m.place

-- "at most 4,096 elements of its room are used", eight words each
abbrev pub room : ℕ → ℕ
room words = min 4096 (words / 8)

-- "a cursor's limit is at most 32,768 bits and never past its data (else it isn't sound: 6)"
abbrev pub unsound : ℕ → Place → Bool
unsound len p = ltb 32768 p.limit || ltb (8 * len) p.limit

-- "Reading one element tests 6, then 1, then 19": one element of any width; "a count past that is 6"
unfoldable pub fits : ℕ → ℕ → Place → ℕ → Outcome Unit
fits len words p width =
    refuse_if (unsound len p || ltb (room words) p.count) 6 p.pos
    (past_limit (p.pos + width) p.limit p.pos
    (refuse_if (eqb p.count (room words)) 19 p.pos (taken tt)))

-- the element that is asked for, from bit start on, in the cursor's block
abbrev pub element_of : Place → ℕ → Ask → ℕ → Element
element_of p start a v =
    record { name = a.name; role = a.role; block = p.block; index = a.index; pos = start; width = a.width; value = v }

-- one element more in the log, and the cursor at bit next
abbrev pub logged : Standing → Element → ℕ → Standing
logged st e next =
    standing
    (record { pos = next; limit = st.place.limit; block = st.place.block; count = st.place.count + 1 })
    (written st.log st.place.count e)

-- the value of an element of at most 32 bits that can be logged
abbrev pub value_at : List ℕ → ℕ → Place → ℕ → Outcome ℕ
value_at frame words p width =
    refuse_if (ltb 32 width) 6 p.pos
    (and_then (fits (length frame) words p width) (λ _. taken (bits_at frame p.pos width)))

-- reading an element of at most 32 bits: the bits' value; "1 and 19 leave the cursor before the element"
unfoldable pub read_of : List ℕ → Standing → Ask → Ran Standing ℕ
read_of frame st a =
    let p = st.place in
    settle st (logged st (element_of p p.pos a (bits_at frame p.pos a.width)) (p.pos + a.width))
    (value_at frame (length st.log) p a.width)

-- the place after n bits
abbrev pub ahead : Place → ℕ → Place
ahead p n = record { pos = p.pos + n; limit = p.limit; block = p.block; count = p.count }

-- the value of bits inside a span
abbrev pub raw_value_at : List ℕ → Place → ℕ → Outcome ℕ
raw_value_at frame p n =
    refuse_if (unsound (length frame) p || ltb 32 n) 6 p.pos
    (past_limit (p.pos + n) p.limit p.pos
    (taken (bits_at frame p.pos n)))

-- "Raw reads log nothing"
unfoldable pub raw_of : List ℕ → Place → ℕ → Ran Place ℕ
raw_of frame p n = settle p (ahead p n) (raw_value_at frame p n)

-- a span as an element that is asked for: it has no index
abbrev pub span_ask : ℕ → Role → ℕ → Ask
span_ask name role width = record { name = name; role = role; index = negsuc 0; width = width }

-- a span of any width from the cursor on, whose value is 0
unfoldable pub span_of : ℕ → Standing → ℕ → Role → ℕ → Ran Standing Unit
span_of len st name role width =
    let p = st.place in
    settle st (logged st (element_of p p.pos (span_ask name role width) 0) (p.pos + width))
    (fits len (length st.log) p width)

-- "start past the cursor, or cursor past its limit: 6, then 19"
unfoldable pub closes : ℕ → ℕ → Place → ℕ → Outcome Unit
closes len words p start =
    refuse_if (unsound len p || ltb (room words) p.count || ltb p.pos start || ltb p.limit p.pos) 6 p.pos
    (refuse_if (eqb p.count (room words)) 19 p.pos (taken tt))

-- "closing a span logs one element from its start to the cursor, which stays"
unfoldable pub close_of : ℕ → Standing → ℕ → Role → ℕ → Ran Standing Unit
close_of len st name role start =
    let p = st.place in
    settle st (logged st (element_of p start (span_ask name role (p.pos - start)) 0) p.pos)
    (closes len (length st.log) p start)

-- the sticky reader: a refused one stays as it is
unfoldable pub next_of : List ℕ → Ask → Ran Standing ℕ → Ran Standing ℕ
next_of frame a r = then_run r (λ _ st. read_of frame st a)
