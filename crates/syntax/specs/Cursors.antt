-- The cursor as one value ("The cursor looks into the caller's frame bytes and never copies them"): what each call over it comes
-- to is what the call on its bytes and place comes to, and the cursor after it has that place in the same bytes.
-- Assumes nothing.
use Rattle.std.specs.Prelude.{ℕ, List, length, negsuc}
use Rattle.std.specs.Borrow.{Bor}
use Rattle.refusal.specs.Refusals.{Outcome, Ran}
use Rattle.syntax.specs.declared.Role.{Role}
use Rattle.syntax.specs.declared.Place.{Place}
use Rattle.syntax.specs.declared.Ask.{Ask}
use Rattle.syntax.specs.declared.cursor.Cursor.{Cursor}
use Rattle.syntax.specs.Reads.{Standing, standing, read_of, raw_of, close_of}

-- the cursor at another place of the same bytes
abbrev pub moved : Cursor → Place → Cursor
moved c p = record { bytes = c.bytes; place = p }

-- a cursor at bit 0, outside the blocks, with no element logged
abbrev pub opened : Bor (List ℕ) → ℕ → Cursor
opened bytes limit = record { bytes = bytes; place = record { pos = 0; limit = limit; block = negsuc 0; count = 0 } }

-- what a call over a cursor leaves behind: the cursor, and the log
pub record Held : Type 0 where
  pub cursor : Cursor
  pub log : List ℕ

-- an outcome with the cursor and the log after it; where no log is lent, with the cursor alone
abbrev pub held_of : {A : Type 0} → Outcome A → Cursor → List ℕ → Ran Held A
held_of o c log = record { outcome = o; state = record { cursor = c; log = log } }

abbrev pub raw_held_of : {A : Type 0} → Outcome A → Cursor → Ran Cursor A
raw_held_of o c = record { outcome = o; state = c }

-- a call on bytes and place, over the cursor c that has them
abbrev pub over : {A : Type 0} → Cursor → Ran Standing A → Ran Held A
over c r = held_of r.outcome (moved c r.state.place) r.state.log

abbrev pub raw_over : {A : Type 0} → Cursor → Ran Place A → Ran Cursor A
raw_over c r = raw_held_of r.outcome (moved c r.state)

-- an element, raw bits, and the close of a span at the cursor
abbrev pub read_at : Cursor → List ℕ → Ask → Ran Held ℕ
read_at c log a = over c (read_of c.bytes.now (standing c.place log) a)

abbrev pub raw_at : Cursor → ℕ → Ran Cursor ℕ
raw_at c n = raw_over c (raw_of c.bytes.now c.place n)

abbrev pub close_at : Cursor → List ℕ → ℕ → Role → ℕ → Ran Held Unit
close_at c log name role start = over c (close_of (length c.bytes.now) (standing c.place log) name role start)
