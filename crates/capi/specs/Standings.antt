-- The calling convention over a cursor: its position and its count are read and written, and the log is lent.
-- Assumes nothing.
use Rattle.std.specs.Prelude.{ℕ, List, ℤ, pos}
use Rattle.refusal.specs.Refusals.{Outcome, taken, refused, Ran}
use Rattle.syntax.specs.declared.Place.{Place}
use Rattle.syntax.specs.declared.Ask.{Ask}
use Rattle.syntax.specs.declared.Element.{Element}
use Rattle.syntax.specs.Elements.{role_of, role_word}
use Rattle.syntax.specs.Reads.{Standing}
use Rattle.convention.specs.Replies.{Reply, reply, reply_of, Told, told, told_of}

-- the cursor and the element asked for, from a caller's numbers
abbrev pub place_of : ℕ → ℕ → ℤ → ℕ → Place
place_of at limit block count = record { pos = at; limit = limit; block = block; count = count }

-- of a read that looks at no block and no count
abbrev pub bare_place_of : ℕ → ℕ → Place
bare_place_of at limit = place_of at limit (pos 0) 0

abbrev pub ask_of : ℕ → ℕ → ℤ → ℕ → Ask
ask_of name role index width = record { name = name; role = role_of role; index = index; width = width }

-- what a caller is left with: the reply, the cursor's position and count, and the log
pub record Stood (A : Type 0) : Type 0 where
  pub reply : Reply A
  pub pos : ℕ
  pub count : ℕ
  pub log : List ℕ

abbrev pub stood : {A : Type 0} → ℕ → A → ℕ → ℕ → ℕ → List ℕ → Stood A
stood k v b at count log = record { reply = reply k v b; pos = at; count = count; log = log }

abbrev pub stood_of : {A : Type 0} → A → Ran Standing A → Stood A
stood_of other r =
    record { reply = reply_of other r.outcome; pos = r.state.place.pos; count = r.state.place.count; log = r.state.log }

-- the same of a call that gives no value
pub record Moved : Type 0 where
  pub told : Told
  pub pos : ℕ
  pub count : ℕ
  pub log : List ℕ

abbrev pub moved : ℕ → ℕ → ℕ → ℕ → List ℕ → Moved
moved k b at count log = record { told = told k b; pos = at; count = count; log = log }

abbrev pub moved_of : {A : Type 0} → Ran Standing A → Moved
moved_of r = record { told = told_of r.outcome; pos = r.state.place.pos; count = r.state.place.count; log = r.state.log }

-- the same of a call that logs nothing
pub record Advanced : Type 0 where
  pub reply : Reply ℕ
  pub pos : ℕ

abbrev pub advanced : ℕ → ℕ → ℕ → ℕ → Advanced
advanced k v b at = record { reply = reply k v b; pos = at }

abbrev pub advanced_of : Ran Place ℕ → Advanced
advanced_of r = record { reply = reply_of 0 r.outcome; pos = r.state.pos }

-- an element field by field, its role as a word
pub record Fields : Type 0 where
  pub name : ℕ
  pub role : ℕ
  pub block : ℤ
  pub index : ℤ
  pub pos : ℕ
  pub width : ℕ
  pub value : ℕ

abbrev pub fields : ℕ → ℕ → ℤ → ℤ → ℕ → ℕ → ℕ → Fields
fields n r b i p w v = record { name = n; role = r; block = b; index = i; pos = p; width = w; value = v }

abbrev pub fields_at : Outcome Element → Outcome Fields
fields_at (taken e) = taken (fields e.name (role_word e.role) e.block e.index e.pos e.width e.value)
fields_at (refused g) = refused g

-- all 0, where there is no element
abbrev pub no_fields : Fields
no_fields = fields 0 0 (pos 0) (pos 0) 0 0 0
