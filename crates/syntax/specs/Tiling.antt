-- Elements back out of a log, and when they tile the bits of a frame.
-- There is no cursor here, so a refusal's bit is 0. Assumes nothing.
use Rattle.std.specs.Prelude.{ℕ, zero, suc, ◌+◌, ◌*◌, ◌≤◌, ◌<◌, List, Bool, true, ◌&&◌, not, ◌≡◌, length, get_or, eqb, ltb, leb}
use Rattle.refusal.specs.Refusals.{Outcome, taken, refuse_if}
use Rattle.syntax.specs.declared.Element.{Element}
use Rattle.syntax.specs.Elements.{decoded}
use Rattle.syntax.specs.Reads.{Standing, room}

-- element k of a log of count elements: 6 where the count passes the room, or k is not below the count
unfoldable pub element_at : List ℕ → ℕ → ℕ → Outcome Element
element_at log count k =
    refuse_if (ltb (room (length log)) count) 6 0
    (refuse_if (leb count k) 6 0
    (taken (decoded log k)))

-- where element k starts, and how many bits it has
abbrev pub pos_at : List ℕ → ℕ → ℕ
pos_at log k = get_or log (8 * k + 4) 0

abbrev pub width_at : List ℕ → ℕ → ℕ
width_at log k = get_or log (8 * k + 5) 0

-- where the first k elements end: at 0 where there are none
unfoldable pub end_at : List ℕ → ℕ → ℕ
end_at log zero = 0
end_at log (suc k) = pos_at log k + width_at log k

-- each of the first k elements starts where the one before it ends
unfoldable pub follows : List ℕ → ℕ → Bool
follows log zero = true
follows log (suc k) = follows log k && eqb (pos_at log k) (end_at log k)

-- and the last of n ends at total
unfoldable pub tiles : List ℕ → ℕ → ℕ → Bool
tiles log n total = follows log n && eqb (end_at log n) total

-- 6 where the count passes the room, then 18: "elements don't tile the frame"
unfoldable pub tiling_of : List ℕ → ℕ → ℕ → Outcome Unit
tiling_of log count total =
    refuse_if (ltb (room (length log)) count) 6 0
    (refuse_if (not (tiles log count total)) 18 0
    (taken tt))

-- the bits of the first k elements together
unfoldable pub widths : List ℕ → ℕ → ℕ
widths log zero = 0
widths log (suc k) = widths log k + width_at log k

-- the first n elements of a log tile the bits below pos: no gap, no overlap
pub record Reaches (log : List ℕ) (n pos : ℕ) : Type 0 where
  pub starts : (k : ℕ) → k < n → pos_at log k ≡ end_at log k
  pub ends : end_at log n ≡ pos

-- the log so far tiles the bits below the place
abbrev pub Reached : Standing → Type 0
Reached st = Reaches st.log st.place.count st.place.pos

-- bit b lies in one of the first n elements, and in no other of them
pub record InOne (log : List ℕ) (n b : ℕ) : Type 0 where
  pub at : ℕ
  pub below : at < n
  pub from : pos_at log at ≤ b
  pub to : b < pos_at log at + width_at log at
  pub only : (j : ℕ) → j < n → pos_at log j ≤ b → b < pos_at log j + width_at log j → j ≡ at
