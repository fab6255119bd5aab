-- A row of walks in one block, with spans closed between them; T, the bits of its mantissas by counting; and what demand 3 says of both.
-- Assumes nothing.
use Rattle.std.specs.Prelude.{ℕ, ◌+◌, ◌-◌, ◌*◌, ◌/◌, ◌≤◌, ◌≡◌, ◌↔◌, false, cond, length, eqb}
use mathlib.Core.List.{List, [], ◌∷◌, ◌++◌, Perm}
use Rattle.std.proofs.Math.Seq.{slice}
use Rattle.refusal.specs.Refusals.{taken, Ran, then_run}
use Rattle.syntax.specs.declared.Role.{Role}
use Rattle.syntax.specs.Reads.{Standing, standing, room, unsound, close_of}
use Rattle.walks.specs.declared.Groups.{Groups}
use Rattle.walks.specs.Walk.{width, unfit_range, walk_of}

-- 1. Counting.

-- the sum of f over a list of codes
unfoldable pub sum_of : (ℕ → ℕ) → List ℕ → ℕ
sum_of f [] = 0
sum_of f (b ∷ bs) = f b + sum_of f bs

-- how many of the codes are c
abbrev pub occurs : ℕ → List ℕ → ℕ
occurs c bs = sum_of (λ b. cond (eqb b c) 1 0) bs

-- how many groups of k members n members start
abbrev pub started : ℕ → ℕ → ℕ
started k n = (n + (k - 1)) / k

-- T: 5 for each started three of code 1, 7 for each started three of code 2, 7 for each started pair of code 4, and the widths of the
-- others (codes 1, 2 and 4 have the width 0)
unfoldable pub bits_t : List ℕ → ℕ
bits_t bs = 5 * started 3 (occurs 1 bs) + 7 * started 3 (occurs 2 bs) + 7 * started 2 (occurs 4 bs) + sum_of width bs

-- 2. A row.

-- a walk that is asked for: the codes of a channel, and the bins to walk over
pub record Walk : Type 0 where
  pub bap : List ℕ
  pub start : ℕ
  pub end : ℕ

-- the codes that it meets
abbrev pub codes_of : Walk → List ℕ
codes_of w = slice w.start w.end w.bap

-- an item of a row: a walk, or a span to be closed, with its name, its role and the bit at which it was opened
pub data Item : Type 0 where
  walk : Walk → Item
  close : ℕ → Role → ℕ → Item

-- what a row leaves behind: the cursor's numbers and the log, and the groups
pub record Along : Type 0 where
  pub standing : Standing
  pub groups : Groups

abbrev pub along : Standing → Groups → Along
along st g = record { standing = st; groups = g }

-- no group is open
abbrev pub no_groups : Groups
no_groups = record { g1 = 0; g2 = 0; g4 = 0 }

-- what an item comes to: a walk moves the cursor and the groups and leaves the log; closing leaves the groups
unfoldable pub item_of : List ℕ → Item → Along → Ran Along Unit
item_of frame (walk w) a =
    let r = walk_of frame a.standing.place w.bap w.start w.end a.groups in
    record { outcome = r.outcome; state = along (standing r.state.place a.standing.log) r.state.groups }
item_of frame (close name role opened) a =
    let r = close_of (length frame) a.standing name role opened in
    record { outcome = r.outcome; state = along r.state a.groups }

-- the items in order, each from where the one before it ended; a refused row stays where it stands
unfoldable pub row_from : List ℕ → List Item → Ran Along Unit → Ran Along Unit
row_from frame [] r = r
row_from frame (k ∷ ks) r = row_from frame ks (then_run r (λ _ a. item_of frame k a))

-- a row begins with no group open
abbrev pub row_of : List ℕ → Standing → List Item → Ran Along Unit
row_of frame st ks = row_from frame ks (record { outcome = taken tt; state = along st no_groups })

-- the bit at which it ends
abbrev pub end_of : List ℕ → Standing → List Item → ℕ
end_of frame st ks = (row_of frame st ks).state.standing.place.pos

-- every item is taken
abbrev pub AllPass : List ℕ → List Item → Along → Type 0
AllPass frame [] a = Unit {0}
AllPass frame (k ∷ ks) a = ((item_of frame k a).outcome ≡ taken tt) × AllPass frame ks (item_of frame k a).state

-- the row passes
abbrev pub Passes : List ℕ → Standing → List Item → Type 0
Passes frame st ks = AllPass frame ks (along st no_groups)

-- its walks, and the codes that they meet
abbrev pub walks_of : List Item → List Walk
walks_of [] = []
walks_of (walk w ∷ ks) = w ∷ walks_of ks
walks_of (close name role opened ∷ ks) = walks_of ks

unfoldable pub met_of : List Walk → List ℕ
met_of [] = []
met_of (w ∷ ws) = codes_of w ++ met_of ws

abbrev pub codes_in : List Item → List ℕ
codes_in ks = met_of (walks_of ks)

-- how many spans it closes
abbrev pub closings : List Item → ℕ
closings [] = 0
closings (walk w ∷ ks) = closings ks
closings (close name role opened ∷ ks) = 1 + closings ks

-- 3. Which rows the theorem is about.

-- every code is one of 0 to 15
abbrev pub Codes : List ℕ → Type 0
Codes [] = Unit {0}
Codes (b ∷ bs) = (b ≤ 15) × Codes bs

-- fit ranges, codes of 0 to 15 on the way, and no span opened past the cursor: where counting puts it, from bit s on over the codes bs
abbrev pub Fit : ℕ → List ℕ → List Item → Type 0
Fit s bs [] = Unit {0}
Fit s bs (walk w ∷ ks) = (unfit_range w.start w.end ≡ false) × (Codes (codes_of w) × Fit s (bs ++ codes_of w) ks)
Fit s bs (close name role opened ∷ ks) = (opened ≤ s + bits_t bs) × Fit s bs ks

-- a sound row: a sound cursor within its limit, log room for the spans, and items that fit
pub record Sound (frame : List ℕ) (st : Standing) (ks : List Item) : Type 0 where
  pub cursor : unsound (length frame) st.place ≡ false
  pub within : st.place.pos ≤ st.place.limit
  pub log_room : st.place.count + closings ks ≤ room (length st.log)
  pub fit : Fit st.place.pos [] ks

-- 4. "Any row of mantissa walks ends exactly where counting says."
-- With S the bit at which the row begins and T over the codes that its walks meet:
pub record Conserved (frame : List ℕ) (st : Standing) (ks : List Item) : Type 0 where
  -- all walks pass exactly if S + T is within the limit
  pub passes : Passes frame st ks ↔ (st.place.pos + bits_t (codes_in ks) ≤ st.place.limit)
  -- then the row ends at S + T
  pub ends : Passes frame st ks → end_of frame st ks ≡ st.place.pos + bits_t (codes_in ks)
  -- T is the same for every order of the walks
  pub any_order : (ls : List Item) → Perm (walks_of ks) (walks_of ls) → bits_t (codes_in ls) ≡ bits_t (codes_in ks)
  -- a sound row of the same walks in another order passes and ends alike, wherever spans are closed
  pub reordered : (ls : List Item) → Perm (walks_of ks) (walks_of ls) → Sound frame st ls
      → (Passes frame st ls ↔ Passes frame st ks) × (Passes frame st ks → end_of frame st ls ≡ end_of frame st ks)
  -- the mantissas' bits never move it: over any other bytes that hold the cursor the row comes to the same, taken or refused
  pub any_bits : (frame' : List ℕ) → unsound (length frame') st.place ≡ false → row_of frame' st ks ≡ row_of frame st ks
