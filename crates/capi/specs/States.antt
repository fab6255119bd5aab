-- The allocation state in a caller's 200 bytes (struct zela_state of include/zelamodurk.h): eight rows of 25, first the codes, and then the
-- segments of each slot.
-- Assumes nothing.
use Rattle.std.specs.Prelude.{ℕ, ◌+◌, ◌<◌, ◌≡◌, Bool, not, List, [], ◌∷◌, ◌++◌, map, eqb, length, get_or}
use Rattle.std.specs.Bool.{then_some}
use Rattle.refusal.specs.Refusals.{Ran}
use Rattle.tables.specs.declared.Delta.{Delta}
use Rattle.alloc.specs.Table.{from, table}
use Rattle.blocks.specs.declared.AllocState.{AllocState}
use Rattle.blocks.specs.Side.{Settled}
use Rattle.convention.specs.Replies.{Told, told, told_of}
use Rattle.capi.specs.Standings.{Moved, moved, moved_of}
use Rattle.capi.specs.Channels.{delta_from}

-- row i
abbrev pub row_at : List (List ℕ) → ℕ → List ℕ
row_at rows i = get_or rows i []

-- eight rows of 25 bytes
abbrev pub Whole : List (List ℕ) → Type 0
Whole rows = (length rows ≡ 8) × ((i : ℕ) → i < 8 → length (row_at rows i) ≡ 25)

-- byte i of a row; n bytes from byte i on; and whether byte i says yes, as any but 0 does
abbrev pub byte_at : List ℕ → ℕ → ℕ
byte_at row i = get_or row i 0

abbrev pub bytes_at : List ℕ → ℕ → ℕ → List ℕ
bytes_at row i n = table n (λ k. byte_at row (i + k))

abbrev pub is_set : List ℕ → ℕ → Bool
is_set row i = not (eqb (byte_at row i) 0)

-- a slot's segments: their number, and eight offsets, lengths and bas
unfoldable pub segments_from : List ℕ → Delta
segments_from row = delta_from (byte_at row 0) (bytes_at row 1 8) (bytes_at row 9 8) (bytes_at row 17 8)

-- the state
unfoldable pub state_from : List (List ℕ) → AllocState
state_from rows =
    let codes = row_at rows 0 in
    record {
      bai =
          then_some (is_set codes 0)
          (record { sdcycod = byte_at codes 1; fdcycod = byte_at codes 2; sgaincod = byte_at codes 3; dbpbcod = byte_at codes 4; floorcod = byte_at codes 5 });
      csnroffst = then_some (is_set codes 6) (byte_at codes 7);
      fsnroffst = bytes_at codes 8 7;
      fgaincod = bytes_at codes 15 7;
      cplleak = then_some (is_set codes 22) (record { cplfleak = byte_at codes 23; cplsleak = byte_at codes 24 });
      delta = from 1 7 (λ i. segments_from (row_at rows i));
    }

-- a slot's segments as a row
unfoldable pub row_of : Delta → List ℕ
row_of d = d.count ∷ d.offset ++ d.len ++ d.ba

-- the rows after a call that leaves a state: the codes as they were, and its segments
unfoldable pub rows_after : List (List ℕ) → AllocState → List (List ℕ)
rows_after rows st = row_at rows 0 ∷ map row_of st.delta

-- what a caller is left with: what it is told, and the rows
pub record Kept : Type 0 where
  pub told : Told
  pub rows : List (List ℕ)

abbrev pub kept : ℕ → ℕ → List (List ℕ) → Kept
kept k b rows = record { told = told k b; rows = rows }

abbrev pub kept_of : List (List ℕ) → Ran AllocState Unit → Kept
kept_of rows r = record { told = told_of r.outcome; rows = rows_after rows r.state }

-- the same of a call over a cursor
pub record Gathered : Type 0 where
  pub moved : Moved
  pub rows : List (List ℕ)

abbrev pub gathered : ℕ → ℕ → ℕ → ℕ → List ℕ → List (List ℕ) → Gathered
gathered k b at count log rows = record { moved = moved k b at count log; rows = rows }

abbrev pub gathered_of : List (List ℕ) → Ran (Settled AllocState) Unit → Gathered
gathered_of rows r =
    record { moved = moved_of (record { outcome = r.outcome; state = r.state.standing }); rows = rows_after rows r.state.state }
