-- What `delta_code` and `read_delta` answer over one slot's segments, and what the same calls come to over the state that holds them, for all
-- inputs, by document 01's numbers: "Slot (6) is tested before 15", and "Allocation state changes only on success". A delta code has no cursor,
-- so its refusal's bit is 0.
-- Assumes nothing.
use Rattle.std.specs.Prelude.{ℕ, zero, suc, ◌+◌, List, Bool, cond, ◌&&◌, ◌||◌, ltb, eqb, pos, set}
use Rattle.refusal.specs.Refusals.{Outcome, taken, refuse_if, and_then, Ran, settle, leaves, then_run}
use Rattle.syntax.specs.declared.Ask.{Ask}
use Rattle.syntax.specs.declared.Role.TheVariants as role
use Rattle.syntax.specs.Names as names
use Rattle.syntax.specs.Reads.{Standing, read_of}
use Rattle.tables.specs.declared.Delta.{Delta}
use Rattle.tables.specs.Slots.{no_slot, is_coupling}
use Rattle.blocks.specs.declared.AllocState.{AllocState}
use Rattle.blocks.specs.Block.{no_delta, segments_at}

-- the state with other segments
abbrev pub with_deltas : AllocState → List Delta → AllocState
with_deltas st ds =
    record {
      bai = st.bai;
      csnroffst = st.csnroffst;
      fsnroffst = st.fsnroffst;
      fgaincod = st.fgaincod;
      cplleak = st.cplleak;
      delta = ds;
    }

-- the state with other segments for a slot
abbrev pub with_delta : AllocState → ℕ → Delta → AllocState
with_delta st slot d = with_deltas st (set st.delta slot d)

-- 15: "deltbae 0 in block 0, or deltbae above 2"
abbrev pub bad_code : ℕ → Bool → Bool
bad_code code block0 = ltb 2 code || (eqb code 0 && block0)

-- the segments of a slot after a deltbae code (TS Table 4.11): 6 for the slot, then 15; 2 is no segments, 0 and 1 leave them
unfoldable pub deltbae_of : Delta → ℕ → ℕ → Bool → Outcome Delta
deltbae_of d slot code block0 =
    refuse_if (no_slot slot) 6 0
    (refuse_if (bad_code code block0) 15 0
    (taken (cond (eqb code 2) no_delta d)))

-- a deltbae code over the state, of which the slot's segments alone may change: "changes only on success"
unfoldable pub delta_code_of : AllocState → ℕ → ℕ → Bool → Ran AllocState Unit
delta_code_of st slot code block0 = leaves st (and_then (deltbae_of (segments_at st slot) slot code block0) (λ d. taken (with_delta st slot d)))

-- an element of a slot's segments, logged with the slot for its index; coupling has names of its own
abbrev pub field_ask : ℕ → ℕ → ℕ → ℕ → Ask
field_ask name cpl_name width slot = record { name = cond (is_coupling slot) cpl_name name; role = role.Plain; index = pos slot; width = width }

-- deltnseg, deltoffst, deltlen, deltba: 3, 5, 4, 3 bits (TS 4.3.3)
abbrev pub nseg_ask : ℕ → Ask
nseg_ask slot = field_ask names.deltnseg names.cpldeltnseg 3 slot

abbrev pub offst_ask : ℕ → Ask
offst_ask slot = field_ask names.deltoffst names.cpldeltoffst 5 slot

abbrev pub len_ask : ℕ → Ask
len_ask slot = field_ask names.deltlen names.cpldeltlen 4 slot

abbrev pub ba_ask : ℕ → Ask
ba_ask slot = field_ask names.deltba names.cpldeltba 3 slot

-- one segment more
abbrev pub with_segment : Delta → ℕ → ℕ → ℕ → Delta
with_segment d o l b =
    record { count = d.count + 1; offset = set d.offset d.count o; len = set d.len d.count l; ba = set d.ba d.count b }

-- what has been read so far
abbrev pub reached : {A : Type 0} → A → Standing → Ran Standing A
reached a st = record { outcome = taken a; state = st }

-- reading one segment more
unfoldable pub segment_of : List ℕ → ℕ → Delta → Standing → Ran Standing Delta
segment_of frame slot d st =
    then_run (read_of frame st (offst_ask slot)) (λ o st₁.
    then_run (read_of frame st₁ (len_ask slot)) (λ l st₂.
    then_run (read_of frame st₂ (ba_ask slot)) (λ b st₃.
    reached (with_segment d o l b) st₃)))

-- n segments more
unfoldable pub segments_of : List ℕ → ℕ → ℕ → Ran Standing Delta → Ran Standing Delta
segments_of frame slot zero r = r
segments_of frame slot (suc n) r = then_run (segments_of frame slot n r) (λ d st. segment_of frame slot d st)

-- deltnseg, and one segment more than it says (TS 6.2.2.6)
unfoldable pub delta_of : List ℕ → ℕ → Standing → Ran Standing Delta
delta_of frame slot st = then_run (read_of frame st (nseg_ask slot)) (λ n st₁. segments_of frame slot (n + 1) (reached no_delta st₁))

-- 6 for the slot, at the cursor's bit; else its segments
unfoldable pub slot_delta_of : List ℕ → Standing → ℕ → Ran Standing Delta
slot_delta_of frame st slot =
    then_run {A = Unit} (settle st st (refuse_if (no_slot slot) 6 st.place.pos (taken tt))) (λ _ st₁. delta_of frame slot st₁)

-- what a reading leaves behind: the cursor's numbers and the log, and what is kept of it
pub record Settled (S : Type 0) : Type 0 where
  pub standing : Standing
  pub state : S

abbrev pub settled : {S : Type 0} → Standing → S → Settled S
settled st s = record { standing = st; state = s }

-- what it was taken with is kept, and s where it is refused
abbrev pub settled_of : {S : Type 0} → S → Ran Standing S → Ran (Settled S) Unit
settled_of s r = record { outcome = (leaves s r.outcome).outcome; state = settled r.state (leaves s r.outcome).state }

-- a reading of segments over the state, of which the slot's alone may change
unfoldable pub read_delta_of : List ℕ → Standing → AllocState → ℕ → Ran (Settled AllocState) Unit
read_delta_of frame st state slot = settled_of state (then_run (slot_delta_of frame st slot) (λ d st₁. reached (with_delta state slot d) st₁))

-- what is kept beside an answer, where it is taken
abbrev pub beside : {S A B : Type 0} → Ran S A → B → Ran S B
beside r b = record { outcome = and_then r.outcome (λ _. taken b); state = r.state }
