-- What `allocate_block` answers, for all inputs, by document 01's numbers and in its order (section "Allocation", "Order over a block").
-- There is no cursor here, so a refusal's bit is 0.
-- Assumes nothing.
use Rattle.std.specs.Prelude.{ℕ, suc, List, [], ◌∷◌, Bool, true, false, cond, not, ◌&&◌, ◌||◌, ltb, leb, eqb, get_or, replicate, Option, Some, None, is_some, unwrap_or}
use Rattle.std.specs.List.{list_all}
use Rattle.refusal.specs.Refusals.{Outcome, taken, refuse_if, and_then, Ran, leaves}
use Rattle.tables.specs.declared.Delta.{Delta}
use Rattle.tables.specs.Bands.{zeros}
use Rattle.tables.specs.Pointers.{pointers_by}
use Rattle.tables.specs.Slots.{slot_count, is_coupling, is_lfe}
use Rattle.tables.specs.Fits.{upto, tables_fit, delta_fits}
use Rattle.alloc.specs.declared.Codes.{Codes}
use Rattle.alloc.specs.declared.Leak.{Leak}
use Rattle.blocks.specs.declared.Bai.{Bai}
use Rattle.blocks.specs.declared.Shared.{Shared}
use Rattle.alloc.specs.Table.{table}
use Rattle.alloc.specs.Answers.{allocate_of}
use Rattle.blocks.specs.declared.AllocState.{AllocState}

-- what a block asks for a slot: whether it is there, whether its pointers are hebap, its exponents, their range, and the range asked for
pub record Slot : Type 0 where
  pub present : Bool
  pub high : Bool
  pub exp : List ℕ
  pub exp_start : ℕ
  pub exp_end : ℕ
  pub start : ℕ
  pub end : ℕ

-- a slot with its two ranges as four numbers, each from its start to its end
abbrev pub slot_by : Bool → Bool → List ℕ → List ℕ → Slot
slot_by present high exp range =
    record {
      present = present;
      high = high;
      exp = exp;
      exp_start = get_or range 0 0;
      exp_end = get_or range 1 0;
      start = get_or range 2 0;
      end = get_or range 3 0;
    }

-- slot i of what is asked for all slots
unfoldable pub slot_at : List Bool → List Bool → List (List ℕ) → List (List ℕ) → ℕ → Slot
slot_at present high exponents ranges i = slot_by (get_or present i false) (get_or high i false) (get_or exponents i []) (get_or ranges i [])

-- the seven slots in order: "one entry a slot, so no slot comes twice"
unfoldable pub asked : List Bool → List Bool → List (List ℕ) → List (List ℕ) → List Slot
asked present high exponents ranges = table slot_count (slot_at present high exponents ranges)

-- 11 for the five parameters: "decays, slow gain, knee at most 3", and the floor at most 7
abbrev pub bai_fits : Bai → Bool
bai_fits b = leb b.sdcycod 3 && (leb b.fdcycod 3 && (leb b.sgaincod 3 && (leb b.dbpbcod 3 && leb b.floorcod 7)))

-- the leaks at most 7
abbrev pub leak_fits : Leak → Bool
leak_fits l = leb l.cplfleak 7 && leb l.cplsleak 7

-- "codes not yet sent aren't tested"
abbrev pub if_sent : {A : Type 0} → Option A → (A → Bool) → Bool
if_sent None fits = true
if_sent (Some a) fits = fits a

-- the five parameters, csnroffst at most 63, and the leak
unfoldable pub sent_fit : AllocState → Bool
sent_fit st = if_sent st.bai bai_fits && (if_sent st.csnroffst (λ k. leb k 63) && if_sent st.cplleak leak_fits)

-- "all others are, present slot or not": each slot's fast gain at most 7, its fsnroffst at most 15, and fscod at most 2
unfoldable pub others_fit : AllocState → ℕ → Bool
others_fit st fscod = upto 7 st.fgaincod 0 slot_count && (upto 15 st.fsnroffst 0 slot_count && leb fscod 2)

-- "at most 8 segments, each 31, 15, 7", of every slot
unfoldable pub deltas_fit : List Delta → Bool
deltas_fit ds = list_all delta_fits ds

-- no code is past its table
unfoldable pub codes_fit : AllocState → ℕ → Bool
codes_fit st fscod = sent_fit st && (others_fit st fscod && deltas_fit st.delta)

-- "every present slot's fsnroffst": of the slots from slot i on
unfoldable pub quiet_from : List ℕ → ℕ → List Slot → Bool
quiet_from fsnroffst i [] = true
quiet_from fsnroffst i (s ∷ ss) = (not s.present || eqb (get_or fsnroffst i 0) 0) && quiet_from fsnroffst (suc i) ss

-- what the slots' codes share: fscod, and csnroffst and the parameters as sent. The zeros in place of what was not sent stand for nothing, since
-- such a block is refused before its slots are looked at.
abbrev pub shared_of : AllocState → ℕ → Shared
shared_of st fscod =
    record {
      bai = unwrap_or st.bai (record { sdcycod = 0; fdcycod = 0; sgaincod = 0; dbpbcod = 0; floorcod = 0 });
      csnroffst = unwrap_or st.csnroffst 0;
      fscod = fscod;
    }

-- "If csnroffst and every present slot's fsnroffst are 0"
unfoldable pub quiet : AllocState → List Slot → Bool
quiet st slots = eqb (unwrap_or st.csnroffst 0) 0 && quiet_from st.fsnroffst 0 slots

-- no segments
abbrev pub no_delta : Delta
no_delta = record { count = 0; offset = replicate 8 0; len = replicate 8 0; ba = replicate 8 0 }

-- what slot i hands to its channel: its codes
abbrev pub codes_by : Shared → AllocState → ℕ → Codes
codes_by shared st i =
    record {
      sdcycod = shared.bai.sdcycod;
      fdcycod = shared.bai.fdcycod;
      sgaincod = shared.bai.sgaincod;
      dbpbcod = shared.bai.dbpbcod;
      floorcod = shared.bai.floorcod;
      fgaincod = get_or st.fgaincod i 0;
      csnroffst = shared.csnroffst;
      fsnroffst = get_or st.fsnroffst i 0;
      fscod = shared.fscod;
    }

unfoldable pub codes_at : AllocState → ℕ → ℕ → Codes
codes_at st fscod i = codes_by (shared_of st fscod) st i

-- coupling's leak, and none for the others
unfoldable pub leak_at : AllocState → ℕ → Option Leak
leak_at st i = cond (is_coupling i) st.cplleak None

-- a slot's segments in the state, and those that apply: "LFE takes none"
abbrev pub segments_at : AllocState → ℕ → Delta
segments_at st i = get_or st.delta i no_delta

unfoldable pub delta_at : AllocState → ℕ → Delta
delta_at st i = cond (is_lfe i) no_delta (segments_at st i)

-- 12: "exponent range doesn't cover the asked range"
unfoldable pub uncovered : Slot → Bool
uncovered s = ltb s.start s.exp_start || ltb s.exp_end s.end

-- 10 for the leak: coupling's was not sent
unfoldable pub lacks_leak : AllocState → ℕ → Bool
lacks_leak st i = is_coupling i && not (is_some st.cplleak)

-- the state that a call left, where it was taken
abbrev pub state_of : {S : Type 0} → Ran S Unit → Outcome S
state_of r = and_then r.outcome (λ _. taken r.state)

-- slot i: zeros where it is not present; else "12; 10 for leak", and the channel alone
unfoldable pub slot_of : AllocState → ℕ → List ℕ → List ℕ → ℕ → Slot → Outcome (List ℕ)
slot_of st fscod hearing log_add i s =
    cond (not s.present) (taken zeros)
    (refuse_if (uncovered s) 12 0
    (refuse_if (lacks_leak st i) 10 0
    (state_of
    (allocate_of s.exp s.start s.end (codes_at st fscod i) (leak_at st i) (delta_at st i) (pointers_by s.high) hearing log_add))))

-- the slots from slot i on, in order: the first refusal ends them
unfoldable pub slots_from : AllocState → ℕ → List ℕ → List ℕ → ℕ → List Slot → Outcome (List (List ℕ))
slots_from st fscod hearing log_add i [] = taken []
slots_from st fscod hearing log_add i (s ∷ ss) =
    and_then (slot_of st fscod hearing log_add i s) (λ bap.
    and_then (slots_from st fscod hearing log_add (suc i) ss) (λ rest.
    taken (bap ∷ rest)))

-- all slots zero
abbrev pub silence : List (List ℕ)
silence = replicate slot_count zeros

-- the pointers that were taken, and zeros on refusal
abbrev pub filled_slots : Outcome (List (List ℕ)) → Ran (List (List ℕ)) Unit
filled_slots o = leaves silence o

-- 21; 11; 10 for csnroffst; 10 for the parameters; "all zero at once"; else the slots
unfoldable pub allocate_block_of : AllocState → ℕ → List Slot → List ℕ → List ℕ → Ran (List (List ℕ)) Unit
allocate_block_of st fscod slots hearing log_add =
    filled_slots
    (refuse_if (not (tables_fit hearing log_add)) 21 0
    (refuse_if (not (codes_fit st fscod)) 11 0
    (refuse_if (not (is_some st.csnroffst)) 10 0
    (refuse_if (not (is_some st.bai)) 10 0
    (cond (quiet st slots) (taken silence)
    (slots_from st fscod hearing log_add 0 slots))))))
