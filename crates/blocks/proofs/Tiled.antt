-- Reading a slot's segments keeps what every read keeps: the log tiles the bits below the place, and the count is within the room.
-- Assumes nothing.
use Prim.Native.Nat.{ℕ, zero, suc, ◌+◌}
use mathlib.Core.List.{List}
use lib.Dec.{ltb}
use Rattle.refusal.specs.Refusals.{Outcome, taken, refused, refuse_if, Ran, settle, then_run}
use Rattle.refusal.proofs.Laws.{then_keeps}
use Rattle.tables.specs.declared.Delta.{Delta}
use Rattle.syntax.specs.declared.Ask.{Ask}
use Rattle.syntax.specs.Reads.{Standing, read_of}
use Rattle.syntax.specs.Tiling.{Reached}
use Rattle.syntax.proofs.ReadLaws.{Roomy, read_room}
use Rattle.syntax.proofs.Reached.{read_reached}
use Rattle.blocks.specs.Block.{no_delta}
use Rattle.blocks.specs.Side.{nseg_ask, offst_ask, len_ask, ba_ask, with_segment, reached, segment_of, segments_of, delta_of, slot_delta_of}
use Rattle.blocks.proofs.SideLaws.{second, third}

module _ (frame : List ℕ) (slot : ℕ) (P : Standing → Type 0) (keeps : (st : Standing) (a : Ask) → P st → P (read_of frame st a).state) where
  segment_keeps : (d : Delta) (st : Standing) → P st → P (segment_of frame slot d st).state
  unfolding segment_of
  segment_keeps d st h =
      then_keeps P (read_of frame st (offst_ask slot)) (second frame slot d) (keeps st (offst_ask slot) h)
      (λ o s₁ h₁. then_keeps P (read_of frame s₁ (len_ask slot)) (third frame slot d o) (keeps s₁ (len_ask slot) h₁)
      (λ l s₂ h₂. then_keeps P (read_of frame s₂ (ba_ask slot)) (λ b st₁. reached (with_segment d o l b) st₁) (keeps s₂ (ba_ask slot) h₂) (λ b s₃ h₃. h₃)))

  segments_keeps : (n : ℕ) (r : Ran Standing Delta) → P r.state → P (segments_of frame slot n r).state
  unfolding segments_of
  segments_keeps zero r h = h
  segments_keeps (suc n) r h =
      then_keeps P (segments_of frame slot n r) (λ d st. segment_of frame slot d st) (segments_keeps n r h) segment_keeps

  delta_keeps : (st : Standing) → P st → P (delta_of frame slot st).state
  unfolding delta_of
  delta_keeps st h =
      then_keeps P (read_of frame st (nseg_ask slot)) (λ n st₁. segments_of frame slot (n + 1) (reached no_delta st₁)) (keeps st (nseg_ask slot) h)
      (λ n st₁ k. segments_keeps (n + 1) (reached no_delta st₁) k)

  read_delta_keeps : (st : Standing) → P st → P (slot_delta_of frame st slot).state
  unfolding slot_delta_of
  read_delta_keeps st h = go (refuse_if (ltb 6 slot) 6 st.place.pos (taken tt))
    where
      go : (o : Outcome Unit) → P (then_run (settle st st o) (λ _ st₁. delta_of frame slot st₁)).state
      go (taken u) = delta_keeps st h
      go (refused g) = h

-- the log tiles the bits below the place
pub read_delta_reached : (frame : List ℕ) (st : Standing) (slot : ℕ) → Reached st → Reached (slot_delta_of frame st slot).state
read_delta_reached frame st slot h = read_delta_keeps frame slot Reached (λ s a k. read_reached frame s a k) st h

-- the count is within the room
pub read_delta_room : (frame : List ℕ) (st : Standing) (slot : ℕ) → Roomy st → Roomy (slot_delta_of frame st slot).state
read_delta_room frame st slot h = read_delta_keeps frame slot Roomy (λ s a k. read_room frame s a k) st h
