-- Tiling of a whole frame (demand 3): what an accepted tail says of its log, that 18 never comes where the log tiles the audio, and which
-- tails are accepted.
-- Assumes nothing.
use Rattle.std.specs.Prelude.{ℕ, ◌+◌, ◌-◌, ◌≤◌, ◌<◌, List, true, cond, ◌≢◌, ◌≡◌, length}
use Rattle.refusal.specs.Refusals.{Grounds, taken, refused}
use Rattle.bits.specs.Bits.{bits_at}
use Rattle.syntax.specs.Reads.{Standing, room}
use Rattle.syntax.specs.Tiling.{widths, Reached, InOne}
use Rattle.probe.specs.declared.Codec.{Codec}
use Rattle.frame.specs.declared.Stretch.{Stretch}
use Rattle.frame.specs.Tail.{auxdatal_bits, has_aux, behind, fit_of, auxbits, user_bits, tail_of}

-- the first n elements of a log tile total bits: their widths sum to it, and each bit below it lies in exactly one of them
pub record TilesAll (log : List ℕ) (n total : ℕ) : Type 0 where
  pub sum : widths log n ≡ total
  pub each : (b : ℕ) → b < total → InOne log n b

-- a tail that is accepted leaves a log that tiles the total it was given
pub record Tiled : Type 0 where
  pub tiled : (frame : List ℕ) (st : Standing) (total : ℕ) (codec : Codec) (user : Stretch)
      → (tail_of frame st total codec).outcome ≡ taken user
      → TilesAll (tail_of frame st total codec).state.log (tail_of frame st total codec).state.place.count total

-- where the log tiles the bits before the tail, no tail is refused with 18
pub record NeverUntiled : Type 0 where
  pub never-18 : (frame : List ℕ) (st : Standing) (total : ℕ) (codec : Codec) (g : Grounds) → Reached st
      → (tail_of frame st total codec).outcome ≡ refused g → g.number ≢ 18

-- auxdatal: 0 where auxdatae is 0
abbrev pub auxdatal : List ℕ → ℕ → ℕ
auxdatal frame total = cond (has_aux frame total) (bits_at frame (total - behind true) auxdatal_bits) 0

-- where the log tiles the bits before the tail, there is room for it in the frame and in the log, and auxdatal is within auxbits, the tail
-- is accepted
pub record Accepted : Type 0 where
  pub accepted : (frame : List ℕ) (st : Standing) (total : ℕ) (codec : Codec) → Reached st
      → fit_of frame (length st.log) st.place total ≡ taken tt
      → st.place.count + 5 ≤ room (length st.log)
      → auxdatal frame total ≤ (auxbits st.place.pos total (has_aux frame total)).width
      → (tail_of frame st total codec).outcome ≡ taken (user_bits (auxbits st.place.pos total (has_aux frame total)) (auxdatal frame total))
