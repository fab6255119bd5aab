-- In which range every number lives: no sum or difference of the clauses leaves an i32.
-- Assumes nothing.
use Rattle.std.specs.Prelude.{List, ◌≤◌, ℤ}
use Rattle.alloc.specs.declared.Carried.{Carried}
use Rattle.alloc.specs.declared.Curve.{Curve}
use Rattle.alloc.specs.declared.Levels.{Levels}
use Rattle.alloc.specs.declared.Parameters.{Parameters}
use Rattle.tables.specs.declared.Delta.{Delta}
use Rattle.tables.specs.Numbers.{Within, Each, Upto}

-- a bin's power, of any byte as exponent
abbrev pub Power : ℤ → Type 0
Power z = Within 29568 3072 z

abbrev pub Powers : List ℤ → Type 0
Powers l = Each 29568 3072 l

-- a band's power, with a byte of LOG_ADD for each bin
abbrev pub BandPowers : List ℤ → Type 0
BandPowers l = Each 65536 131072 l

-- a sum of powers, and a leak
abbrev pub Sum : ℤ → Type 0
Sum z = Within 131072 131072 z

abbrev pub Sums : List ℤ → Type 0
Sums l = Each 131072 131072 l

-- an excitation, and a difference of sums
abbrev pub Excited : ℤ → Type 0
Excited z = Within 262144 262144 z

abbrev pub Excitations : List ℤ → Type 0
Excitations l = Each 262144 262144 l

-- the low-frequency compensation
abbrev pub Low : ℤ → Type 0
Low z = Within 0 384 z

-- a decay or a gain
abbrev pub Gain : ℤ → Type 0
Gain z = Within 0 2048 z

-- the knee
abbrev pub Knee : ℤ → Type 0
Knee z = Within 0 4096 z

-- the floor
abbrev pub Floor : ℤ → Type 0
Floor z = Within 2048 1024 z

-- the SNR offset
abbrev pub Snr : ℤ → Type 0
Snr z = Within 960 3132 z

-- a mask before the segments
abbrev pub Masks : List ℤ → Type 0
Masks l = Each 524288 524288 l

-- a segment's step
abbrev pub Shift : ℤ → Type 0
Shift z = Within 512 512 z

-- a mask after them
abbrev pub ShiftedMask : ℤ → Type 0
ShiftedMask z = Within 1048576 1048576 z

abbrev pub ShiftedMasks : List ℤ → Type 0
ShiftedMasks l = Each 1048576 1048576 l

-- a mask cut to its bits
abbrev pub Cut : ℤ → Type 0
Cut z = Within 2048 16384 z

-- the decays and gains
pub record Tame (c : Curve) : Type 0 where
  pub sd : Gain c.sdecay
  pub fd : Gain c.fdecay
  pub sg : Gain c.sgain
  pub fg : Gain c.fgain

-- what goes from a band to the next
pub record Kept (s : Carried) : Type 0 where
  pub fast : Sum s.fast
  pub slow : Sum s.slow
  pub low : Low s.low
  pub out : Excited s.out

-- knee, floor, SNR offset, and the row of HEARING
pub record Level (v : Levels) : Type 0 where
  pub knee : Knee v.knee
  pub floor : Floor v.floor
  pub snr : Snr v.snr
  pub fscod : v.fscod ≤ 2

-- the segments
pub record Segments (d : Delta) : Type 0 where
  pub count : d.count ≤ 8
  pub offset : Upto 32 d.offset d.count
  pub len : Upto 16 d.len d.count
  pub ba : Upto 8 d.ba d.count

-- all of a channel's parameters
pub record Decoded (p : Parameters) : Type 0 where
  pub curve : Tame p.curve
  pub levels : Level p.levels
  pub begun : Kept p.begun
  pub delta : Segments p.delta
