-- The calling convention: a codec is told by a flag, which says whether it is E-AC-3.
-- Assumes nothing.
use Rattle.std.specs.Prelude.{Bool, true, false, cond}
use Rattle.probe.specs.declared.Codec.{Codec}
use Rattle.probe.specs.declared.Codec.TheVariants as codec

-- the codec of a flag, and the flag of a codec
abbrev pub codec_from : Bool → Codec
codec_from eac3 = cond eac3 codec.Eac3 codec.Ac3

abbrev pub is_eac3 : Codec → Bool
is_eac3 codec.Ac3 = false
is_eac3 codec.Eac3 = true
