-- Document 01, fixed values: K9.
-- Assumes nothing.
use mathlib.Core.Path.{◌≡◌, refl}
use lib.IntN.{pos, negsuc}
use Rattle.tables.specs.Codes.{snr_offset}

-- K9
pub k9 : (snr_offset 0 0 ≡ negsuc 959) × (snr_offset 63 15 ≡ pos 3132)
unfolding snr_offset
k9 = (refl, refl)
