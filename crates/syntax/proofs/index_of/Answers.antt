-- `syntax::index_of` meets its contract: the low bits of the word in two's complement.
-- Assumes nothing.
use Rattle.std.proofs.Common.{◌%◌, refl, arith}
use lib.Dec.{lit<}
use mir.Syntax.{w16}
use mir.Val.{Fits}
use mir.Facts.{of_z-to_z}
use Rattle.syntax.proofs.Signed.{low_bits}
use Rattle.syntax.proofs.index_of.Goals as goal

pub returns : goal.returns
returns c =
    let fits : Fits w16 (c.args.w % 65536) = record { fits = omega arith } in
    rw (c.cast_signed.ensures, of_z-to_z fits) (low_bits w16 c.args.w refl (lit< tt))
