-- `capi::state::lacks_row` meets its contract: the test, and what an array by value tells of itself.
-- Assumes nothing.
use mathlib.Core.Path.{◌≡◌, refl}
use native.Mathlib.Omega.{arith}
use lib.ListN.{length}
use Rattle.capi.proofs.Rows.{each_long}
use Rattle.capi.proofs.state.lacks_row.Goals as goal

pub returns : goal.returns
returns c =
    let g = c.well_formed.0.1 in
    let eight : length c.args.rows ≡ 8 = g.0.1 in
    (refl, (eight, λ i h. each_long 25 c.args.rows _ g.1 i (omega (arith, h, eight))))
