-- `capi::zela_close_span` meets its contract: it hands over what the call below it answers. The cursor stays.
-- Assumes nothing.
use mathlib.Core.Path.{ap, ap₂, sym, ◌∙◌}
use Prim.Native.Nat.{ℕ}
use lib.ListN.{length}
use mir.Facts.{to_z-of_z}
use Rattle.syntax.specs.declared.Place.{Place}
use Rattle.syntax.specs.declared.Role.{Role}
use Rattle.syntax.specs.Elements.{role_of}
use Rattle.syntax.specs.Reads.{standing, close_of}
use Rattle.capi.specs.Standings.{place_of, moved}
use Rattle.capi.proofs.Laws.{moved_as, close_stays}
use Rattle.capi.proofs.zela_close_span.Goals as goal

pub returns : goal.returns
returns c =
    let a = c.args in
    let p = place_of a.pos a.limit a.block a.count.now in
    let asked = ap₂ (λ (p : Place) (r : Role). close_of (length a.frame.now) (standing p a.log.now) a.name r a.start) (rw (to_z-of_z c.ranges.block) at c.place_of-place.ensures) c.role_of.ensures in
    let stays = ap (λ w. w.state.place.pos) (c.close_span-closed.ensures ∙ asked) ∙ close_stays (length a.frame.now) (standing p a.log.now) a.name (role_of a.role) a.start in
    ap (λ (at : ℕ). moved c.done.result c.done.new.bit at c.close_span-closed.result.place.count c.close_span-closed.new.log) (sym stays)
    ∙ moved_as (c.close_span-closed.ensures ∙ asked) c.done.ensures
