-- `alloc::excitation` meets its contract: each turn takes one band's step and fills its place.
-- Assumes nothing.
use Prim.Native.Nat.{ℕ, ◌+◌, ◌-◌}
use mathlib.Core.Path.{◌≡◌, sym, ◌∙◌, ap, subst}
use mathlib.Core.List.{List}
use native.Mathlib.Omega.{arith}
use lib.ListN.{get_or, set}
use lib.IntN.{ℤ, pos}
use mir.Facts.{to_z-of_z}
use Rattle.alloc.specs.declared.Carried.{Carried}
use Rattle.alloc.specs.Excite.{step, leak_at, excite_at, excite_of}
use Rattle.alloc.specs.Ranges.{Kept}
use Rattle.tables.proofs.Signed.{within_fits}
use Rattle.alloc.proofs.TableLaws.{fill_start, fill_turn}
use Rattle.alloc.proofs.RangeLaws.{leak_at_kept}
use Rattle.alloc.proofs.Turns.{leak_at_next, leak_at_first}
use Rattle.alloc.proofs.excitation.Goals as goal

pub loop-k-init : goal.loop-k-init
unfolding excite_of
loop-k-init c =
    let a = c.args in (
      c.requires.5 ∙ fill_start 50 a.first.0 (pos 0) (excite_at a.c a.first.0 a.end.0 (λ (j : ℕ). get_or a.bnd.now j (pos 0)) a.s0),
      sym (leak_at_first a.c a.first.0 a.end.0 (λ (j : ℕ). get_or a.bnd.now j (pos 0)) a.s0),
    )

pub excite_step-s-requires : goal.excite_step-s-requires
excite_step-s-requires c =
    let a = c.args in (
      omega arith,
      c.requires.2,
      c.requires.3,
      subst Kept (sym c.loop-k.invariant.1) (leak_at_kept a.c a.first.0 a.end.0 (λ (j : ℕ). get_or a.bnd.now j (pos 0)) a.s0 (c.loop-k.k - a.first.0) c.requires.3 c.requires.2.at c.requires.4),
    )

pub loop-k-preserved : goal.loop-k-preserved
unfolding excite_of excite_at
loop-k-preserved c =
    let a = c.args in
    let n : c.excite_step-s.result ≡ leak_at a.c a.first.0 a.end.0 (λ (j : ℕ). get_or a.bnd.now j (pos 0)) a.s0 (c.loop-k.k + 1 - a.first.0) =
    c.excite_step-s.ensures
    ∙ ap (step a.c a.first.0 a.end.0 (λ (j : ℕ). get_or a.bnd.now j (pos 0)) c.loop-k.k) c.loop-k.invariant.1
    ∙ sym (leak_at_next a.c a.first.0 a.end.0 (λ (j : ℕ). get_or a.bnd.now j (pos 0)) a.s0 c.loop-k.k (omega arith)) in
    let k = subst Kept (sym n) (leak_at_kept a.c a.first.0 a.end.0 (λ (j : ℕ). get_or a.bnd.now j (pos 0)) a.s0 (c.loop-k.k + 1 - a.first.0) c.requires.3 c.requires.2.at c.requires.4) in
    let f = within_fits 262144 262144 k.out tt tt in (
      rw (to_z-of_z f) (ap (λ (x : List ℤ). set x c.loop-k.k c.excite_step-s.result.out) c.loop-k.invariant.0 ∙ fill_turn 50 a.first.0 c.loop-k.k (pos 0) (excite_at a.c a.first.0 a.end.0 (λ (j : ℕ). get_or a.bnd.now j (pos 0)) a.s0) c.excite_step-s.result.out (omega arith) (ap (λ (x : Carried). x.out) n)),
      n,
    )
