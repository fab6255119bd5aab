-- `aht::Over::bins` meets its contract: what the rest of the bins makes of the walk so far stays the same from turn to turn.
-- Assumes nothing.
use Prim.Native.Nat.{ℕ, ◌+◌, ◌*◌}
use mathlib.Core.Path.{◌≡◌, refl, sym, ◌∙◌, ap}
use mathlib.Core.Bool.{cond}
use native.Mathlib.Omega.{arith}
use lib.ListN.{length, get_or, drop}
use Rattle.std.proofs.lemmas.Result.{err_from_is_err_and}
use Rattle.aht.specs.Aht.{is_active, count_active, walk_on}
use Rattle.aht.specs.Tallies.{tally_of}
use Rattle.aht.proofs.Laws.{walk_stays, bin_alike, one_more, count_turn, walk_turn, walk_none, inside_less}
use Rattle.aht.proofs.Over.bins.Goals as goal

pub one_bin-requires : goal.one_bin-requires
one_bin-requires c =
    let a = c.args in
    let l = c.loop-h in
    let f = a.self.now.frame.now in
    let hs = a.hebap.now in
    let h : ℕ = cond (is_active a.mode (get_or hs l.h-index 0)) 1 0 in
    let t = count_turn hs l.h-index (omega arith) a.mode in
    rw (l.invariant.0, l.invariant.1) (
      omega arith,
      inside_less a.mode a.base (l.gains.met + h) (l.gains.met + count_active a.mode (drop l.h-index hs)) (8 * length f) (omega (arith, t)) l.invariant.3,
    )

pub returns-in_err-one_bin : goal.returns-in_err-one_bin
returns-in_err-one_bin c =
    let a = c.args in
    let s = a.self.now in
    let l = c.loop-h in
    let f = s.frame.now in
    let hs = a.hebap.now in
    let i = l.h-index in
    let h = get_or hs i 0 in
    let r = tally_of f s.place l.t in
    let rest = walk_on f a.mode a.base (l.gains.met + cond (is_active a.mode h) 1 0) (drop (i + 1) hs) in
    let e = err_from_is_err_and c.from_residual.result c.from_residual.ensures.1 in
    rw (e.1, e.2)
    (sym (walk_stays f a.mode a.base (l.gains.met + cond (is_active a.mode h) 1 0) (drop (i + 1) hs) _ _ refl)
    ∙ ap rest (c.in_err-one_bin.ensures.bin ∙ bin_alike f h l.gains.met r l.invariant.0 l.invariant.1)
    ∙ sym (walk_turn hs i (omega arith) f a.mode a.base l.gains.met r)
    ∙ l.invariant.4)

pub loop-h-preserved : goal.loop-h-preserved
loop-h-preserved c =
    let a = c.args in
    let s = a.self.now in
    let l = c.loop-h in
    let f = s.frame.now in
    let hs = a.hebap.now in
    let i = l.h-index in
    let h = get_or hs i 0 in
    let r = tally_of f s.place l.t in
    let n : ℕ = cond (is_active a.mode h) 1 0 in
    let on = c.in_ok-one_bin.ensures.on in
    let t = count_turn hs i (omega arith) a.mode in
    let met : c.one_bin.new.gains.met ≡ l.gains.met + n = on.2 ∙ ap (λ m. l.gains.met + cond (is_active m h) 1 0) l.invariant.0 in (
      on.0 ∙ l.invariant.0,
      on.1 ∙ l.invariant.1,
      omega (arith, met, one_more (is_active a.mode h)),
      inside_less a.mode a.base (c.one_bin.new.gains.met + count_active a.mode (drop (i + 1) hs))
          (l.gains.met + count_active a.mode (drop i hs)) (8 * length f) (omega (arith, met, t)) l.invariant.3,
      ap (λ k. walk_on f a.mode a.base k (drop (i + 1) hs) (tally_of f s.place c.one_bin.new.t)) met
          ∙ ap (walk_on f a.mode a.base (l.gains.met + n) (drop (i + 1) hs))
          (c.in_ok-one_bin.ensures.bin ∙ bin_alike f h l.gains.met r l.invariant.0 l.invariant.1)
          ∙ sym (walk_turn hs i (omega arith) f a.mode a.base l.gains.met r)
          ∙ l.invariant.4,
    )

pub returns : goal.returns
returns c =
    let a = c.args in
    let s = a.self.now in
    let l = c.loop-h in
    sym (walk_none a.hebap.now l.h-index s.frame.now a.mode a.base l.gains.met (tally_of s.frame.now s.place l.t) (omega arith)) ∙ l.invariant.4
