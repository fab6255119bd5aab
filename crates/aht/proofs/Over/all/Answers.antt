-- `aht::Over::all` meets its contract: where gaqmod is read, it is below 4.
-- Assumes nothing.
use Prim.Native.Nat.{◌-◌}
use mathlib.Core.Path.{refl, sym, ◌∙◌, ap}
use native.Mathlib.Omega.{arith}
use Rattle.std.proofs.lemmas.Result.{err_from_is_err_and}
use Rattle.aht.specs.Aht.{mode_on, bins_on, tallied}
use Rattle.aht.specs.Tallies.{place_at, last_of, tally_of}
use Rattle.aht.proofs.Laws.{mode_stays, mode_here, mode_below}
use Rattle.aht.proofs.Over.all.Goals as goal

pub returns-in_err-read : goal.returns-in_err-read
returns-in_err-read c =
    let a = c.args in
    let f = a.self.now.frame.now in
    let e = err_from_is_err_and c.from_residual.result c.from_residual.ensures.1 in
    rw (e.1, e.2) (sym (mode_stays f a.hebap.now _ _ refl) ∙ ap (mode_on f a.hebap.now) c.in_err-read.ensures.read)

pub overflow_cast-mode : goal.overflow_cast-mode
overflow_cast-mode c =
    let t = c.read.new.t in
    let h = mode_below c.args.self.now.frame.now (t.pos - t.last) t.last c.in_ok-read.ensures.moved.1 in omega (arith, c.last_read-mode.ensures, h)

pub after_mode-requires : goal.after_mode-requires
after_mode-requires c =
    let t = c.read.new.t in
    let h = mode_below c.args.self.now.frame.now (t.pos - t.last) t.last c.in_ok-read.ensures.moved.1 in
    (omega (arith, c.last_read-mode.ensures, h), c.requires, c.in_ok-read.ensures.moved.3)

pub returns : goal.returns
returns c =
    let a = c.args in
    let s = a.self.now in
    let f = s.frame.now in
    let t = c.read.new.t in
    c.after_mode.ensures
    ∙ ap (λ m. bins_on f m a.hebap.now (tally_of f s.place t)) c.last_read-mode.ensures
    ∙ mode_here f a.hebap.now (last_of f t) (tallied (place_at s.place t.pos) t.tags)
    ∙ ap (mode_on f a.hebap.now) c.in_ok-read.ensures.read
