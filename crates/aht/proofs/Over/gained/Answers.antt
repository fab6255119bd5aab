-- `aht::Over::gained` meets its contract: the tag calls for a second read.
-- Assumes nothing.
use Prim.Native.Nat.{◌-◌, ◌^◌}
use mathlib.Core.Path.{refl, ◌∙◌, sym, ap}
use borrow.Author.Tests.{eq-eqb, ne_eqb}
use Rattle.std.proofs.lemmas.Result.{err_from_is_err_and}
use Rattle.aht.specs.Aht.{tag_on}
use Rattle.aht.specs.Tallies.{place_at, last_of, tally_of}
use Rattle.aht.proofs.Laws.{tag_stays, tag_one, gained_ends, gained_tag, gained_small}
use Rattle.aht.proofs.Over.gained.Goals as goal

pub returns-in_err-read : goal.returns-in_err-read
returns-in_err-read c =
    let s = c.args.self.now in
    let f = s.frame.now in
    let e = err_from_is_err_and c.from_residual.result c.from_residual.ensures.1 in
    rw (e.1, e.2) (gained_ends f (tally_of f s.place c.args.t.now) c.args.s c.args.l _ c.in_err-read.ensures.read refl)

pub returns-in_err-read-2 : goal.returns-in_err-read-2
returns-in_err-read-2 c =
    let s = c.args.self.now in
    let f = s.frame.now in
    let t = c.read.new.t in
    let e = err_from_is_err_and c.from_residual-in_err-read-2.result c.from_residual-in_err-read-2.ensures.1 in
    rw (e.1, e.2)
    (sym (tag_stays _ _ refl)
    ∙ ap tag_on c.in_err-read-2.ensures.read
    ∙ gained_tag f (tally_of f s.place c.args.t.now) c.args.s c.args.l (tally_of f s.place t) c.in_ok-read.ensures.read
    (eq-eqb (last_of f t) (2 ^ (c.args.s - 1)) (sym c.last_read.ensures ∙ c.if-last_read-top.true ∙ c.top.ensures)))

pub returns-in_ok-read-2 : goal.returns-in_ok-read-2
returns-in_ok-read-2 c =
    let s = c.args.self.now in
    let f = s.frame.now in
    let t = c.read.new.t in
    let u = c.read-then-last_read-top.new.t in
    tag_one (last_of f u) (place_at s.place u.pos) u.tags
    ∙ ap tag_on c.in_ok-read-2.ensures.read
    ∙ gained_tag f (tally_of f s.place c.args.t.now) c.args.s c.args.l (tally_of f s.place t) c.in_ok-read.ensures.read
    (eq-eqb (last_of f t) (2 ^ (c.args.s - 1)) (sym c.last_read.ensures ∙ c.if-last_read-top.true ∙ c.top.ensures))

pub returns-else-last_read-top : goal.returns-else-last_read-top
returns-else-last_read-top c =
    let s = c.args.self.now in
    let f = s.frame.now in
    let t = c.read.new.t in
    gained_small f (tally_of f s.place c.args.t.now) c.args.s c.args.l (tally_of f s.place t) c.in_ok-read.ensures.read
    (ne_eqb (last_of f t) (2 ^ (c.args.s - 1)) (λ e. c.if-last_read-top.false (c.last_read.ensures ∙ e ∙ sym c.top.ensures)))
