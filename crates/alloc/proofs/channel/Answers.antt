-- `alloc::channel` meets its contract: the cases of the definition, in its order.
-- Assumes nothing.
use Prim.Native.Nat.{ℕ, ◌-◌}
use mathlib.Core.Path.{◌≡◌, refl, sym, ◌∙◌, ap}
use mathlib.Core.Bool.{true}
use mathlib.Core.List.{List}
use Rattle.refusal.specs.Refusals.{taken}
use Rattle.tables.specs.Fits.{upto}
use Rattle.refusal.proofs.Laws.{ran_is}
use Rattle.alloc.specs.Answers.{filled}
use Rattle.alloc.specs.Channel.{pointers_of}
use Rattle.alloc.proofs.Cases.{channel_empty, channel-6, channel-8, channel_done}
use Rattle.refusal.specs.Refusals.{told}
use Rattle.refusal.specs.declared.Refusal.{Refusal}
use Rattle.alloc.proofs.channel.Goals as goal

pub returns-then-e-a : goal.returns-then-e-a
returns-then-e-a c =
    let a = c.args in
    ran_is refl c.requires.1
    ∙ ap (λ x. filled x)
    (channel_empty a.exp.now a.start.0 a.end.0 a.p.curve a.p.levels a.p.begun a.p.delta a.which a.hearing.now a.latab.now c.if-e-a.true)

pub returns-then-e-gt253 : goal.returns-then-e-gt253
returns-then-e-gt253 c =
    let a = c.args in
    ran_is (ap (λ (r : Refusal). told {A = Unit} r) c.at.ensures) c.requires.1
    ∙ ap (λ x. filled x)
    (channel-6 a.exp.now a.start.0 a.end.0 a.p.curve a.p.levels a.p.begun a.p.delta a.which a.hearing.now a.latab.now c.if-e-a.false c.if-e-gt253.true)

pub returns-then-not-all_upto : goal.returns-then-not-all_upto
returns-then-not-all_upto c =
    let a = c.args in
    let above = sym c.all_upto.ensures ∙ c.if-not-all_upto.true in
    ran_is (ap (λ (r : Refusal). told {A = Unit} r) c.at-then-not-all_upto.ensures) c.requires.1
    ∙ ap (λ x. filled x)
    (channel-8 a.exp.now a.start.0 a.end.0 a.p.curve a.p.levels a.p.begun a.p.delta a.which a.hearing.now a.latab.now c.if-e-a.false c.if-e-gt253.false above)

pub returns : goal.returns
returns c =
    let within : (let a = c.args in upto 24 a.exp.now a.start.0 (a.end.0 - a.start.0) ≡ true) = sym c.all_upto.ensures ∙ c.if-not-all_upto.false in
    let a = c.args in
    let by : List ℕ → List ℕ = λ t. pointers_of a.exp.now a.latab.now a.hearing.now t a.start.0 a.end.0 a.p.curve a.p.begun a.p.levels a.p.delta in
    ap (λ (l : List ℕ). filled (taken l)) (c.pointers_of.ensures ∙ ap by c.table_of-baptab.ensures)
    ∙ ap (λ x. filled x)
    (channel_done a.exp.now a.start.0 a.end.0 a.p.curve a.p.levels a.p.begun a.p.delta a.which a.hearing.now a.latab.now c.if-e-a.false c.if-e-gt253.false within)
