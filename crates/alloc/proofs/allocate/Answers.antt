-- `alloc::allocate` meets its contract: the cases of the definition, in its order.
-- Assumes nothing.
use mathlib.Core.Path.{◌≡◌, refl, sym, ◌∙◌, ap}
use mathlib.Core.Bool.{true, false}
use mathlib.Core.List.{List}
use Prim.Native.Nat.{ℕ}
use Rattle.std.specs.Prelude.{Err, Some, None, Option, Result}
use Rattle.std.proofs.Common.{rules}
use Rattle.refusal.specs.declared.Refusal.{Refusal}
use Rattle.refusal.specs.Refusals.{told, outcome_of}
use Rattle.refusal.proofs.Laws.{ran_is}
use Rattle.tables.specs.Codes.{coded_of}
use Rattle.tables.specs.Fits.{tables_fit}
use Rattle.alloc.specs.declared.Parameters.{Parameters}
use Rattle.alloc.specs.Answers.{channel_of, filled}
use Rattle.alloc.proofs.ParamLaws.{decoded_fit}
use Rattle.alloc.proofs.Cases.{unfit, code_past, all_decoded}
use Rattle.alloc.proofs.allocate.Goals as goal

pub returns-in_err-hearing : goal.returns-in_err-hearing
returns-in_err-hearing c =
    let a = c.args in
    let x : c.from_residual.result ≡ Err c.at.result = search rules in
    let f : tables_fit a.hearing.now a.latab.now ≡ false = search rules in
    ran_is (ap (λ (r : Result Unit Refusal). outcome_of r) x ∙ ap (λ (r : Refusal). told {A = Unit} r) c.at.ensures) refl
    ∙ unfit a.exp.now a.start.0 a.end.0 a.codes a.leak a.delta a.which a.hearing.now a.latab.now f

pub returns-in_err-p : goal.returns-in_err-p
returns-in_err-p c =
    let a = c.args in
    let d : c.decoded.result ≡ None = search rules in
    let x : c.from_residual-in_err-p.result ≡ Err c.at-2.result = search rules in
    let f : tables_fit a.hearing.now a.latab.now ≡ true = search rules in
    ran_is (ap (λ (r : Result Unit Refusal). outcome_of r) x ∙ ap (λ (r : Refusal). told {A = Unit} r) c.at-2.ensures) refl
    ∙ code_past a.exp.now a.start.0 a.end.0 a.codes a.leak a.delta a.which a.hearing.now a.latab.now f (sym (ap (λ (o : Option Parameters). coded_of o) d) ∙ c.decoded.ensures)

pub channel-requires : goal.channel-requires
channel-requires c =
    let d : c.decoded.result ≡ Some c.in_ok-p.p = search rules in
    (decoded_fit c.args.codes c.args.leak c.args.delta c.in_ok-p.p (sym c.decoded.ensures ∙ ap (λ (o : Option Parameters). coded_of o) d), refl)

pub returns : goal.returns
returns c =
    let a = c.args in
    let p = c.in_ok-p.p in
    let d : c.decoded.result ≡ Some p = search rules in
    let f : tables_fit a.hearing.now a.latab.now ≡ true = search rules in
    let h : c.in_ok-hearing.hearing.now ≡ a.hearing.now = search rules in
    let l : c.in_ok-hearing.latab.now ≡ a.latab.now = search rules in
    c.channel.ensures
    ∙ ap (λ (t : List ℕ). filled (channel_of a.exp.now a.start.0 a.end.0 p.curve p.levels p.begun p.delta a.which t c.in_ok-hearing.latab.now)) h
    ∙ ap (λ (t : List ℕ). filled (channel_of a.exp.now a.start.0 a.end.0 p.curve p.levels p.begun p.delta a.which a.hearing.now t)) l
    ∙ all_decoded a.exp.now a.start.0 a.end.0 a.codes a.leak a.delta a.which a.hearing.now a.latab.now f p (sym (ap (λ (o : Option Parameters). coded_of o) d) ∙ c.decoded.ensures)
