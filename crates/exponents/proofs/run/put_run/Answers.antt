-- `exponents::run::put_run` meets its contract: after i turns i bins are stored, and a store past the last changes nothing.
-- Assumes nothing.
use Prim.Native.Nat.{ℕ, ◌+◌}
use mathlib.Core.Path.{◌≡◌, sym, ap, ◌∙◌}
use mathlib.Core.List.{List}
use native.Mathlib.Omega.{arith}
use lib.ListN.{length, set, replicate}
use lib.Seq.{sets, set_out, length-sets}
use Rattle.exponents.proofs.Lists.{run_again}
use Rattle.exponents.proofs.run.put_run.Goals as goal
use Rattle.exponents.proofs.run.put_run.Goals.{then-at-i-lt256, else-at-i-lt256}

pub loop-i-preserved : goal.loop-i-preserved
loop-i-preserved c =
    let a = c.args in
    let i = c.loop-i.i in
    let more : set c.loop-i.exp (a.at + i) a.e ≡ sets a.exp.now a.at (replicate (i + 1) a.e)
    = ap (λ (x : List ℕ). set x (a.at + i) a.e) c.loop-i.invariant ∙ run_again a.exp.now a.at i a.e in
    let n : length c.loop-i.exp ≡ 256
    = ap (λ (x : List ℕ). length x) c.loop-i.invariant ∙ length-sets a.exp.now a.at (replicate i a.e) ∙ c.told-exp in
    elim c.if-at-i-lt256.branch
    [ then-at-i-lt256 w ↦ w.exp-is ∙ more | else-at-i-lt256 w ↦ w.exp-is ∙ sym (set_out c.loop-i.exp (a.at + i) a.e (omega arith)) ∙ more ]
