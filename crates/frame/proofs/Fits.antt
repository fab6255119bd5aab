-- The tests of a tail: what is known where none holds.
-- Assumes nothing.
use Prim.Native.Nat.{ℕ, ◌+◌, ◌*◌, ◌≤◌}
use mathlib.Core.Path.{◌≡◌}
use mathlib.Core.List.{List}
use mathlib.Core.Bool.{false}
use lib.ListN.{length}
use lib.Dec.{ltb}
use borrow.Author.Tests.{ltb-false}
use Rattle.refusal.specs.Refusals.{taken}
use Rattle.refusal.proofs.Laws.{past_test}
use Rattle.syntax.specs.declared.Place.{Place}
use Rattle.syntax.specs.Reads.{room, unsound}
use Rattle.refusal.proofs.TestLaws.{or_false}
use Rattle.syntax.proofs.Tests.{sound_limit}
use Rattle.frame.specs.Tail.{unfit, last_bits, has_aux, behind, fit_of}

-- a total, a place and a count that are fit
pub record Fit (len words : ℕ) (p : Place) (total : ℕ) : Type 0 where
  pub within : total ≤ p.limit
  pub short : p.limit ≤ 32768
  pub sound : p.limit ≤ 8 * len
  pub roomy : p.count ≤ room words

pub fit_says : (len words : ℕ) (p : Place) (total : ℕ) → unfit len words p total ≡ false → Fit len words p total
fit_says len words p total e =
    let a = or_false (ltb p.limit total) _ e in
    let b = or_false (unsound len p) _ a.1 in
    let s = sound_limit len p b.0 in
    let w = ltb-false p.limit total a.0 in
    record { within = w; short = s.0; sound = s.1; roomy = ltb-false (room words) p.count b.1 }

-- what is known of a tail that there is room for
pub record Roomed (frame : List ℕ) (words : ℕ) (p : Place) (total : ℕ) : Type 0 where
  pub fit : Fit (length frame) words p total
  pub last : p.pos + last_bits ≤ total
  pub all : p.pos + behind (has_aux frame total) ≤ total

pub fit_passed : (frame : List ℕ) (words : ℕ) (p : Place) (total : ℕ) → fit_of frame words p total ≡ taken tt → Roomed frame words p total
unfolding fit_of
fit_passed frame words p total e =
    let a = past_test (unfit (length frame) words p total) _ _ e in
    let b = past_test (ltb total (p.pos + last_bits)) _ _ a.1 in
    let c = past_test (ltb total (p.pos + behind (has_aux frame total))) _ _ b.1 in
    record {
      fit = fit_says (length frame) words p total a.0;
      last = ltb-false total (p.pos + last_bits) b.0;
      all = ltb-false total (p.pos + behind (has_aux frame total)) c.0;
    }
