-- What a caller learns from the tests of a length.
-- Assumes nothing.
use mathlib.Core.Path.{◌≡◌, sym, ◌∙◌}
use mathlib.Core.Bool.{Bool, false, ◌||◌}
use mathlib.Core.List.{List}
use Prim.Native.Nat.{ℕ, ◌%◌, ◌≤◌}
use lib.Dec.{ltb, eqb}
use lib.ListN.{length}
use borrow.Author.Tests.{ltb-false}
use Rattle.refusal.specs.Refusals.{taken}
use Rattle.refusal.proofs.TestLaws.{or_false}
use Rattle.probe.specs.declared.Codec.{Codec}
use Rattle.repair.specs.Repair.{least, unfit, good_of, crc_status_of}

-- the bounds of a fit length
pub fit_bounds : (k : Codec) (n : ℕ) → unfit k n ≡ false → (least k ≤ n) × (n ≤ 4096)
fit_bounds k n e =
    let p = or_false (ltb n (least k)) (ltb 4096 n || eqb (n % 2) 1) e in
    let q = or_false (ltb 4096 n) (eqb (n % 2) 1) p.1 in
    (ltb-false n (least k) p.0, ltb-false 4096 n q.0)

-- the status of a frame of a fit length
pub status_fit : (k : Codec) (s : List ℕ) (test : Bool) → test ≡ unfit k (length s) → test ≡ false → taken (good_of k s) ≡ crc_status_of k s
status_fit k s test e t = simp (sym e ∙ t)
