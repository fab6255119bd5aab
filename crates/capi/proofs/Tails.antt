-- What a caller is left with after a tail, from what the call below answers.
-- Assumes nothing.
use mathlib.Core.Path.{◌≡◌, ap, ap₂, ◌∙◌}
use mathlib.Core.List.{List}
use Prim.Native.Nat.{ℕ}
use lib.IntN.{ℤ}
use Rattle.refusal.specs.Refusals.{Outcome, Ran}
use Rattle.syntax.specs.declared.Place.{Place}
use Rattle.syntax.specs.Reads.{Standing, standing}
use Rattle.frame.specs.declared.Stretch.{Stretch}
use Rattle.convention.specs.Replies.{Reply, reply, reply_of}
use Rattle.capi.specs.Tails.{stretch, closed, closed_of}

-- p is what the call's contract says, o what its answer means; the block handed back is the cursor's
module _ {o : Outcome Stretch} {place : Place} {log : List ℕ} {p : Ran Standing Stretch} (e : record { outcome = o; state = standing place log } ≡ p) where
  pub closed_as : {k b : ℕ} {user : Stretch} {block : ℤ} → block ≡ place.block → reply k user b ≡ reply_of (stretch 0 0) o
      → closed k user b place.pos block place.count log ≡ closed_of p
  closed_as h t =
      ap₂ (λ (w : Reply Stretch) (z : ℤ). record { stood = record { reply = w; pos = place.pos; count = place.count; log = log }; block = z }) t h
      ∙ ap closed_of e
