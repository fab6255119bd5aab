-- What a caller is left with after a call over a cursor, from what the call below answers.
-- Assumes nothing.
use mathlib.Core.Path.{◌≡◌, refl, ap, ◌∙◌}
use mathlib.Core.List.{List}
use Prim.Native.Nat.{ℕ}
use Rattle.refusal.specs.Refusals.{Outcome, Ran}
use Rattle.syntax.specs.declared.Place.{Place}
use Rattle.syntax.specs.declared.Role.{Role}
use Rattle.syntax.specs.Reads.{Standing, standing, close_of}
use Rattle.syntax.proofs.ReadLaws.{close_either}
use Rattle.alloc.specs.declared.Codes.{Codes}
use Rattle.std.specs.Prelude.{Option}
use Rattle.alloc.specs.declared.Leak.{Leak}
use Rattle.tables.specs.declared.Delta.{Delta}
use Rattle.tables.specs.declared.Pointers.{Pointers}
use Rattle.alloc.specs.Answers.{allocate_of}
use Rattle.walks.specs.declared.Groups.{Groups}
use Rattle.walks.specs.Walk.{State, state}
use Rattle.exponents.specs.declared.ExpSet.{ExpSet}
use Rattle.exponents.specs.Reads.{Left, left}
use Rattle.convention.specs.Replies.{Told, told, told_of, Reply, reply, reply_of}
use Rattle.capi.specs.Standings.{stood, stood_of, moved, moved_of, advanced, advanced_of}
use Rattle.capi.specs.Walks.{carried, carried_of}
use Rattle.capi.specs.Sets.{unpacked, unpacked_of}
use Rattle.capi.specs.Blocks.{pointed, pointed_of}

-- a call over a state, which is s after it: p is what its contract says, o what its answer means
module _ {A : Type 0} {o : Outcome A} {place : Place} {log : List ℕ} {p : Ran Standing A} (e : record { outcome = o; state = standing place log } ≡ p) where
  pub moved_as : {k b : ℕ} → told k b ≡ told_of o → moved k b place.pos place.count log ≡ moved_of p
  moved_as t = ap (λ (w : Told). record { told = w; pos = place.pos; count = place.count; log = log }) t ∙ ap moved_of e

  pub stood_as : (other : A) {k b : ℕ} {v : A} → reply k v b ≡ reply_of other o → stood k v b place.pos place.count log ≡ stood_of other p
  stood_as other t = ap (λ (w : Reply A). record { reply = w; pos = place.pos; count = place.count; log = log }) t ∙ ap (stood_of other) e

module _ {o : Outcome ℕ} {place : Place} {p : Ran Place ℕ} (e : record { outcome = o; state = place } ≡ p) where
  pub advanced_as : {k v b : ℕ} → reply k v b ≡ reply_of 0 o → advanced k v b place.pos ≡ advanced_of p
  advanced_as t = ap (λ (w : Reply ℕ). record { reply = w; pos = place.pos }) t ∙ ap advanced_of e

module _ {o : Outcome Unit} {place : Place} {groups : Groups} {p : Ran State Unit} (e : record { outcome = o; state = state place groups } ≡ p) where
  pub carried_as : {k b : ℕ} → told k b ≡ told_of o → carried k b place.pos groups ≡ carried_of p
  carried_as t = ap (λ (w : Told). record { told = w; pos = place.pos; groups = groups }) t ∙ ap carried_of e

module _ {o : Outcome Unit} {place : Place} {log : List ℕ} {set : ExpSet} {p : Ran Left Unit} (e : record { outcome = o; state = left (standing place log) set } ≡ p) where
  pub unpacked_as : {k b : ℕ} → told k b ≡ told_of o → unpacked k b place.pos place.count log set ≡ unpacked_of p
  unpacked_as t = ap (λ (w : Told). record { moved = record { told = w; pos = place.pos; count = place.count; log = log }; set = set }) t ∙ ap unpacked_of e

-- the same of a block
module _ {o : Outcome Unit} {bap : List (List ℕ)} {p : Ran (List (List ℕ)) Unit} (e : record { outcome = o; state = bap } ≡ p) where
  pub pointed_as : {k b : ℕ} → told k b ≡ told_of o → pointed k b bap ≡ pointed_of p
  pointed_as t = ap (λ (w : Told). record { told = w; bap = bap }) t ∙ ap pointed_of e

-- closing a span leaves the cursor where it is
pub close_stays : (len : ℕ) (st : Standing) (name : ℕ) (role : Role) (start : ℕ) → (close_of len st name role start).state.place.pos ≡ st.place.pos
close_stays len st name role start = close_either len st name role start (λ s. s.place.pos ≡ st.place.pos) refl (λ f. refl)

-- an allocation by side information that is the same
pub allocated_alike : (exp : List ℕ) (start end : ℕ) (hearing log_add : List ℕ) {k k' : Codes} {l l' : Option Leak} {d d' : Delta} {w w' : Pointers}
    → k ≡ k' → l ≡ l' → d ≡ d' → w ≡ w'
    → allocate_of exp start end k l d w hearing log_add ≡ allocate_of exp start end k' l' d' w' hearing log_add
allocated_alike exp start end hearing log_add a b c e = λ i. allocate_of exp start end (a i) (b i) (c i) (e i) hearing log_add
