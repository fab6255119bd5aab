-- The numbers tell the refusals apart, so what a call comes to decides what the code answers.
-- Assumes nothing.
use mathlib.Core.Path.{◌≡◌, refl, sym, ap, ◌∙◌}
use Prim.Native.Nat.{ℕ, ◌-◌}
use mathlib.Core.List.{List, [], ◌∷◌}
use lib.ListN.{get_or}
use Rattle.refusal.specs.declared.Why.{Why}
use Rattle.refusal.specs.declared.Why.TheVariants as why
use Rattle.refusal.specs.declared.Refusal.{Refusal}
use Rattle.std.specs.Prelude.{Result, Ok, Err}
use Rattle.refusal.specs.Refusals.{Grounds, number_of, grounds_of, Outcome, taken, refused, outcome_of}
use Rattle.refusal.proofs.Decides.{Decides}
use Rattle.refusal.proofs.number.Kinds as number-kinds
use Rattle.refusal.proofs.Why.at.Kinds as at-kinds
use Rattle.refusal.proofs.Why.at.Reads as at-reads
use Rattle.refusal.proofs.number.Reads as number-reads

-- the cases in the document's order
abbrev whys : List Why
whys =
    why.PastLimit ∷ why.NoSync ∷ why.ShortHeader ∷ why.BadSize ∷
    why.BadBsid ∷ why.BadArgument ∷ why.GroupAbove ∷ why.ExponentOutside ∷
    why.SetTooShort ∷ why.NotSent ∷ why.CodePastTable ∷ why.NotCovered ∷
    why.PointerAbove ∷ why.GainAbove ∷ why.BadDelta ∷ why.NoRoomForTail ∷
    why.BadAux ∷ why.NotTiled ∷ why.LogFull ∷ why.BadLength ∷
    why.BadTables ∷ []

-- the case of a number
pub why_of : ℕ → Why
why_of k = get_or whys (k - 1) why.PastLimit

pub why_back : (w : Why) → why_of (number_of w) ≡ w
unfolding why_of
why_back why.PastLimit = refl
why_back why.NoSync = refl
why_back why.ShortHeader = refl
why_back why.BadSize = refl
why_back why.BadBsid = refl
why_back why.BadArgument = refl
why_back why.GroupAbove = refl
why_back why.ExponentOutside = refl
why_back why.SetTooShort = refl
why_back why.NotSent = refl
why_back why.CodePastTable = refl
why_back why.NotCovered = refl
why_back why.PointerAbove = refl
why_back why.GainAbove = refl
why_back why.BadDelta = refl
why_back why.NoRoomForTail = refl
why_back why.BadAux = refl
why_back why.NotTiled = refl
why_back why.LogFull = refl
why_back why.BadLength = refl
why_back why.BadTables = refl

-- the refusal on given grounds
abbrev pub refusal_of : Grounds → Refusal
refusal_of g = record { why = why_of g.number; bit = g.bit }

pub refusal_back : (r : Refusal) → refusal_of (grounds_of r) ≡ r
refusal_back r = ap (λ (w : Why). record { why = w; bit = r.bit }) (why_back r.why)

-- the answer of what a call comes to
abbrev pub answer_of : {A : Type 0} → Outcome A → Result A Refusal
answer_of (taken a) = Ok a
answer_of (refused g) = Err (refusal_of g)

pub answer_back : {A : Type 0} (r : Result A Refusal) → answer_of (outcome_of r) ≡ r
answer_back (Ok a) = refl
answer_back (Err r) = ap Err (refusal_back r)

-- two answers of one meaning are the same answer, where the meaning leads back to the answer
pub one_answer : {A B : Type 0} (of : A → B) (back : B → A) → ((x : A) → back (of x) ≡ x)
    → {b : B} (x y : A) → of x ≡ b → of y ≡ b → x ≡ y
one_answer of back leads x y p q = sym (leads x) ∙ ap back (p ∙ sym q) ∙ leads y

-- an answer is what its meaning leads back to
pub answer_one : {A : Type 0} {o : Outcome A} (x y : Result A Refusal) → outcome_of x ≡ o → outcome_of y ≡ o → x ≡ y
answer_one x y = one_answer outcome_of answer_of answer_back x y

pub number_one : Decides 0 number-kinds.ps number-kinds.r number-reads.Post
number_one κs a x y s t p q = p ∙ sym q

pub at_one : Decides 0 at-kinds.ps at-kinds.r at-reads.Post
at_one κs a x y s t p q = p ∙ sym q
