-- Any two results that the contract of `aht` allows are equal.
-- Assumes nothing.
use mathlib.Core.Path.{sym, ◌∙◌, ap}
use Rattle.refusal.proofs.Decides.{Decides}
use Rattle.syntax.proofs.Unique.{moved_same}
use Rattle.aht.proofs.aht.Kinds as aht-kinds
use Rattle.aht.proofs.aht.Reads as aht-reads

-- any two results that the contract allows are equal; the contract is read from the code
pub aht_one : Decides 2 aht-kinds.ps aht-kinds.r aht-reads.Post
aht_one κs a x y s t p q = let e = p ∙ sym q in moved_same x y (ap (λ w. w.outcome) e) (ap (λ w. w.state) e)
