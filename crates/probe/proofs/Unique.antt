-- For each public function, any two results that its contract allows are equal.
-- Assumes nothing.
use Rattle.refusal.proofs.Unique.{answer_one}
use Rattle.refusal.proofs.Decides.{Decides}
use Rattle.probe.proofs.probe.Kinds as probe-kinds
use Rattle.probe.proofs.probe.Reads as probe-reads

-- any two results that the contract allows are equal; the contract is read from the code
pub probe_one : Decides 1 probe-kinds.ps probe-kinds.r probe-reads.Post
probe_one κs a x y s t = answer_one x y
