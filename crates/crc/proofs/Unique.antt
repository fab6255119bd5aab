-- For each public function, any two results that its contract allows are equal. The contracts are read from the code.
-- Assumes nothing.
use mathlib.Core.Path.{◌≡◌, sym, ◌∙◌}
use Prim.Native.Nat.{ℕ}
use contract.Lifetimes.{Lfts}
use borrow.Fn.Kinds.{Dens, ended_of}
use denote.Triple.Clauses.{AtExit}
use Rattle.crc.proofs.crc16.Kinds as crc16-kinds
use Rattle.crc.proofs.crc16.Reads as crc16-reads
use Rattle.crc.proofs.zeros.Kinds as zeros-kinds
use Rattle.crc.proofs.zeros.Reads as zeros-reads

pub crc16_one : (κs : Lfts 1) (a : Dens κs crc16-kinds.ps) (x y : ℕ) (s t : AtExit (ended_of 1 crc16-kinds.ps crc16-kinds.r) κs)
    → crc16-reads.Post κs a x s → crc16-reads.Post κs a y t → x ≡ y
crc16_one κs a x y s t p q = p ∙ sym q

pub zeros_one : (κs : Lfts 0) (a : Dens κs zeros-kinds.ps) (x y : ℕ) (s t : AtExit (ended_of 0 zeros-kinds.ps zeros-kinds.r) κs)
    → zeros-reads.Post κs a x s → zeros-reads.Post κs a y t → x ≡ y
zeros_one κs a x y s t p q = p ∙ sym q
