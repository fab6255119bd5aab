-- For each export, any two replies that its contract allows are equal: the number answered, and what the lent room holds.
-- Assumes nothing.
use mathlib.Core.Path.{◌≡◌, sym, ◌∙◌}
use Prim.Native.Nat.{ℕ}
use contract.Lifetimes.{Lfts}
use borrow.Fn.Kinds.{Dens, ended_of}
use denote.Triple.Clauses.{AtExit}
use Rattle.convention.specs.Replies.{reply, running}
use Rattle.capi_bytes.specs.Frames.{opening, checks}
use Rattle.capi_bytes_c.proofs.zela_bits_get.Kinds as get-kinds
use Rattle.capi_bytes_c.proofs.zela_bits_get.Reads as get-reads
use Rattle.capi_bytes_c.proofs.zela_bits_set.Kinds as set-kinds
use Rattle.capi_bytes_c.proofs.zela_bits_set.Reads as set_Reads
use Rattle.capi_bytes_c.proofs.zela_bits_range_eq.Kinds as range-eq-kinds
use Rattle.capi_bytes_c.proofs.zela_bits_range_eq.Reads as range-eq-reads
use Rattle.capi_bytes_c.proofs.zela_bits_range_zero.Kinds as range-zero-kinds
use Rattle.capi_bytes_c.proofs.zela_bits_range_zero.Reads as range-zero-reads
use Rattle.capi_bytes_c.proofs.zela_crc16.Kinds as crc16-kinds
use Rattle.capi_bytes_c.proofs.zela_crc16.Reads as crc16-reads
use Rattle.capi_bytes_c.proofs.zela_crc16_zeros.Kinds as zeros-kinds
use Rattle.capi_bytes_c.proofs.zela_crc16_zeros.Reads as zeros-reads
use Rattle.capi_bytes_c.proofs.zela_probe.Kinds as probe-kinds
use Rattle.capi_bytes_c.proofs.zela_probe.Reads as probe-reads
use Rattle.capi_bytes_c.proofs.zela_crc_status.Kinds as crc-status-kinds
use Rattle.capi_bytes_c.proofs.zela_crc_status.Reads as crc-status-reads
use Rattle.capi_bytes_c.proofs.zela_repair.Kinds as repair-kinds
use Rattle.capi_bytes_c.proofs.zela_repair.Reads as repair-reads

pub get_one : (κs : Lfts 3) (a : Dens κs get-kinds.ps) (x y : ℕ) (s t : AtExit (ended_of 3 get-kinds.ps get-kinds.r) κs)
    → get-reads.Post κs a x s → get-reads.Post κs a y t
    → reply x s.1.1.1.0.now s.1.1.1.1.0.now
    ≡ reply y t.1.1.1.0.now t.1.1.1.1.0.now
get_one κs a x y s t p q = p ∙ sym q

pub set_one : (κs : Lfts 2) (a : Dens κs set-kinds.ps) (x y : ℕ) (s t : AtExit (ended_of 2 set-kinds.ps set-kinds.r) κs)
    → set_Reads.Post κs a x s → set_Reads.Post κs a y t
    → running x s.1.1.1.1.0.now s.0.now
    ≡ running y t.1.1.1.1.0.now t.0.now
set_one κs a x y s t p q = p ∙ sym q

pub range_eq_one : (κs : Lfts 4) (a : Dens κs range-eq-kinds.ps) (x y : ℕ) (s t : AtExit (ended_of 4 range-eq-kinds.ps range-eq-kinds.r) κs)
    → range-eq-reads.Post κs a x s → range-eq-reads.Post κs a y t
    → reply x s.1.1.1.1.1.0.now s.1.1.1.1.1.1.0.now
    ≡ reply y t.1.1.1.1.1.0.now t.1.1.1.1.1.1.0.now
range_eq_one κs a x y s t p q = p ∙ sym q

pub range_zero_one : (κs : Lfts 3) (a : Dens κs range-zero-kinds.ps) (x y : ℕ) (s t : AtExit (ended_of 3 range-zero-kinds.ps range-zero-kinds.r) κs)
    → range-zero-reads.Post κs a x s → range-zero-reads.Post κs a y t
    → reply x s.1.1.1.0.now s.1.1.1.1.0.now
    ≡ reply y t.1.1.1.0.now t.1.1.1.1.0.now
range_zero_one κs a x y s t p q = p ∙ sym q

pub crc16_one : (κs : Lfts 2) (a : Dens κs crc16-kinds.ps) (x y : ℕ) (s t : AtExit (ended_of 2 crc16-kinds.ps crc16-kinds.r) κs)
    → crc16-reads.Post κs a x s → crc16-reads.Post κs a y t
    → (x ≡ y) × (s.1.1.0.now ≡ t.1.1.0.now)
crc16_one κs a x y s t p q = (p.0 ∙ sym q.0, p.1 ∙ sym q.1)

pub zeros_one : (κs : Lfts 1) (a : Dens κs zeros-kinds.ps) (x y : ℕ) (s t : AtExit (ended_of 1 zeros-kinds.ps zeros-kinds.r) κs)
    → zeros-reads.Post κs a x s → zeros-reads.Post κs a y t
    → (x ≡ y) × (s.1.1.0.now ≡ t.1.1.0.now)
zeros_one κs a x y s t p q = (p.0 ∙ sym q.0, p.1 ∙ sym q.1)

pub probe_one : (κs : Lfts 4) (a : Dens κs probe-kinds.ps) (x y : ℕ) (s t : AtExit (ended_of 4 probe-kinds.ps probe-kinds.r) κs)
    → probe-reads.Post κs a x s → probe-reads.Post κs a y t
    → reply x (opening s.1.0.now s.1.1.0.now) s.1.1.1.0.now
    ≡ reply y (opening t.1.0.now t.1.1.0.now) t.1.1.1.0.now
probe_one κs a x y s t p q = p ∙ sym q

pub crc_status_one : (κs : Lfts 4) (a : Dens κs crc-status-kinds.ps) (x y : ℕ) (s t : AtExit (ended_of 4 crc-status-kinds.ps crc-status-kinds.r) κs)
    → crc-status-reads.Post κs a x s → crc-status-reads.Post κs a y t
    → reply x (checks s.1.1.0.now s.1.1.1.0.now) s.1.1.1.1.0.now
    ≡ reply y (checks t.1.1.0.now t.1.1.1.0.now) t.1.1.1.1.0.now
crc_status_one κs a x y s t p q = p ∙ sym q

pub repair_one : (κs : Lfts 2) (a : Dens κs repair-kinds.ps) (x y : ℕ) (s t : AtExit (ended_of 2 repair-kinds.ps repair-kinds.r) κs)
    → repair-reads.Post κs a x s → repair-reads.Post κs a y t
    → running x s.1.1.0.now s.0.now
    ≡ running y t.1.1.0.now t.0.now
repair_one κs a x y s t p q = p ∙ sym q
