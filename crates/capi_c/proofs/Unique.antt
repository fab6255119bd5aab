-- For each export, any two replies that its contract allows are equal: the number answered, and what the lent room holds.
-- Assumes nothing.
use mathlib.Core.Path.{◌≡◌, sym, ◌∙◌}
use Prim.Native.Nat.{ℕ}
use contract.Lifetimes.{Lfts}
use borrow.Fn.Kinds.{Dens, ended_of}
use denote.Triple.Clauses.{AtExit}
use Rattle.convention.specs.Replies.{told, reply, running}
use Rattle.capi.specs.Standings.{stood, moved, advanced, fields}
use Rattle.capi.specs.Walks.{groups_of, carried}
use Rattle.capi.specs.Sets.{set_of, unpacked}
use Rattle.capi.specs.States.{kept, gathered}
use Rattle.capi.specs.Blocks.{pointed}
use Rattle.capi.specs.Tails.{stretch, closed}
use Rattle.capi_c.proofs.zela_role_is_drc.Kinds as is-drc-kinds
use Rattle.capi_c.proofs.zela_role_is_drc.Reads as is-drc-reads
use Rattle.capi_c.proofs.zela_role_is_checksum.Kinds as is-checksum-kinds
use Rattle.capi_c.proofs.zela_role_is_checksum.Reads as is-checksum-reads
use Rattle.capi_c.proofs.zela_role_is_span.Kinds as is-span-kinds
use Rattle.capi_c.proofs.zela_role_is_span.Reads as is-span-reads
use Rattle.capi_c.proofs.zela_read_element.Kinds as read-element-kinds
use Rattle.capi_c.proofs.zela_read_element.Reads as read-element-reads
use Rattle.capi_c.proofs.zela_read_raw.Kinds as read-raw-kinds
use Rattle.capi_c.proofs.zela_read_raw.Reads as read-raw-reads
use Rattle.capi_c.proofs.zela_span.Kinds as span-kinds
use Rattle.capi_c.proofs.zela_span.Reads as span-reads
use Rattle.capi_c.proofs.zela_close_span.Kinds as close-span-kinds
use Rattle.capi_c.proofs.zela_close_span.Reads as close-span-reads
use Rattle.capi_c.proofs.zela_check_tiling.Kinds as check-tiling-kinds
use Rattle.capi_c.proofs.zela_check_tiling.Reads as check-tiling-reads
use Rattle.capi_c.proofs.zela_element_at.Kinds as element-at-kinds
use Rattle.capi_c.proofs.zela_element_at.Reads as element-at-reads
use Rattle.capi_c.proofs.zela_allocate.Kinds as allocate-kinds
use Rattle.capi_c.proofs.zela_allocate.Reads as allocate-reads
use Rattle.capi_c.proofs.mantissas.zela_conventional.Kinds as conventional-kinds
use Rattle.capi_c.proofs.mantissas.zela_conventional.Reads as conventional-reads
use Rattle.capi_c.proofs.mantissas.zela_aht.Kinds as aht-kinds
use Rattle.capi_c.proofs.mantissas.zela_aht.Reads as aht-reads
use Rattle.capi_c.proofs.sets.zela_read_exponents.Kinds as read-exponents-kinds
use Rattle.capi_c.proofs.sets.zela_read_exponents.Reads as read-exponents-reads
use Rattle.capi_c.proofs.state.zela_delta_code.Kinds as delta-code-kinds
use Rattle.capi_c.proofs.state.zela_delta_code.Reads as delta-code-reads
use Rattle.capi_c.proofs.state.zela_read_delta.Kinds as read-delta-kinds
use Rattle.capi_c.proofs.state.zela_read_delta.Reads as read-delta-reads
use Rattle.capi_c.proofs.block.zela_allocate_block.Kinds as allocate-block-kinds
use Rattle.capi_c.proofs.block.zela_allocate_block.Reads as allocate-block-reads
use Rattle.capi_c.proofs.tail.zela_read_tail.Kinds as read-tail-kinds
use Rattle.capi_c.proofs.tail.zela_read_tail.Reads as read-tail-reads

pub is_drc_one : (κs : Lfts 1) (a : Dens κs is-drc-kinds.ps) (x y : ℕ) (s t : AtExit (ended_of 1 is-drc-kinds.ps is-drc-kinds.r) κs)
    → is-drc-reads.Post κs a x s → is-drc-reads.Post κs a y t
    → (x ≡ y) × (s.1.0.now ≡ t.1.0.now)
is_drc_one κs a x y s t p q = (p.0 ∙ sym q.0, p.1 ∙ sym q.1)

pub is_checksum_one : (κs : Lfts 1) (a : Dens κs is-checksum-kinds.ps) (x y : ℕ) (s t : AtExit (ended_of 1 is-checksum-kinds.ps is-checksum-kinds.r) κs)
    → is-checksum-reads.Post κs a x s → is-checksum-reads.Post κs a y t
    → (x ≡ y) × (s.1.0.now ≡ t.1.0.now)
is_checksum_one κs a x y s t p q = (p.0 ∙ sym q.0, p.1 ∙ sym q.1)

pub is_span_one : (κs : Lfts 1) (a : Dens κs is-span-kinds.ps) (x y : ℕ) (s t : AtExit (ended_of 1 is-span-kinds.ps is-span-kinds.r) κs)
    → is-span-reads.Post κs a x s → is-span-reads.Post κs a y t
    → (x ≡ y) × (s.1.0.now ≡ t.1.0.now)
is_span_one κs a x y s t p q = (p.0 ∙ sym q.0, p.1 ∙ sym q.1)

pub read_element_one : (κs : Lfts 6) (a : Dens κs read-element-kinds.ps) (x y : ℕ) (s t : AtExit (ended_of 6 read-element-kinds.ps read-element-kinds.r) κs)
    → read-element-reads.Post κs a x s → read-element-reads.Post κs a y t
    → stood x s.1.1.1.1.1.1.1.1.1.1.0.now s.1.1.1.1.1.1.1.1.1.1.1.0.now s.1.1.0.now s.1.1.1.1.1.0.now s.1.0.now
    ≡ stood y t.1.1.1.1.1.1.1.1.1.1.0.now t.1.1.1.1.1.1.1.1.1.1.1.0.now t.1.1.0.now t.1.1.1.1.1.0.now t.1.0.now
read_element_one κs a x y s t p q = p ∙ sym q

pub read_raw_one : (κs : Lfts 4) (a : Dens κs read-raw-kinds.ps) (x y : ℕ) (s t : AtExit (ended_of 4 read-raw-kinds.ps read-raw-kinds.r) κs)
    → read-raw-reads.Post κs a x s → read-raw-reads.Post κs a y t
    → advanced x s.1.1.1.1.0.now s.1.1.1.1.1.0.now s.1.0.now
    ≡ advanced y t.1.1.1.1.0.now t.1.1.1.1.1.0.now t.1.0.now
read_raw_one κs a x y s t p q = p ∙ sym q

pub span_one : (κs : Lfts 5) (a : Dens κs span-kinds.ps) (x y : ℕ) (s t : AtExit (ended_of 5 span-kinds.ps span-kinds.r) κs)
    → span-reads.Post κs a x s → span-reads.Post κs a y t
    → moved x s.1.1.1.1.1.1.1.1.1.0.now s.1.1.0.now s.1.1.1.1.1.0.now s.1.0.now
    ≡ moved y t.1.1.1.1.1.1.1.1.1.0.now t.1.1.0.now t.1.1.1.1.1.0.now t.1.0.now
span_one κs a x y s t p q = p ∙ sym q

pub close_span_one : (κs : Lfts 4) (a : Dens κs close-span-kinds.ps) (x y : ℕ) (s t : AtExit (ended_of 4 close-span-kinds.ps close-span-kinds.r) κs)
    → close-span-reads.Post κs a x s → close-span-reads.Post κs a y t
    → moved x s.1.1.1.1.1.1.1.1.1.0.now a.1.1.0 s.1.1.1.1.1.0.now s.1.0.now
    ≡ moved y t.1.1.1.1.1.1.1.1.1.0.now a.1.1.0 t.1.1.1.1.1.0.now t.1.0.now
close_span_one κs a x y s t p q = p ∙ sym q

pub check_tiling_one : (κs : Lfts 2) (a : Dens κs check-tiling-kinds.ps) (x y : ℕ) (s t : AtExit (ended_of 2 check-tiling-kinds.ps check-tiling-kinds.r) κs)
    → check-tiling-reads.Post κs a x s → check-tiling-reads.Post κs a y t
    → told x s.1.1.1.0.now
    ≡ told y t.1.1.1.0.now
check_tiling_one κs a x y s t p q = p ∙ sym q

pub element_at_one : (κs : Lfts 9) (a : Dens κs element-at-kinds.ps) (x y : ℕ) (s t : AtExit (ended_of 9 element-at-kinds.ps element-at-kinds.r) κs)
    → element-at-reads.Post κs a x s → element-at-reads.Post κs a y t
    → reply x (fields s.1.1.1.0.now s.1.1.1.1.0.now s.1.1.1.1.1.0.now s.1.1.1.1.1.1.0.now s.1.1.1.1.1.1.1.0.now s.1.1.1.1.1.1.1.1.0.now s.1.1.1.1.1.1.1.1.1.0.now) s.1.1.1.1.1.1.1.1.1.1.0.now
    ≡ reply y (fields t.1.1.1.0.now t.1.1.1.1.0.now t.1.1.1.1.1.0.now t.1.1.1.1.1.1.0.now t.1.1.1.1.1.1.1.0.now t.1.1.1.1.1.1.1.1.0.now t.1.1.1.1.1.1.1.1.1.0.now) t.1.1.1.1.1.1.1.1.1.1.0.now
element_at_one κs a x y s t p q = p ∙ sym q

pub allocate_one : (κs : Lfts 9) (a : Dens κs allocate-kinds.ps) (x y : ℕ) (s t : AtExit (ended_of 9 allocate-kinds.ps allocate-kinds.r) κs)
    → allocate-reads.Post κs a x s → allocate-reads.Post κs a y t
    → running x s.1.1.1.1.1.1.1.1.1.1.1.1.1.1.1.0.now s.1.1.1.1.1.1.1.1.1.1.1.1.1.1.0.now
    ≡ running y t.1.1.1.1.1.1.1.1.1.1.1.1.1.1.1.0.now t.1.1.1.1.1.1.1.1.1.1.1.1.1.1.0.now
allocate_one κs a x y s t p q = p ∙ sym q

pub conventional_one : (κs : Lfts 7) (a : Dens κs conventional-kinds.ps) (x y : ℕ) (s t : AtExit (ended_of 7 conventional-kinds.ps conventional-kinds.r) κs)
    → conventional-reads.Post κs a x s → conventional-reads.Post κs a y t
    → carried x s.1.1.1.1.1.1.1.1.1.0.now s.1.0.now (groups_of s.1.1.1.1.1.1.0.now s.1.1.1.1.1.1.1.0.now s.1.1.1.1.1.1.1.1.0.now)
    ≡ carried y t.1.1.1.1.1.1.1.1.1.0.now t.1.0.now (groups_of t.1.1.1.1.1.1.0.now t.1.1.1.1.1.1.1.0.now t.1.1.1.1.1.1.1.1.0.now)
conventional_one κs a x y s t p q = p ∙ sym q

pub aht_one : (κs : Lfts 5) (a : Dens κs aht-kinds.ps) (x y : ℕ) (s t : AtExit (ended_of 5 aht-kinds.ps aht-kinds.r) κs)
    → aht-reads.Post κs a x s → aht-reads.Post κs a y t
    → advanced x s.1.1.1.1.1.1.0.now s.1.1.1.1.1.1.1.0.now s.1.0.now
    ≡ advanced y t.1.1.1.1.1.1.0.now t.1.1.1.1.1.1.1.0.now t.1.0.now
aht_one κs a x y s t p q = p ∙ sym q

pub read_exponents_one : (κs : Lfts 8) (a : Dens κs read-exponents-kinds.ps) (x y : ℕ) (s t : AtExit (ended_of 8 read-exponents-kinds.ps read-exponents-kinds.r) κs)
    → read-exponents-reads.Post κs a x s → read-exponents-reads.Post κs a y t
    → unpacked x s.1.1.1.1.1.1.1.1.1.1.1.1.1.0.now s.1.1.0.now s.1.1.1.1.1.0.now s.1.0.now (set_of s.1.1.1.1.1.1.1.1.1.1.0.now s.1.1.1.1.1.1.1.1.1.1.1.0.now s.1.1.1.1.1.1.1.1.1.1.1.1.0.now)
    ≡ unpacked y t.1.1.1.1.1.1.1.1.1.1.1.1.1.0.now t.1.1.0.now t.1.1.1.1.1.0.now t.1.0.now (set_of t.1.1.1.1.1.1.1.1.1.1.0.now t.1.1.1.1.1.1.1.1.1.1.1.0.now t.1.1.1.1.1.1.1.1.1.1.1.1.0.now)
read_exponents_one κs a x y s t p q = p ∙ sym q

pub delta_code_one : (κs : Lfts 2) (a : Dens κs delta-code-kinds.ps) (x y : ℕ) (s t : AtExit (ended_of 2 delta-code-kinds.ps delta-code-kinds.r) κs)
    → delta-code-reads.Post κs a x s → delta-code-reads.Post κs a y t
    → kept x s.1.1.1.1.0.now s.0.now
    ≡ kept y t.1.1.1.1.0.now t.0.now
delta_code_one κs a x y s t p q = p ∙ sym q

pub read_delta_one : (κs : Lfts 6) (a : Dens κs read-delta-kinds.ps) (x y : ℕ) (s t : AtExit (ended_of 6 read-delta-kinds.ps read-delta-kinds.r) κs)
    → read-delta-reads.Post κs a x s → read-delta-reads.Post κs a y t
    → gathered x s.1.1.1.1.1.1.1.1.0.now s.1.1.0.now s.1.1.1.1.1.0.now s.1.0.now s.1.1.1.1.1.1.0.now
    ≡ gathered y t.1.1.1.1.1.1.1.1.0.now t.1.1.0.now t.1.1.1.1.1.0.now t.1.0.now t.1.1.1.1.1.1.0.now
read_delta_one κs a x y s t p q = p ∙ sym q

pub allocate_block_one : (κs : Lfts 9) (a : Dens κs allocate-block-kinds.ps) (x y : ℕ) (s t : AtExit (ended_of 9 allocate-block-kinds.ps allocate-block-kinds.r) κs)
    → allocate-block-reads.Post κs a x s → allocate-block-reads.Post κs a y t
    → pointed x s.1.1.1.1.1.1.1.1.1.0.now s.1.1.1.1.1.1.1.1.0.now
    ≡ pointed y t.1.1.1.1.1.1.1.1.1.0.now t.1.1.1.1.1.1.1.1.0.now
allocate_block_one κs a x y s t p q = p ∙ sym q

pub read_tail_one : (κs : Lfts 8) (a : Dens κs read-tail-kinds.ps) (x y : ℕ) (s t : AtExit (ended_of 8 read-tail-kinds.ps read-tail-kinds.r) κs)
    → read-tail-reads.Post κs a x s → read-tail-reads.Post κs a y t
    → closed x (stretch s.1.1.1.1.1.1.1.1.0.now s.1.1.1.1.1.1.1.1.1.0.now) s.1.1.1.1.1.1.1.1.1.1.0.now s.1.1.0.now s.1.1.1.1.0.now s.1.1.1.1.1.0.now s.1.0.now
    ≡ closed y (stretch t.1.1.1.1.1.1.1.1.0.now t.1.1.1.1.1.1.1.1.1.0.now) t.1.1.1.1.1.1.1.1.1.1.0.now t.1.1.0.now t.1.1.1.1.0.now t.1.1.1.1.1.0.now t.1.0.now
read_tail_one κs a x y s t p q = p ∙ sym q
