-- For each public function, any two results that its contract allows are equal.
-- Assumes nothing.
use mathlib.Core.Path.{◌≡◌, refl, sym, ◌∙◌}
use Rattle.refusal.specs.Refusals.{Outcome, taken, refused}
use Rattle.refusal.proofs.Unique.{one_answer}
use Rattle.refusal.proofs.Decides.{Decides}
use Rattle.std.specs.Prelude.{Option, Some, None}
use Rattle.tables.specs.Codes.{coded_of}
use Rattle.tables.proofs.slow_decay.Kinds as slow-decay-kinds
use Rattle.tables.proofs.slow_decay.Reads as slow-decay-reads
use Rattle.tables.proofs.fast_decay.Kinds as fast-decay-kinds
use Rattle.tables.proofs.fast_decay.Reads as fast-decay-reads
use Rattle.tables.proofs.slow_gain.Kinds as slow-gain-kinds
use Rattle.tables.proofs.slow_gain.Reads as slow-gain-reads
use Rattle.tables.proofs.knee_of.Kinds as knee-of-kinds
use Rattle.tables.proofs.knee_of.Reads as knee-of-reads
use Rattle.tables.proofs.floor_of.Kinds as floor-of-kinds
use Rattle.tables.proofs.floor_of.Reads as floor-of-reads
use Rattle.tables.proofs.fast_gain.Kinds as fast-gain-kinds
use Rattle.tables.proofs.fast_gain.Reads as fast-gain-reads
use Rattle.tables.proofs.leak_of.Kinds as leak-of-kinds
use Rattle.tables.proofs.leak_of.Reads as leak-of-reads
use Rattle.tables.proofs.snr_of.Kinds as snr-of-kinds
use Rattle.tables.proofs.snr_of.Reads as snr-of-reads
use Rattle.tables.proofs.start_of.Kinds as start-of-kinds
use Rattle.tables.proofs.start_of.Reads as start-of-reads
use Rattle.tables.proofs.band_of.Kinds as band-of-kinds
use Rattle.tables.proofs.band_of.Reads as band-of-reads
use Rattle.tables.proofs.pointers_by.Kinds as pointers-by-kinds
use Rattle.tables.proofs.pointers_by.Reads as pointers-by-reads
use Rattle.tables.proofs.table_of.Kinds as table-of-kinds
use Rattle.tables.proofs.table_of.Reads as table-of-reads
use Rattle.tables.proofs.all_upto.Kinds as all-upto-kinds
use Rattle.tables.proofs.all_upto.Reads as all-upto-reads
use Rattle.tables.proofs.tables_fit.Kinds as tables-fit-kinds
use Rattle.tables.proofs.tables_fit.Reads as tables-fit-reads
use Rattle.tables.proofs.delta_fits.Kinds as delta-fits-kinds
use Rattle.tables.proofs.delta_fits.Reads as delta-fits-reads

-- a code's meaning leads back to the answer
abbrev pub coded_back : {A : Type 0} → Outcome A → Option A
coded_back (taken a) = Some a
coded_back (refused g) = None

pub coded_back_lem : {A : Type 0} (c : Option A) → coded_back (coded_of c) ≡ c
coded_back_lem (Some a) = refl
coded_back_lem None = refl

pub slow_decay_one : Decides 0 slow-decay-kinds.ps slow-decay-kinds.r slow-decay-reads.Post
slow_decay_one κs a x y s t = one_answer coded_of coded_back coded_back_lem x y

pub fast_decay_one : Decides 0 fast-decay-kinds.ps fast-decay-kinds.r fast-decay-reads.Post
fast_decay_one κs a x y s t = one_answer coded_of coded_back coded_back_lem x y

pub slow_gain_one : Decides 0 slow-gain-kinds.ps slow-gain-kinds.r slow-gain-reads.Post
slow_gain_one κs a x y s t = one_answer coded_of coded_back coded_back_lem x y

pub knee_of_one : Decides 0 knee-of-kinds.ps knee-of-kinds.r knee-of-reads.Post
knee_of_one κs a x y s t = one_answer coded_of coded_back coded_back_lem x y

pub floor_of_one : Decides 0 floor-of-kinds.ps floor-of-kinds.r floor-of-reads.Post
floor_of_one κs a x y s t = one_answer coded_of coded_back coded_back_lem x y

pub fast_gain_one : Decides 0 fast-gain-kinds.ps fast-gain-kinds.r fast-gain-reads.Post
fast_gain_one κs a x y s t = one_answer coded_of coded_back coded_back_lem x y

pub leak_of_one : Decides 0 leak-of-kinds.ps leak-of-kinds.r leak-of-reads.Post
leak_of_one κs a x y s t = one_answer coded_of coded_back coded_back_lem x y

pub snr_of_one : Decides 0 snr-of-kinds.ps snr-of-kinds.r snr-of-reads.Post
snr_of_one κs a x y s t = one_answer coded_of coded_back coded_back_lem x y

pub start_of_one : Decides 0 start-of-kinds.ps start-of-kinds.r start-of-reads.Post
start_of_one κs a x y s t p q = λ i. record { 0 = (p ∙ sym q) i }

pub band_of_one : Decides 0 band-of-kinds.ps band-of-kinds.r band-of-reads.Post
band_of_one κs a x y s t p q = λ i. record { 0 = (p ∙ sym q) i }

pub pointers_by_one : Decides 0 pointers-by-kinds.ps pointers-by-kinds.r pointers-by-reads.Post
pointers_by_one κs a x y s t p q = p ∙ sym q

pub table_of_one : Decides 0 table-of-kinds.ps table-of-kinds.r table-of-reads.Post
table_of_one κs a x y s t p q = p ∙ sym q

pub all_upto_one : Decides 1 all-upto-kinds.ps all-upto-kinds.r all-upto-reads.Post
all_upto_one κs a x y s t p q = p ∙ sym q

pub tables_fit_one : Decides 2 tables-fit-kinds.ps tables-fit-kinds.r tables-fit-reads.Post
tables_fit_one κs a x y s t p q = p ∙ sym q

pub delta_fits_one : Decides 0 delta-fits-kinds.ps delta-fits-kinds.r delta-fits-reads.Post
delta_fits_one κs a x y s t p q = p ∙ sym q
