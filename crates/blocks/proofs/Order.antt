-- Past the block's tests a slot is refused by 12, 10, 6 or 8 alone (specs/Order).
-- Assumes nothing.
use Prim.Native.Nat.{ℕ, zero, suc, ◌+◌, ◌-◌, ◌*◌, ◌≤◌, ◌<◌, zero-le}
use mathlib.Core.Path.{◌≡◌, refl, subst}
use mathlib.Core.List.{List, [], ◌∷◌}
use mathlib.Core.Bool.{Bool, true, false, cond, not, ◌&&◌}
use native.Mathlib.Omega.{arith}
use lib.Dec.{leb, ltb, eqb, T}
use lib.IntN.{ℤ, pos}
use lib.ListN.{length, get_or}
use borrow.Author.Tests.{leb-true, le-ltb}
use Rattle.refusal.specs.Refusals.{Outcome, taken, refused, refuse_if}
use Rattle.tables.specs.declared.Delta.{Delta}
use Rattle.tables.specs.declared.Pointers.{Pointers}
use Rattle.tables.specs.Codes.{code_at, slow_decay, fast_decay, slow_gain, knee_table, floor_table, fast_gain, leak_of, snr_offset, fine_of, snr_of}
use Rattle.tables.specs.Bands.{zeros}
use Rattle.tables.specs.Fits.{upto, tables_fit, delta_fits}
use Rattle.tables.specs.Pointers.{pointers_by, table_of}
use Rattle.refusal.proofs.TestLaws.{and_left, and_right}
use Rattle.tables.proofs.FitLaws.{upto_at}
use Rattle.alloc.specs.declared.Codes.{Codes}
use Rattle.alloc.specs.declared.Leak.{Leak}
use Rattle.alloc.specs.Channel.{pointers_of}
use Rattle.alloc.specs.Params.{curve_of, levels_of, begins_at, leaks_of, start_of}
use Rattle.alloc.specs.Answers.{filled, channel_of, allocate_of}
use Rattle.blocks.specs.declared.AllocState.{AllocState}
use Rattle.std.specs.Prelude.{Option, Some, None, is_some, unwrap_or}
use Rattle.blocks.specs.declared.Bai.{Bai}
use Rattle.blocks.specs.Block.{shared_of, bai_fits, leak_fits, if_sent, sent_fit, others_fit, deltas_fit, codes_fit, no_delta, codes_at, leak_at, delta_at, uncovered, lacks_leak, state_of, slot_of}
use Rattle.blocks.specs.Order.{among, by_one_of, InOrder}

-- the numbers of a slot
abbrev slot_numbers : List ℕ
slot_numbers = 12 ∷ 10 ∷ 6 ∷ 8 ∷ []

-- a call that is taken, with what it answers
abbrev Takes : {A : Type 0} → Outcome A → Type 0
Takes {A} o = (a : A) × (o ≡ taken a)

-- a code inside its table
code_takes : (l : List ℤ) (n : ℕ) → n < length l → Takes (code_at l n)
unfolding code_at
code_takes [] n h = absurd (omega arith)
code_takes (z ∷ zs) zero h = (z, refl)
code_takes (z ∷ zs) (suc n) h = code_takes zs n (omega arith)

gain_takes : (n : ℕ) → n ≤ 7 → Takes (fast_gain n)
unfolding fast_gain
gain_takes n h = (pos (128 * (n + 1)), rw (le-ltb 7 n h))

leak_takes : (n : ℕ) → n ≤ 7 → Takes (leak_of n)
unfolding leak_of
leak_takes n h = (pos (256 * n + 768), rw (le-ltb 7 n h))

snr_takes : (a b : ℕ) → a ≤ 63 → b ≤ 15 → Takes (snr_of a b)
unfolding snr_of fine_of
snr_takes a b h k = (snr_offset a b, rw (le-ltb 63 a h, le-ltb 15 b k))

curve_takes : (k : Codes) → k.sdcycod ≤ 3 → k.fdcycod ≤ 3 → k.sgaincod ≤ 3 → k.fgaincod ≤ 7 → Takes (curve_of k)
unfolding curve_of
curve_takes k a b c d =
    let sd = code_takes slow_decay k.sdcycod (omega arith) in
    let fd = code_takes fast_decay k.fdcycod (omega arith) in
    let sg = code_takes slow_gain k.sgaincod (omega arith) in
    let fg = gain_takes k.fgaincod d in
    (record { sdecay = sd.0; fdecay = fd.0; sgain = sg.0; fgain = fg.0 }, rw (sd.1, fd.1, sg.1, fg.1))

levels_takes : (k : Codes) → k.dbpbcod ≤ 3 → k.floorcod ≤ 7 → k.csnroffst ≤ 63 → k.fsnroffst ≤ 15 → k.fscod ≤ 2 → Takes (levels_of k)
unfolding levels_of
levels_takes k a b c d e =
    let knee = code_takes knee_table k.dbpbcod (omega arith) in
    let floor = code_takes floor_table k.floorcod (omega arith) in
    let snr = snr_takes k.csnroffst k.fsnroffst c d in
    (record { knee = knee.0; floor = floor.0; snr = snr.0; fscod = k.fscod }, rw (knee.1, floor.1, snr.1, le-ltb 2 k.fscod e))

leaks_takes : (f s : ℕ) → f ≤ 7 → s ≤ 7 → Takes (leaks_of f s)
unfolding leaks_of
leaks_takes f s h k =
    let a = leak_takes f h in
    let b = leak_takes s k in
    (begins_at a.0 b.0, rw (a.1, b.1))

-- coupling's leak was sent where it is used, so it was tested
start_takes : (cpl : Bool) (leak : Option Leak) → (cpl && not (is_some leak)) ≡ false → if_sent leak leak_fits ≡ true
    → Takes (start_of (cond cpl leak None))
unfolding start_of
start_takes false leak e h = (begins_at (pos 0) (pos 0), refl)
start_takes true (Some l) e h = leaks_takes l.cplfleak l.cplsleak (leb-true _ 7 (and_left _ _ h)) (leb-true _ 7 (and_right (leb l.cplfleak 7) _ h))
start_takes true None e h = absurd (subst (λ (x : Bool). T x) e tt)

-- the channel with its parameters decoded
channel_by : (empty above outside : Bool) (bap : List ℕ)
    → by_one_of slot_numbers (cond empty (taken zeros) (refuse_if above 6 0 (refuse_if outside 8 0 (taken bap)))) ≡ true
unfolding by_one_of among
channel_by true above outside bap = refl
channel_by false true outside bap = refl
channel_by false false true bap = refl
channel_by false false false bap = refl

filled_by : (o : Outcome (List ℕ)) → by_one_of slot_numbers o ≡ true → by_one_of slot_numbers (state_of (filled o)) ≡ true
unfolding by_one_of
filled_by (taken bap) h = refl
filled_by (refused g) h = h

-- the channel alone
module _ (exp : List ℕ) (start end : ℕ) (k : Codes) (l : Option Leak) (d : Delta) (w : Pointers) (hearing log_add : List ℕ) where
  alone_by : tables_fit hearing log_add ≡ true → Takes (curve_of k) → Takes (levels_of k) → Takes (start_of l)
      → delta_fits d ≡ true → by_one_of slot_numbers (state_of (allocate_of exp start end k l d w hearing log_add)) ≡ true
  unfolding allocate_of channel_of
  alone_by t c v s f =
      let pointers = pointers_of exp log_add hearing (table_of w) start end c.0 s.0 v.0 d in
      rw (t, c.1, v.1, s.1, f)
      (filled_by (channel_of exp start end c.0 v.0 s.0 d w hearing log_add)
      (channel_by (leb end start) (ltb 253 end) (not (upto 24 exp start (end - start))) pointers))

-- 12 and 10 stand before it
slot_by_lem : (present uncovered lacks : Bool) (alone : Outcome (List ℕ)) → (lacks ≡ false → by_one_of slot_numbers alone ≡ true)
    → by_one_of slot_numbers (cond (not present) (taken zeros) (refuse_if uncovered 12 0 (refuse_if lacks 10 0 alone))) ≡ true
unfolding by_one_of among
slot_by_lem false u l alone h = refl
slot_by_lem true true l alone h = refl
slot_by_lem true false true alone h = refl
slot_by_lem true false false alone h = h refl

-- what was sent was tested
sent_fits : {A : Type 0} (a : A) (o : Option A) (fits : A → Bool) → is_some o ≡ true → if_sent o fits ≡ true → fits (unwrap_or o a) ≡ true
sent_fits a (Some x) fits h e = e
sent_fits a None fits h e = absurd (subst (λ (x : Bool). T (not x)) h tt)

delta_fits_at : (ds : List Delta) (i : ℕ) → i < length ds → deltas_fit ds ≡ true → delta_fits (get_or ds i no_delta) ≡ true
unfolding deltas_fit
delta_fits_at [] i h e = absurd (omega arith)
delta_fits_at (d ∷ ds) zero h e = and_left (delta_fits d) _ e
delta_fits_at (d ∷ ds) (suc i) h e = delta_fits_at ds i (omega arith) (and_right (delta_fits d) _ e)

own_fits : (lfe : Bool) (d : Delta) → delta_fits d ≡ true → delta_fits (cond lfe no_delta d) ≡ true
unfolding delta_fits upto
own_fits true d h = refl
own_fits false d h = h

-- what the block's tests say of the codes that a slot hands on
module _ (st : AllocState) (fscod : ℕ) (i : ℕ) (h : i < 7) where
  abbrev sent : Bai
  sent = (shared_of st fscod).bai

  codes_curve : bai_fits sent ≡ true → others_fit st fscod ≡ true → Takes (curve_of (codes_at st fscod i))
  unfolding codes_at others_fit
  codes_curve b o =
      let b1 = and_right (leb sent.sdcycod 3) _ b in
      let b2 = and_right (leb sent.fdcycod 3) _ b1 in
      curve_takes (codes_at st fscod i) (leb-true _ 3 (and_left _ _ b)) (leb-true _ 3 (and_left _ _ b1)) (leb-true _ 3 (and_left _ _ b2))
      (upto_at 7 st.fgaincod 0 7 (and_left _ _ o) i zero-le h)

  codes_levels : bai_fits sent ≡ true → leb (unwrap_or st.csnroffst 0) 63 ≡ true → others_fit st fscod ≡ true → Takes (levels_of (codes_at st fscod i))
  unfolding codes_at others_fit
  codes_levels b c o =
      let b1 = and_right (leb sent.sdcycod 3) _ b in
      let b2 = and_right (leb sent.fdcycod 3) _ b1 in
      let b3 = and_right (leb sent.sgaincod 3) _ b2 in
      let o1 = and_right (upto 7 st.fgaincod 0 7) _ o in
      levels_takes (codes_at st fscod i) (leb-true _ 3 (and_left _ _ b3)) (leb-true _ 7 (and_right (leb sent.dbpbcod 3) _ b3)) (leb-true _ 63 c)
      (upto_at 15 st.fsnroffst 0 7 (and_left _ _ o1) i zero-le h) (leb-true _ 2 (and_right (upto 15 st.fsnroffst 0 7) _ o1))

-- the three that may be unsent
record SentFit (st : AllocState) : Type 0 where
  parameters : if_sent st.bai bai_fits ≡ true
  offset : if_sent st.csnroffst (λ k. leb k 63) ≡ true
  leaks : if_sent st.cplleak leak_fits ≡ true

sent_parts : (st : AllocState) → sent_fit st ≡ true → SentFit st
unfolding sent_fit
sent_parts st e =
    let f = and_right (if_sent st.bai bai_fits) _ e in
    record { parameters = and_left _ _ e; offset = and_left _ _ f; leaks = and_right (if_sent st.csnroffst (λ k. leb k 63)) _ f }

pub in_order : InOrder
unfolding slot_of lacks_leak codes_fit leak_at delta_at
in_order st fscod hearing log_add t i h s =
    let sent = sent_parts st (and_left (sent_fit st) _ t.codes) in
    let rest = and_right (sent_fit st) _ t.codes in
    let others = and_left (others_fit st fscod) _ rest in
    let bai : bai_fits (shared_of st fscod).bai ≡ true = sent_fits _ st.bai bai_fits t.parameters sent.parameters in
    let below : i < length st.delta = omega (arith, t.slots) in
    slot_by_lem s.present (uncovered s) (lacks_leak st i) _ (λ e.
    alone_by s.exp s.start s.end (codes_at st fscod i) _ _ (pointers_by s.high) hearing log_add t.tables
    (codes_curve st fscod i h bai others)
    (codes_levels st fscod i h bai (sent_fits _ _ _ t.csnroffst sent.offset) others)
    (start_takes (eqb i 5) st.cplleak e sent.leaks)
    (own_fits (eqb i 6) (get_or st.delta i no_delta) (delta_fits_at st.delta i below (and_right (others_fit st fscod) _ rest))))
