-- An accepted tail leaves a log that tiles its total; and where the log tiles the bits before the tail, 18 never comes.
-- Assumes nothing.
use Prim.Native.Nat.{ℕ, ◌+◌, ◌-◌, ◌≤◌}
use mathlib.Core.Path.{◌≡◌, refl, sym, ap, subst, ◌∙◌}
use mathlib.Core.List.{List, [], ◌∷◌}
use mathlib.Core.Bool.{Bool, true, false, cond, not}
use mathlib.Core.Logic.{◌≢◌, inl, inr}
use native.Mathlib.Omega.{arith}
use lib.ListN.{length}
use lib.Dec.{ltb, T}
use mir.Val.{has_key}
use types.Run.{OneOf, miss}
use Rattle.refusal.specs.Refusals.{Grounds, Outcome, taken, refused, grounds, and_then, placed, Ran, ends, follow, then_run}
use Rattle.refusal.proofs.Laws.{never}
use Rattle.syntax.specs.declared.Ask.{Ask}
use Rattle.syntax.specs.declared.Role.{Role}
use Rattle.syntax.specs.declared.Role.TheVariants.{AuxBits, AuxDataL, AuxDataE, CrcRsv, Crc2}
use Rattle.syntax.specs.Names as names
use Rattle.syntax.specs.Reads.{Standing, standing, room, read_of, span_of}
use Rattle.syntax.specs.Tiling.{tiling_of, Reached}
use Rattle.syntax.proofs.Tests.{Told, told_first}
use Rattle.syntax.proofs.ReadLaws.{read_taken, read_refused, span_taken, span_refused}
use Rattle.syntax.proofs.Reached.{read_reached, span_reached}
use Rattle.syntax.proofs.Tiled.{accepted_sum, accepted_one, reaches_tiling}
use Rattle.probe.specs.declared.Codec.{Codec}
use Rattle.frame.specs.declared.Stretch.{Stretch}
use Rattle.frame.specs.Tail.{unfit, last_bits, auxdatal_bits, has_aux, behind, fit_of, outside, tail_ask, reserved_name, length_of, last_of, tiles_of, elements_of, tail_of}
use Rattle.frame.specs.Tiled.{TilesAll, Tiled, NeverUntiled}
use Rattle.frame.proofs.Fits.{fit_passed}

-- an accepted run's log tiles the total
abbrev Accepts : ℕ → Ran Standing Stretch → Type 0
Accepts total r = (user : Stretch) → r.outcome ≡ taken user → TilesAll r.state.log r.state.place.count total

-- which is so where it is so of what follows
then_accepts : {A : Type 0} (total : ℕ) (r : Ran Standing A) (next : A → Standing → Ran Standing Stretch)
    → ((a : A) (s : Standing) → Accepts total (next a s)) → Accepts total (then_run r next)
then_accepts {A} total r next f = go r.outcome
  where
    go : (o : Outcome A) → Accepts total (follow o r.state next)
    go (taken a) = f a r.state
    go (refused g) = λ user e. never e

-- and of the test for 18
tiles_accepts : (total : ℕ) (user : Stretch) (st : Standing) → Accepts total (tiles_of total user st)
unfolding tiles_of
tiles_accepts total user st u e = go (tiling_of st.log st.place.count total) refl e
  where
    go : (o : Outcome Unit) → tiling_of st.log st.place.count total ≡ o → and_then (placed total o) (λ _. taken user) ≡ taken u
        → TilesAll st.log st.place.count total
    go (taken x) t q = record { sum = accepted_sum st.log st.place.count total t; each = accepted_one st.log st.place.count total t }
    go (refused g) t q = never q

elements_accepts : (frame : List ℕ) (total : ℕ) (codec : Codec) (st : Standing) → Accepts total (elements_of frame total codec st)
unfolding elements_of
elements_accepts frame total codec st =
    then_accepts total (span_of (length frame) st names.auxbits AuxBits _) _ (λ _ s.
    then_accepts total (length_of frame (has_aux frame total) _ s) _ (λ l t.
    then_accepts total (last_of frame codec t) _ (λ _ u.
    tiles_accepts total _ u)))

tail_accepts : (frame : List ℕ) (st : Standing) (total : ℕ) (codec : Codec) → Accepts total (tail_of frame st total codec)
unfolding tail_of
tail_accepts frame st total codec =
    then_accepts total (ends st (fit_of frame (length st.log) st.place total)) _
    (λ _ s. elements_accepts frame total codec (standing (outside s.place) s.log))

pub tiled : Tiled
tiled = record { tiled = tail_accepts }

-- the log tiles the bits below x, where the cursor stands
pub record At (x : ℕ) (st : Standing) : Type 0 where
  pub reached : Reached st
  pub here : st.place.pos ≡ x

-- a run that is not refused with 18, and that has come to bit x where it is taken
record Leads {A : Type 0} (x : ℕ) (r : Ran Standing A) : Type 0 where
  fine : (g : Grounds) → r.outcome ≡ refused g → g.number ≢ 18
  comes : (a : A) → r.outcome ≡ taken a → At x r.state

then_leads : {A B : Type 0} (x y : ℕ) (r : Ran Standing A) (next : A → Standing → Ran Standing B) → Leads x r
    → ((a : A) (s : Standing) → At x s → Leads y (next a s)) → Leads y (then_run r next)
then_leads {A} {B} x y r next h f = go r.outcome refl
  where
    go : (o : Outcome A) → r.outcome ≡ o → Leads y (follow o r.state next)
    go (taken a) e = f a r.state (h.comes a e)
    go (refused g) e = record { fine = λ k q. (let s : g ≡ k = cc in subst (λ (z : Grounds). z.number ≢ 18) s (h.fine g e)); comes = λ a q. never q }

-- where 18 is none of the numbers that can come
not-18 : (ks : List ℕ) → T (not (has_key ks 18)) → (b : ℕ) (g : Grounds) → Told ks b g → g.number ≢ 18
not-18 ks h b g t e = miss ks 18 h (subst (λ (n : ℕ). OneOf ks n) e t.number)

read_leads : (frame : List ℕ) (x : ℕ) (a : Ask) (st : Standing) → At x st → Leads (x + a.width) (read_of frame st a)
read_leads frame x a st h =
    record {
      fine = λ g e. not-18 (6 ∷ 1 ∷ 19 ∷ []) tt st.place.pos g (read_refused frame st a g e).1;
      comes = λ v e.
          record {
            reached = read_reached frame st a h.reached;
            here = ap (λ (s : Standing). s.place.pos) (read_taken frame st a v e).after ∙ ap (λ (n : ℕ). n + a.width) h.here;
          };
    }

span_leads : (len name : ℕ) (role : Role) (width x : ℕ) (st : Standing) → At x st → Leads (x + width) (span_of len st name role width)
span_leads len name role width x st h =
    record {
      fine = λ g e. not-18 (6 ∷ 1 ∷ 19 ∷ []) tt st.place.pos g (span_refused len st name role width g e).1;
      comes = λ u e.
          record {
            reached = span_reached len st name role width h.reached;
            here = ap (λ (s : Standing). s.place.pos) (span_taken len st name role width e).1 ∙ ap (λ (n : ℕ). n + width) h.here;
          };
    }

length_leads : (frame : List ℕ) (aux : Bool) (width x : ℕ) (st : Standing) → At x st → Leads (x + behind aux - last_bits) (length_of frame aux width st)
unfolding behind
length_leads frame false width x st h =
    record { fine = λ g e. never (sym e); comes = λ a e. record { reached = h.reached; here = omega (arith, h.here) } }
length_leads frame true width x st h =
    let e : x + auxdatal_bits ≡ x + (auxdatal_bits + last_bits) - last_bits = omega arith in
    subst (λ (n : ℕ). Leads n (length_of frame true width st)) e
    (then_leads (x + auxdatal_bits) (x + auxdatal_bits) (read_of frame st (tail_ask names.auxdatal AuxDataL auxdatal_bits)) _ (read_leads frame x (tail_ask names.auxdatal AuxDataL auxdatal_bits) st h)
    (λ l s k. go (ltb width l) l s k))
  where
    go : (test : Bool) (l : ℕ) (s : Standing) → At (x + auxdatal_bits) s → Leads (x + auxdatal_bits) (ends s (cond test (refused (grounds 17 s.place.pos)) (taken l)))
    go true l s k = record { fine = λ g e n. (let z : 17 ≡ g.number = cc in omega arith); comes = λ a e. never e }
    go false l s k = record { fine = λ g e. never (sym e); comes = λ a e. k }

last_leads : (frame : List ℕ) (codec : Codec) (x : ℕ) (st : Standing) → At x st → Leads (x + 1 + 1 + 16) (last_of frame codec st)
unfolding last_of
last_leads frame codec x st h =
    then_leads (x + 1) (x + 1 + 1 + 16) (read_of frame st (tail_ask names.auxdatae AuxDataE 1)) _ (read_leads frame x (tail_ask names.auxdatae AuxDataE 1) st h) (λ _ s k.
    then_leads (x + 1 + 1) (x + 1 + 1 + 16) (read_of frame s (tail_ask (reserved_name codec) CrcRsv 1)) _ (read_leads frame (x + 1) (tail_ask (reserved_name codec) CrcRsv 1) s k) (λ _ t m.
    read_leads frame (x + 1 + 1) (tail_ask names.crc2 Crc2 16) t m))

-- the test for 18, where the log tiles the total: only a count past the room is left
tiles_fine : (total : ℕ) (user : Stretch) (st : Standing) → At total st → Leads total (tiles_of total user st)
unfolding tiles_of
tiles_fine total user st h =
    let t =
    reaches_tiling st.log st.place.count total (subst (λ (n : ℕ). Reached (standing (record { pos = n; limit = st.place.limit; block = st.place.block; count = st.place.count }) st.log)) h.here h.reached) in
    rw t (go (ltb (room (length st.log)) st.place.count))
  where
    go : (test : Bool) → Leads total (ends st (and_then (placed total (cond {A = Outcome Unit} test (refused (grounds 6 0)) (taken tt))) (λ _. taken user)))
    go true = record { fine = λ g e n. (let z : 6 ≡ g.number = cc in omega arith); comes = λ a e. never e }
    go false = record { fine = λ g e. never (sym e); comes = λ a e. h }

pub behind_least : (aux : Bool) → last_bits ≤ behind aux
unfolding behind
behind_least true = omega arith
behind_least false = omega arith

elements_fine : (frame : List ℕ) (total : ℕ) (codec : Codec) (st : Standing) → Reached st
    → st.place.pos + behind (has_aux frame total) ≤ total → Leads total (elements_of frame total codec st)
unfolding elements_of
elements_fine frame total codec st h f =
    let aux = has_aux frame total in
    let pos = st.place.pos in
    let width = total - behind aux - pos in
    let e : pos + width + behind aux - last_bits + 1 + 1 + 16 ≡ total = omega (arith, f, behind_least aux) in
    then_leads (pos + width) total (span_of (length frame) st names.auxbits AuxBits width) _
    (span_leads (length frame) names.auxbits AuxBits width pos st (record { reached = h; here = refl })) (λ _ s k.
    then_leads (pos + width + behind aux - last_bits) total (length_of frame aux width s) _ (length_leads frame aux width (pos + width) s k) (λ l t m.
    then_leads total total (last_of frame codec t) _
    (subst (λ (n : ℕ). Leads n (last_of frame codec t)) e (last_leads frame codec (pos + width + behind aux - last_bits) t m)) (λ _ u q.
    tiles_fine total _ u q)))

-- the tests in front
fit_fine : (frame : List ℕ) (st : Standing) (total : ℕ) (g : Grounds) → fit_of frame (length st.log) st.place total ≡ refused g → g.number ≢ 18
unfolding fit_of
fit_fine frame st total g e =
    let p = st.place in
    let ks : List ℕ = 6 ∷ 16 ∷ 17 ∷ [] in
    not-18 ks tt p.pos g
    (told_first ks (unfit (length frame) (length st.log) p total) _ _ e (inl refl) (λ q.
    told_first ks (ltb total (p.pos + last_bits)) _ _ q (inr (inl refl)) (λ r.
    told_first ks (ltb total (p.pos + behind (has_aux frame total))) _ _ r (inr (inr refl)) (λ s. never (sym s)))))

tail_fine : (frame : List ℕ) (st : Standing) (total : ℕ) (codec : Codec) → Reached st
    → (g : Grounds) → (tail_of frame st total codec).outcome ≡ refused g → g.number ≢ 18
unfolding tail_of
tail_fine frame st total codec h g = go (fit_of frame (length st.log) st.place total) refl
  where
    go : (o : Outcome Unit) → fit_of frame (length st.log) st.place total ≡ o
        → (follow o st (λ _ s. elements_of frame total codec (standing (outside s.place) s.log))).outcome ≡ refused g → g.number ≢ 18
    go (taken u) p e =
        (elements_fine frame total codec (standing (outside st.place) st.log) h (fit_passed frame (length st.log) st.place total p).all).fine g e
    go (refused k) p e = fit_fine frame st total g (p ∙ (let s : k ≡ g = cc in ap refused s))

pub never_untiled : NeverUntiled
never_untiled = record { never-18 = λ frame st total codec g h. tail_fine frame st total codec h g }
