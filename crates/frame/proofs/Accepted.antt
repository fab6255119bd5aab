-- Where the log tiles the audio and there is room, a tail is accepted: each step is taken, and its place and count are known.
-- Assumes nothing.
use Prim.Native.Nat.{ℕ, ◌+◌, ◌-◌, ◌*◌, ◌≤◌, ◌<◌}
use mathlib.Core.Path.{◌≡◌, refl, sym, ap, subst, ◌∙◌}
use mathlib.Core.List.{List}
use mathlib.Core.Bool.{Bool, true, false, cond}
use native.Mathlib.Omega.{arith}
use lib.ListN.{length}
use borrow.Author.Tests.{le-ltb}
use Rattle.refusal.specs.Refusals.{Outcome, taken, and_then, placed, Ran, then_run}
use Rattle.refusal.proofs.Laws.{run_on}
use Rattle.bits.specs.Bits.{bits_at}
use Rattle.syntax.specs.declared.Ask.{Ask}
use Rattle.syntax.specs.declared.Role.{Role}
use Rattle.syntax.specs.declared.Role.TheVariants.{AuxBits, AuxDataL, AuxDataE, CrcRsv, Crc2}
use Rattle.syntax.specs.Names as names
use Rattle.syntax.specs.Reads.{Standing, standing, room, read_of, span_of}
use Rattle.syntax.specs.Tiling.{Reached, Reaches}
use Rattle.syntax.proofs.Tests.{Free}
use Rattle.syntax.proofs.ReadLaws.{read_inside, read_keeps, span_inside, span_keeps}
use Rattle.syntax.proofs.Reached.{read_reached, span_reached}
use Rattle.syntax.proofs.Tiled.{reaches_accepted}
use Rattle.probe.specs.declared.Codec.{Codec}
use Rattle.frame.specs.declared.Stretch.{Stretch}
use Rattle.frame.specs.Tail.{last_bits, auxdatal_bits, has_aux, behind, outside, auxbits, user_bits, tail_ask, reserved_name, length_of, last_of, tiles_of, elements_of}
use Rattle.frame.specs.Tiled.{auxdatal, Accepted}
use Rattle.frame.proofs.Fits.{fit_passed}
use Rattle.frame.proofs.Runs.{tail_on}
use Rattle.frame.proofs.Tiled.{behind_least}

-- a run that was taken goes on
goes : {A B : Type 0} (r : Ran Standing A) (next : A → Standing → Ran Standing B) {a : A} → r.outcome ≡ taken a → then_run r next ≡ next a r.state
goes r next h = sym (run_on {o = r} {p = r} next refl h)

module _ (frame : List ℕ) (limit words : ℕ) (short : limit ≤ 32768) (held : limit ≤ 8 * length frame) where
  -- the cursor stands at bit x, the log tiles the bits below it with at most n elements
  record Stands (x n : ℕ) (st : Standing) : Type 0 where
    reached : Reached st
    here : st.place.pos ≡ x
    few : st.place.count ≤ n
    same_limit : st.place.limit ≡ limit
    same_words : length st.log ≡ words

  -- a run that is taken with a, and comes to bit x with at most n elements
  record Takes {A : Type 0} (a : A) (x n : ℕ) (r : Ran Standing A) : Type 0 where
    takes : r.outcome ≡ taken a
    stands : Stands x n r.state

  free : (x n width : ℕ) (st : Standing) → Stands x n st → x + width ≤ limit → n < room words
      → Free (length frame) (length st.log) st.place st.place.pos (st.place.pos + width)
  free x n width st s h l =
      record {
        short = omega (arith, s.same_limit);
        held = omega (arith, s.same_limit);
        room_left = rw s.same_words (omega (arith, s.few));
        ordered = omega arith;
        within = omega (arith, s.same_limit, s.here);
      }

  read_takes : (x n : ℕ) (a : Ask) (st : Standing) → Stands x n st → a.width ≤ 32 → x + a.width ≤ limit → n < room words
      → Takes (bits_at frame x a.width) (x + a.width) (n + 1) (read_of frame st a)
  read_takes x n a st s w h l =
      let e = read_inside frame st a w (free x n a.width st s h l) in
      let k = read_keeps frame st a in
      let p = ap (λ (r : Ran Standing ℕ). r.state.place.pos) e in
      let c = ap (λ (r : Ran Standing ℕ). r.state.place.count) e in
      record {
        takes = ap (λ (r : Ran Standing ℕ). r.outcome) e ∙ ap (λ (y : ℕ). taken (bits_at frame y a.width)) s.here;
        stands =
            record {
              reached = read_reached frame st a s.reached;
              here = p ∙ ap (λ (y : ℕ). y + a.width) s.here;
              few = omega (arith, c, s.few);
              same_limit = k.limit ∙ s.same_limit;
              same_words = k.len ∙ s.same_words;
            };
      }

  span_takes : (x n name : ℕ) (role : Role) (width : ℕ) (st : Standing) → Stands x n st → x + width ≤ limit → n < room words
      → Takes tt (x + width) (n + 1) (span_of (length frame) st name role width)
  span_takes x n name role width st s h l =
      let e = span_inside (length frame) st name role width (free x n width st s h l) in
      let k = span_keeps (length frame) st name role width in
      let p = ap (λ (r : Ran Standing Unit). r.state.place.pos) e in
      let c = ap (λ (r : Ran Standing Unit). r.state.place.count) e in
      record {
        takes = ap (λ (r : Ran Standing Unit). r.outcome) e;
        stands =
            record {
              reached = span_reached (length frame) st name role width s.reached;
              here = p ∙ ap (λ (y : ℕ). y + width) s.here;
              few = omega (arith, c, s.few);
              same_limit = k.limit ∙ s.same_limit;
              same_words = k.len ∙ s.same_words;
            };
      }

  -- what follows a run that is taken
  then_takes : {A B : Type 0} {a : A} {b : B} {x y n m : ℕ} (r : Ran Standing A) (next : A → Standing → Ran Standing B) → Takes a x n r
      → ((s : Standing) → Stands x n s → Takes b y m (next a s)) → Takes b y m (then_run r next)
  then_takes {A} {B} {a} {b} {x} {y} {n} {m} r next t f =
      subst (λ (q : Ran Standing B). Takes b y m q) (sym (goes r next t.takes)) (f r.state t.stands)

  length_takes : (aux : Bool) (width x n : ℕ) (st : Standing) → Stands x n st → x + behind aux ≤ limit → n < room words
      → cond aux (bits_at frame x auxdatal_bits) 0 ≤ width → Takes (cond aux (bits_at frame x auxdatal_bits) 0) (x + behind aux - last_bits) (n + 1) (length_of frame aux width st)
  unfolding behind
  length_takes false width x n st s h l w =
      record {
        takes = refl;
        stands = record { reached = s.reached; here = omega (arith, s.here); few = omega (arith, s.few); same_limit = s.same_limit; same_words = s.same_words };
      }
  length_takes true width x n st s h l w =
      let e : x + auxdatal_bits ≡ x + (auxdatal_bits + last_bits) - last_bits = omega arith in
      subst (λ (y : ℕ). Takes (bits_at frame x auxdatal_bits) y (n + 1) (length_of frame true width st)) e
      (then_takes (read_of frame st (tail_ask names.auxdatal AuxDataL auxdatal_bits)) _ (read_takes x n (tail_ask names.auxdatal AuxDataL auxdatal_bits) st s (omega arith) (omega arith) l)
      (λ t k. record { takes = rw (le-ltb width (bits_at frame x auxdatal_bits) w); stands = k }))

  last_takes : (codec : Codec) (x n : ℕ) (st : Standing) → Stands x n st → x + last_bits ≤ limit → n + 3 ≤ room words
      → Takes (bits_at frame (x + 1 + 1) 16) (x + 1 + 1 + 16) (n + 1 + 1 + 1) (last_of frame codec st)
  unfolding last_of
  last_takes codec x n st s h l =
      then_takes (read_of frame st (tail_ask names.auxdatae AuxDataE 1)) _ (read_takes x n (tail_ask names.auxdatae AuxDataE 1) st s (omega arith) (omega arith) (omega arith)) (λ t k.
      then_takes (read_of frame t (tail_ask (reserved_name codec) CrcRsv 1)) _
      (read_takes (x + 1) (n + 1) (tail_ask (reserved_name codec) CrcRsv 1) t k (omega arith) (omega arith) (omega arith)) (λ u m.
      read_takes (x + 1 + 1) (n + 1 + 1) (tail_ask names.crc2 Crc2 16) u m (omega arith) (omega arith) (omega arith)))

  tiles_takes : (total : ℕ) (user : Stretch) (n : ℕ) (st : Standing) → Stands total n st → n ≤ room words → Takes user total n (tiles_of total user st)
  unfolding tiles_of
  tiles_takes total user n st s l =
      let r : Reaches st.log st.place.count total = subst (λ (x : ℕ). Reaches st.log st.place.count x) s.here s.reached in
      let c : st.place.count ≤ room (length st.log) = rw s.same_words (omega (arith, s.few)) in
      record {
        takes = ap (λ (o : Outcome Unit). and_then (placed total o) (λ _. taken user)) (reaches_accepted st.log st.place.count total c r);
        stands = s;
      }

  -- auxdatal stands behind auxbits
  length_at : (aux : Bool) (x total : ℕ) → x + behind aux ≤ total
      → cond aux (bits_at frame (x + (total - behind aux - x)) auxdatal_bits) 0 ≡ cond aux (bits_at frame (total - behind true) auxdatal_bits) 0
  unfolding behind
  length_at true x total h = let e : x + (total - behind true - x) ≡ total - behind true = omega arith in ap (λ (y : ℕ). bits_at frame y auxdatal_bits) e
  length_at false x total h = refl

  elements_take : (total : ℕ) (codec : Codec) (st : Standing) → Stands st.place.pos st.place.count st → total ≤ limit
      → st.place.pos + behind (has_aux frame total) ≤ total → st.place.count + 5 ≤ room words
      → auxdatal frame total ≤ (auxbits st.place.pos total (has_aux frame total)).width
      → (elements_of frame total codec st).outcome ≡ taken (user_bits (auxbits st.place.pos total (has_aux frame total)) (auxdatal frame total))
  unfolding elements_of
  elements_take total codec st s h f l w =
      let aux = has_aux frame total in
      let x = st.place.pos in
      let n = st.place.count in
      let width = total - behind aux - x in
      let v : cond aux (bits_at frame (x + width) auxdatal_bits) 0 ≡ auxdatal frame total = length_at aux x total f in
      let b = behind_least aux in
      let e : x + width + behind aux - last_bits + 1 + 1 + 16 ≡ total = omega (arith, f, b) in
      (then_takes (span_of (length frame) st names.auxbits AuxBits width) _ (span_takes x n names.auxbits AuxBits width st s (omega (arith, h, f)) (omega (arith, l))) (λ t k.
      then_takes (length_of frame aux width t) _
      (subst (λ (y : ℕ). Takes y (x + width + behind aux - last_bits) (n + 1 + 1) (length_of frame aux width t)) v
      (length_takes aux width (x + width) (n + 1) t k (omega (arith, h, f)) (omega (arith, l)) (subst (λ (y : ℕ). y ≤ width) (sym v) w))) (λ u m.
      then_takes (last_of frame codec u) _
      (last_takes codec (x + width + behind aux - last_bits) (n + 1 + 1) u m (omega (arith, h, e)) (omega (arith, l))) (λ q r.
      tiles_takes total _ (n + 1 + 1 + 1 + 1 + 1) q (subst (λ (y : ℕ). Stands y (n + 1 + 1 + 1 + 1 + 1) q) e r) (omega (arith, l)))))).takes

pub accepted : Accepted
accepted = record {
  accepted = λ frame st total codec h f l w.
      let p = st.place in
      let r = fit_passed frame (length st.log) p total f in
      let at = standing (outside p) st.log in
      ap (λ (x : Ran Standing Stretch). x.outcome) (sym (tail_on frame st total codec f refl refl))
      ∙ elements_take frame p.limit (length st.log) r.fit.short r.fit.sound total codec at
      (record { reached = h; here = refl; few = omega arith; same_limit = refl; same_words = refl }) r.fit.within r.all l w;
}
