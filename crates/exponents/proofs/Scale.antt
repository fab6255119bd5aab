-- Every exponent of a set, taken or refused, is 0 to 24: what uses a set that was read never meets one outside.
-- Assumes nothing.
use Prim.Native.Nat.{ℕ, zero, suc, ◌+◌, ◌-◌, ◌≤◌, ◌<◌}
use mathlib.Core.Path.{◌≡◌, refl}
use mathlib.Core.Bool.{Bool, true, false, cond}
use mathlib.Core.List.{List, [], ◌∷◌, ◌++◌}
use native.Mathlib.Omega.{arith}
use lib.Dec.{ltb}
use lib.ListN.{length, set, replicate}
use lib.Seq.{sets}
use Rattle.refusal.specs.Refusals.{Outcome, taken, refused, refuse_if, Ran, leaves, follow}
use Rattle.syntax.specs.Reads.{Standing, read_of}
use Rattle.refusal.proofs.TestLaws.{or_false}
use Rattle.syntax.proofs.ReadLaws.{read_taken}
use Rattle.exponents.specs.declared.ExpSet.{ExpSet}
use Rattle.tables.specs.Bands.{zeros}
use Rattle.tables.specs.Slots.{is_coupling}
use Rattle.exponents.specs.Set.{size_of, group_count, all_digits, running, off_scale, outside, spread, first_of, leading, outputs, base_of, bins_of}
use Rattle.exponents.specs.Reads.{fit_of, abs_ask, group_ask, groups_of, set_of, no_set, read_exponents_of}
use Rattle.exponents.proofs.Lists.{on_scale}
use Rattle.exponents.proofs.Turns.{groups_inside}

-- each number of a list is at most 24
abbrev pub Low : List ℕ → Type 0
Low [] = Unit {0}
Low (x ∷ xs) = (x ≤ 24) × Low xs

low_append : (xs ys : List ℕ) → Low xs → Low ys → Low (xs ++ ys)
low_append [] ys h k = k
low_append (x ∷ xs) ys h k = (h.0, low_append xs ys h.1 k)

low_replicate : (n x : ℕ) → x ≤ 24 → Low (replicate n x)
low_replicate zero x h = tt
low_replicate (suc n) x h = (h, low_replicate n x h)

low_set : (l : List ℕ) (i x : ℕ) → Low l → x ≤ 24 → Low (set l i x)
low_set [] i x h k = tt
low_set (y ∷ l) zero x h k = (k, h.1)
low_set (y ∷ l) (suc i) x h k = (h.0, low_set l i x h.1 k)

low_sets : (vs l : List ℕ) (i : ℕ) → Low l → Low vs → Low (sets l i vs)
low_sets [] l i h k = h
low_sets (v ∷ vs) l i h k = low_sets vs (set l i v) (suc i) (low_set l i v h k.0) k.1

-- results that are not outside, each repeated, after an absolute exponent of 4 bits
low_running : (e : ℕ) (ds : List ℕ) → outside e ds ≡ false → Low (running e ds)
unfolding running outside
low_running e [] h = tt
low_running e (d ∷ ds) h =
    let t = or_false (off_scale (e + d)) (outside (e + d - 2) ds) h in ((on_scale (e + d) t.0).1, low_running (e + d - 2) ds t.1)

low_spread : (g : ℕ) (es : List ℕ) → Low es → Low (spread g es)
unfolding spread
low_spread g [] h = tt
low_spread g (e ∷ es) h = low_append (replicate g e) (spread g es) (low_replicate g e h.0) (low_spread g es h.1)

low_leading : (slot abs : ℕ) → abs ≤ 24 → Low (leading slot abs)
low_leading slot abs h = go (is_coupling slot)
  where
    go : (t : Bool) → Low (cond t [] (abs ∷ []))
    go true = tt
    go false = (h, tt)

low_zeros : Low zeros
low_zeros = low_replicate 256 0 (omega arith)

-- a set after a call
low_then : {A : Type 0} (o : Outcome A) (st : Standing) (next : A → Standing → Ran Standing ExpSet)
    → ((a : A) → o ≡ taken a → Low (leaves no_set (next a st).outcome).state.exp) → Low (leaves no_set (follow o st next).outcome).state.exp
low_then (taken a) st next f = f a refl
low_then (refused g) st next f = low_zeros

pub exponents_low : (frame : List ℕ) (st : Standing) (slot strategy start end : ℕ)
    → Low (read_exponents_of frame st slot strategy start end).state.set.exp
unfolding set_of
exponents_low frame st slot strategy start end =
    low_then (fit_of st slot strategy start end).outcome st _ (λ u e.
    low_then (read_of frame st (abs_ask slot)).outcome (read_of frame st (abs_ask slot)).state _ (λ abs f.
    low_then (all abs).outcome (all abs).state _ (λ vs h. last abs vs f h (ltb (base_of slot start + length (outputs slot g abs vs)) end))))
  where
    g : ℕ
    g = size_of strategy

    all : ℕ → Ran Standing (List ℕ)
    all abs = groups_of frame (group_ask slot) (first_of slot abs) (group_count slot g start end) (read_of frame st (abs_ask slot)).state

    last : (abs : ℕ) (vs : List ℕ) → (read_of frame st (abs_ask slot)).outcome ≡ taken abs → (all abs).outcome ≡ taken vs → (t : Bool)
        → Low (leaves no_set (refuse_if t 9 (all abs).state.place.pos
        (taken (record { exp = bins_of (base_of slot start) (outputs slot g abs vs); start = start; end = end })))).state.exp
    last abs vs f h true = low_zeros
    last abs vs f h false =
        let b : abs < 16 = (read_taken frame st (abs_ask slot) abs f).below in
        low_sets (outputs slot g abs vs) zeros (base_of slot start) low_zeros
        (low_append (leading slot abs) (spread g (running (first_of slot abs) (all_digits vs))) (low_leading slot abs (omega arith))
        (low_spread g (running (first_of slot abs) (all_digits vs))
        (low_running (first_of slot abs) (all_digits vs)
        (groups_inside frame (group_ask slot) (first_of slot abs) (group_count slot g start end) (read_of frame st (abs_ask slot)).state vs h))))
