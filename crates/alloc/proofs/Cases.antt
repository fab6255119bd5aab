-- Each case of what `allocate` answers, as the code meets it.
-- Assumes nothing.
use Prim.Native.Nat.{ℕ, ◌-◌, ◌≤◌, ◌<◌}
use mathlib.Core.Path.{◌≡◌, subst, sym, ap, refl}
use mathlib.Core.List.{List}
use mathlib.Core.Bool.{Bool, true, false, not}
use lib.Dec.{T, eqb, eqb→eq}
use lib.ListN.{length}
use borrow.Author.Tests.{le-leb, lt-leb, le-ltb, lt-ltb}
use Rattle.refusal.specs.Refusals.{Outcome, taken, refused, grounds, refuse_if, and_then}
use Rattle.alloc.specs.declared.Codes.{Codes}
use Rattle.std.specs.Prelude.{Option}
use Rattle.alloc.specs.declared.Leak.{Leak}
use Rattle.tables.specs.declared.Delta.{Delta}
use Rattle.tables.specs.declared.Pointers.{Pointers}
use Rattle.alloc.specs.declared.Curve.{Curve}
use Rattle.alloc.specs.declared.Levels.{Levels}
use Rattle.alloc.specs.declared.Parameters.{Parameters}
use Rattle.alloc.specs.declared.Carried.{Carried}
use Rattle.alloc.specs.Params.{curve_of, levels_of, start_of, decoded_of}
use Rattle.tables.specs.Pointers.{table_of}
use Rattle.alloc.specs.Channel.{pointers_of}
use Rattle.tables.specs.Bands.{zeros}
use Rattle.tables.specs.Fits.{upto, lent_fits, tables_fit, delta_fits}
use Rattle.alloc.specs.Answers.{channel_of, filled, allocate_of}
use Rattle.refusal.proofs.TestLaws.{and_left, and_right}

-- a channel whose parameters are decoded
module _ (exp : List ℕ) (start end : ℕ) (c : Curve) (v : Levels) (s : Carried) (d : Delta) (which : Pointers) (hearing log_add : List ℕ) where
  pub channel_empty : end ≤ start → taken zeros ≡ channel_of exp start end c v s d which hearing log_add
  unfolding channel_of
  channel_empty h = rw (le-leb end start h)

  pub channel-6 : start < end → 253 < end → refused (grounds 6 0) ≡ channel_of exp start end c v s d which hearing log_add
  unfolding channel_of
  channel-6 h k = rw (lt-leb end start h, lt-ltb 253 end k)

  pub channel-8 : start < end → end ≤ 253 → upto 24 exp start (end - start) ≡ false
      → refused (grounds 8 0) ≡ channel_of exp start end c v s d which hearing log_add
  unfolding channel_of
  channel-8 h k u = rw (lt-leb end start h, le-ltb 253 end k, u)

  pub channel_done : start < end → end ≤ 253 → upto 24 exp start (end - start) ≡ true
      → taken (pointers_of exp log_add hearing (table_of which) start end c s v d) ≡ channel_of exp start end c v s d which hearing log_add
  unfolding channel_of
  channel_done h k u = rw (lt-leb end start h, le-ltb 253 end k, u)

-- tables that fit have their lengths
fits_length : (n top : ℕ) (l : List ℕ) → lent_fits n top l ≡ true → length l ≡ n
unfolding lent_fits
fits_length n top l e = eqb→eq (length l) n (subst T (sym (and_left (eqb (length l) n) (upto top l 0 n) e)) tt)

pub tables_lengths : (hearing log_add : List ℕ) → tables_fit hearing log_add ≡ true → (length hearing ≡ 150) × (length log_add ≡ 256)
unfolding tables_fit
tables_lengths hearing log_add e = (
  fits_length 150 4095 hearing (and_left (lent_fits 150 4095 hearing) (lent_fits 256 64 log_add) e),
  fits_length 256 64 log_add (and_right (lent_fits 150 4095 hearing) (lent_fits 256 64 log_add) e),
)

-- the whole
module _ (exp : List ℕ) (start end : ℕ) (codes : Codes) (leak : Option Leak) (delta : Delta) (which : Pointers) (hearing log_add : List ℕ) where
  pub unfit : tables_fit hearing log_add ≡ false → filled (refused (grounds 21 0)) ≡ allocate_of exp start end codes leak delta which hearing log_add
  unfolding allocate_of
  unfit t = rw t

  -- a channel that follows the parameters at once follows them one by one
  by_parts : {A : Type 0} (x : Outcome Curve) (y : Outcome Levels) (z : Outcome Carried) (b : Bool) (f : Curve → Levels → Carried → Delta → Outcome A)
      → and_then (and_then x (λ c. and_then y (λ v. and_then z (λ s. refuse_if b 11 0 (taken (record { curve = c; levels = v; begun = s; delta = delta }))))))
      (λ (p : Parameters). f p.curve p.levels p.begun p.delta)
      ≡ and_then x (λ c. and_then y (λ v. and_then z (λ s. refuse_if b 11 0 (f c v s delta))))
  by_parts (refused g) y z b f = refl
  by_parts (taken c) (refused g) z b f = refl
  by_parts (taken c) (taken v) (refused g) b f = refl
  by_parts (taken c) (taken v) (taken s) true f = refl
  by_parts (taken c) (taken v) (taken s) false f = refl

  module _ (t : tables_fit hearing log_add ≡ true) where
    at_once : filled (and_then (decoded_of codes leak delta) (λ (p : Parameters). channel_of exp start end p.curve p.levels p.begun p.delta which hearing log_add))
        ≡ allocate_of exp start end codes leak delta which hearing log_add
    unfolding allocate_of decoded_of
    at_once = rw t (ap (λ o. filled o) (by_parts (curve_of codes) (levels_of codes) (start_of leak) (not (delta_fits delta)) (λ c v s d. channel_of exp start end c v s d which hearing log_add)))

    pub code_past : refused (grounds 11 0) ≡ decoded_of codes leak delta
        → filled (refused (grounds 11 0)) ≡ allocate_of exp start end codes leak delta which hearing log_add
    code_past q = rw (← q) at at_once

    pub all_decoded : (p : Parameters) → taken p ≡ decoded_of codes leak delta
        → filled (channel_of exp start end p.curve p.levels p.begun p.delta which hearing log_add) ≡ allocate_of exp start end codes leak delta which hearing log_add
    all_decoded p q = rw (← q) at at_once
