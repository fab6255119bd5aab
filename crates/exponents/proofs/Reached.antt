-- Whatever every read keeps is kept by reading a set, taken or refused: the log so far tiles the bits below the place, the count is within
-- the room, and limit, block and the log's length are as they were.
-- Assumes nothing.
use Prim.Native.Nat.{ℕ, zero, suc}
use mathlib.Core.Path.{◌≡◌, refl, ◌∙◌}
use mathlib.Core.List.{List}
use lib.ListN.{length}
use Rattle.refusal.proofs.Laws.{then_keeps}
use Rattle.syntax.specs.declared.Ask.{Ask}
use Rattle.syntax.specs.Reads.{Standing, read_of}
use Rattle.syntax.specs.Tiling.{Reached}
use Rattle.syntax.proofs.Reached.{read_reached}
use Rattle.syntax.proofs.ReadLaws.{Roomy, read_room, read_keeps}
use Rattle.exponents.specs.Set.{size_of, group_count, first_of}
use Rattle.exponents.specs.Reads.{fit_of, abs_ask, group_ask, group_of, groups_of, set_of, read_exponents_of}

module _ (frame : List ℕ) (P : Standing → Type 0) (read : (st : Standing) (a : Ask) → P st → P (read_of frame st a).state) where
  group_keeps : (ask : Ask) (e : ℕ) (vs : List ℕ) (st : Standing) → P st → P (group_of frame ask e vs st).state
  unfolding group_of
  group_keeps ask e vs st h = then_keeps P (read_of frame st ask) _ (read st ask h) (λ v st₁ k. k)

  groups_keep : (ask : Ask) (e n : ℕ) (st : Standing) → P st → P (groups_of frame ask e n st).state
  unfolding groups_of
  groups_keep ask e zero st h = h
  groups_keep ask e (suc n) st h =
      then_keeps P (groups_of frame ask e n st) (group_of frame ask e) (groups_keep ask e n st h) (group_keeps ask e)

  pub exponents_keep : (st : Standing) (slot strategy start end : ℕ) → P st → P (read_exponents_of frame st slot strategy start end).state.standing
  unfolding set_of
  exponents_keep st slot strategy start end h =
      then_keeps P (fit_of st slot strategy start end) _ h (λ u st₀ k.
      then_keeps P (read_of frame st₀ (abs_ask slot)) _ (read st₀ (abs_ask slot) k) (λ abs st₁ l.
      then_keeps P (groups_of frame (group_ask slot) (first_of slot abs) (group_count slot (size_of strategy) start end) st₁) _
      (groups_keep (group_ask slot) (first_of slot abs) (group_count slot (size_of strategy) start end) st₁ l) (λ vs st₂ m. m)))

-- limit, block and the log's length are the same
pub record Same (st s : Standing) : Type 0 where
  pub limit : s.place.limit ≡ st.place.limit
  pub block : s.place.block ≡ st.place.block
  pub words : length s.log ≡ length st.log

module _ (frame : List ℕ) (st : Standing) (slot strategy start end : ℕ) where
  pub exponents_reached : Reached st → Reached (read_exponents_of frame st slot strategy start end).state.standing
  exponents_reached = exponents_keep frame Reached (read_reached frame) st slot strategy start end

  pub exponents_room : Roomy st → Roomy (read_exponents_of frame st slot strategy start end).state.standing
  exponents_room = exponents_keep frame Roomy (read_room frame) st slot strategy start end

  pub exponents_same : Same st (read_exponents_of frame st slot strategy start end).state.standing
  exponents_same =
      exponents_keep frame (Same st)
      (λ s a k. let r = read_keeps frame s a in record { limit = r.limit ∙ k.limit; block = r.block ∙ k.block; words = r.len ∙ k.words })
      st slot strategy start end (record { limit = refl; block = refl; words = refl })
