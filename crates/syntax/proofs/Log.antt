-- The log with one element written: its length, which words are the element's, and that all others stay.
-- Assumes nothing.
use Prim.Native.Nat.{ℕ, ◌+◌, ◌-◌, ◌*◌, ◌≤◌, ◌<◌}
use mathlib.Core.Path.{◌≡◌, ◌∙◌, subst}
use mathlib.Core.List.{List, ◌++◌, append_assoc}
use native.Mathlib.Nat.{add-zero}
use native.Mathlib.Omega.{arith}
use lib.ListN.{length, get_or, take, drop, length-append, length-drop, get_or-append}
use lib.Seq.{get_or-take, get_or-drop, get_or-append-add, length-take-le}
use Rattle.syntax.specs.declared.Element.{Element}
use Rattle.syntax.specs.Elements.{words, written, decoded, Typed}
use Rattle.syntax.proofs.Roles.{role_back}
use Rattle.syntax.proofs.Signed.{index_back, block_back}

-- decode after encode is the element
pub decode_encode : (e : Element) → Typed e → decoded (words e) 0 ≡ e
decode_encode e t = rw (role_back e.role t.programme, block_back e.block t.block, index_back e.index t.index)

module _ (log : List ℕ) (k : ℕ) (e : Element) (room : 8 * k + 8 ≤ length log) where
  front : length (take (8 * k) log) ≡ 8 * k
  front = length-take-le (8 * k) log (omega arith)

  front_and : length (take (8 * k) log ++ words e) ≡ 8 * k + 8
  front_and = length-append (take (8 * k) log) (words e) ∙ rw front

  pub length_written : length (written log k e) ≡ length log
  unfolding written
  length_written =
      length-append (take (8 * k) log ++ words e) (drop (8 * k + 8) log) ∙ rw (front_and, length-drop) (omega arith)

  -- a word before the element's
  pub written_before : (i : ℕ) → i < 8 * k → get_or (written log k e) i 0 ≡ get_or log i 0
  unfolding written
  written_before i h =
      rw append_assoc (get_or-append (take (8 * k) log) _ 0 i (omega (arith, front)) ∙ get_or-take (8 * k) log i 0 h)

  -- a word of the element
  pub written_at : (i : ℕ) → i < 8 → get_or (written log k e) (8 * k + i) 0 ≡ get_or (words e) i 0
  unfolding written
  written_at i h =
      rw append_assoc
      (subst (λ (n : ℕ). get_or (take (8 * k) log ++ (words e ++ drop (8 * k + 8) log)) (n + i) 0 ≡ get_or (words e) i 0) front
      (get_or-append-add (take (8 * k) log) (words e ++ drop (8 * k + 8) log) i 0 ∙ get_or-append (words e) (drop (8 * k + 8) log) 0 i h))

  -- a word after it
  pub written_after : (i : ℕ) → 8 * k + 8 ≤ i → get_or (written log k e) i 0 ≡ get_or log i 0
  unfolding written
  written_after i h =
      let j = i - (8 * k + 8) in
      let s : 8 * k + 8 + j ≡ i = omega arith in
      let a : get_or (take (8 * k) log ++ words e ++ drop (8 * k + 8) log) (8 * k + 8 + j) 0 ≡ get_or log (8 * k + 8 + j) 0 =
      subst (λ (n : ℕ). get_or (take (8 * k) log ++ words e ++ drop (8 * k + 8) log) (n + j) 0 ≡ get_or log (8 * k + 8 + j) 0) front_and
      (get_or-append-add (take (8 * k) log ++ words e) (drop (8 * k + 8) log) j 0 ∙ get_or-drop (8 * k + 8) log j 0) in
      rw s at a

  -- the element is read back
  pub decoded_written : Typed e → decoded (written log k e) k ≡ e
  decoded_written t =
      let n : get_or (written log k e) (8 * k) 0 ≡ e.name = rw (add-zero (8 * k)) at (written_at 0 (omega arith)) in
      rw (
        n,
        written_at 1 (omega arith),
        written_at 2 (omega arith),
        written_at 3 (omega arith),
        written_at 4 (omega arith),
        written_at 5 (omega arith),
        written_at 6 (omega arith),
      )
      (decode_encode e t)
