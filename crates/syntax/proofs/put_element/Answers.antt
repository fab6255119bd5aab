-- `syntax::put_element` meets its contract: the words are the element's.
-- Assumes nothing.
use Prim.Native.Nat.{ℕ, ◌+◌, ◌*◌}
use mathlib.Core.Path.{◌≡◌, ◌∙◌, ap, ap₂, sym}
use mathlib.Core.List.{List, ◌++◌, append_assoc}
use lib.ListN.{take, drop}
use lib.Seq.{drop-drop}
use mir.Syntax.{w8, w16}
use mir.Val.{SFits}
use mir.Facts.{to_z-of_z}
use Rattle.syntax.specs.declared.Element.{Element}
use Rattle.syntax.specs.Elements.{words, written}
use borrow.Author.Rules.{rules}
use Rattle.syntax.proofs.put_element.Goals as goal

-- the words over the first eight of the rest, after the front
joined : (log front rest : List ℕ) (k : ℕ) (e : Element) → front ≡ take (8 * k) log → rest ≡ drop (8 * k) log → front ++ (words e ++ drop 8 rest) ≡ written log k e
unfolding written
joined log front rest k e f r =
    ap₂ (λ (l m : List ℕ). l ++ (words e ++ m)) f (ap (drop 8) r ∙ drop-drop 8 (8 * k) log)
    ∙ sym (append_assoc (take (8 * k) log) (words e) (drop (8 * k + 8) log))

pub returns-in-Some : goal.returns-in-Some
returns-in-Some c =
    let a = c.args in
    let h8 : SFits w8 a.e.block = search rules in
    let wide : SFits w16 a.e.block = search rules in
    let h16 : SFits w16 a.e.index = search rules in
    let parts = c.split_at_mut-rest.ensures in
    rw (c.signed_word-block.ensures, c.signed_word-index.ensures, c.role_word-role.ensures, to_z-of_z h8, to_z-of_z wide, to_z-of_z h16)
    (joined a.log.now _ _ a.k a.e parts.front parts.back)
