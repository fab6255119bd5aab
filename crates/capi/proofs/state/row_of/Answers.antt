-- `capi::state::row_of` meets its contract: each byte by its place.
-- Assumes nothing.
use mathlib.Core.Path.{◌≡◌, sym, ◌∙◌}
use mathlib.Core.List.{List, ◌∷◌, ◌++◌}
use Prim.Native.Nat.{ℕ}
use lib.ListN.{length, get_or}
use Rattle.alloc.specs.Table.{from, table}
use Rattle.capi.specs.States.{row_of}
use Rattle.capi.proofs.Rows.{table_all}
use borrow.Author.Rules.{rules}
use Rattle.capi.proofs.state.row_of.Goals as goal

-- the list that was copied
put : (l new : List ℕ) → length l ≡ 8 → new ≡ l → new ≡ table 8 (λ k. get_or l k 0)
put l new h e = e ∙ sym (table_all 0 l 8 h)

pub slice_bounds-row-end-3 : goal.slice_bounds-row-end-3
unfolding from
slice_bounds-row-end-3 c =
    let d = c.args.d in
    let offsets : length d.offset ≡ 8 = search rules in
    let lengths : length d.len ≡ 8 = search rules in
    rw (
      put d.offset c.copy_from_slice.new.self offsets c.copy_from_slice.ensures.after,
      put d.len c.copy_from_slice-2.new.self lengths c.copy_from_slice-2.ensures.after,
    )
    (search rules)

pub returns : goal.returns
unfolding row_of from
returns c =
    let d = c.args.d in
    let offsets : length d.offset ≡ 8 = search rules in
    let lengths : length d.len ≡ 8 = search rules in
    let bas : length d.ba ≡ 8 = search rules in
    rw (
      put d.offset c.copy_from_slice.new.self offsets c.copy_from_slice.ensures.after,
      put d.len c.copy_from_slice-2.new.self lengths c.copy_from_slice-2.ensures.after,
      put d.ba c.copy_from_slice-3.new.self bas c.copy_from_slice-3.ensures.after,
    )
    (λ i. d.count ∷ table_all 0 d.offset 8 offsets i ++ table_all 0 d.len 8 lengths i ++ table_all 0 d.ba 8 bas i)
