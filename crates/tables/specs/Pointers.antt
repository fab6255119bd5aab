-- Which pointers a flag asks for, and the tables of pointers by address, as document 01 writes them: value×run.
-- Assumes nothing.
use Rattle.std.specs.Prelude.{ℕ, Bool, cond, List, [], ◌∷◌, ◌++◌, replicate}
use Rattle.tables.specs.declared.Pointers.{Pointers}
use Rattle.tables.specs.declared.Pointers.TheVariants as which

-- hebap where the flag is set, and else bap
unfoldable pub pointers_by : Bool → Pointers
pointers_by high = cond high which.Hebap which.Bap

-- a value and its run, for each two numbers
abbrev pub spread : List ℕ → List ℕ
spread [] = []
spread (v ∷ []) = []
spread (v ∷ n ∷ rest) = replicate n v ++ spread rest

-- TS 6.2.2.7
abbrev pub bap_table : List ℕ
bap_table = spread (0 ∷ 1 ∷ 1 ∷ 5 ∷ 2 ∷ 2 ∷ 3 ∷ 3 ∷ 4 ∷ 2 ∷ 5 ∷ 2 ∷ 6 ∷ 4 ∷ 7 ∷ 4 ∷ 8 ∷ 4 ∷ 9 ∷ 4 ∷ 10 ∷ 4 ∷ 11 ∷ 4 ∷ 12 ∷ 4 ∷ 13 ∷ 4 ∷ 14 ∷ 8 ∷ 15 ∷ 9 ∷ [])

-- TS E.2.4.3.1
abbrev pub hebap_table : List ℕ
hebap_table = spread (0 ∷ 1 ∷ 1 ∷ 1 ∷ 2 ∷ 1 ∷ 3 ∷ 1 ∷ 4 ∷ 1 ∷ 5 ∷ 1 ∷ 6 ∷ 1 ∷ 7 ∷ 1 ∷ 8 ∷ 4 ∷ 9 ∷ 3 ∷ 10 ∷ 4 ∷ 11 ∷ 4 ∷ 12 ∷ 4 ∷ 13 ∷ 4 ∷ 14 ∷ 4 ∷ 15 ∷ 4 ∷ 16 ∷ 4 ∷ 17 ∷ 4 ∷ 18 ∷ 8 ∷ 19 ∷ 9 ∷ [])

abbrev pub table_of : Pointers → List ℕ
table_of which.Bap = bap_table
table_of which.Hebap = hebap_table
