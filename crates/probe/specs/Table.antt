-- The words of an AC-3 frame as TS prints them (table 4.13), and what it is for the rule to be that table.
-- Assumes nothing.
use Rattle.std.specs.Prelude.{ℕ, zero, suc, List, [], ◌∷◌, ◌++◌, ◌≡◌}
use Rattle.probe.specs.Probe.{words_of}

-- for each frmsizecod from 0 to 37 three numbers: fscod 0 (48 kHz), 1 (44.1 kHz), 2 (32 kHz)
abbrev pub printed : List ℕ
printed =
    64 ∷ 69 ∷ 96 ∷
    64 ∷ 70 ∷ 96 ∷
    80 ∷ 87 ∷ 120 ∷
    80 ∷ 88 ∷ 120 ∷
    96 ∷ 104 ∷ 144 ∷
    96 ∷ 105 ∷ 144 ∷
    112 ∷ 121 ∷ 168 ∷
    112 ∷ 122 ∷ 168 ∷
    128 ∷ 139 ∷ 192 ∷
    128 ∷ 140 ∷ 192 ∷
    160 ∷ 174 ∷ 240 ∷
    160 ∷ 175 ∷ 240 ∷
    192 ∷ 208 ∷ 288 ∷
    192 ∷ 209 ∷ 288 ∷
    224 ∷ 243 ∷ 336 ∷
    224 ∷ 244 ∷ 336 ∷
    256 ∷ 278 ∷ 384 ∷
    256 ∷ 279 ∷ 384 ∷
    320 ∷ 348 ∷ 480 ∷
    320 ∷ 349 ∷ 480 ∷
    384 ∷ 417 ∷ 576 ∷
    384 ∷ 418 ∷ 576 ∷
    448 ∷ 487 ∷ 672 ∷
    448 ∷ 488 ∷ 672 ∷
    512 ∷ 557 ∷ 768 ∷
    512 ∷ 558 ∷ 768 ∷
    640 ∷ 696 ∷ 960 ∷
    640 ∷ 697 ∷ 960 ∷
    768 ∷ 835 ∷ 1152 ∷
    768 ∷ 836 ∷ 1152 ∷
    896 ∷ 975 ∷ 1344 ∷
    896 ∷ 976 ∷ 1344 ∷
    1024 ∷ 1114 ∷ 1536 ∷
    1024 ∷ 1115 ∷ 1536 ∷
    1152 ∷ 1253 ∷ 1728 ∷
    1152 ∷ 1254 ∷ 1728 ∷
    1280 ∷ 1393 ∷ 1920 ∷
    1280 ∷ 1394 ∷ 1920 ∷ []

-- the rule's numbers for the first n frmsizecods, in the same order
unfoldable pub ruled : ℕ → List ℕ
ruled zero = []
ruled (suc n) = ruled n ++ (words_of 0 n ∷ words_of 1 n ∷ words_of 2 n ∷ [])

-- the rule's numbers are the printed ones, all 114 of them
abbrev pub AsPrinted : Type 0
AsPrinted = ruled 38 ≡ printed
