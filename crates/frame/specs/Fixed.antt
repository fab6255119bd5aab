-- Document 01, "Fixed values": K1 to K12, and the row 4 then 4, as one list over the definitions of all layers.
-- Assumes nothing.
use Rattle.std.specs.Prelude.{ℕ, ◌+◌, ◌-◌, ◌*◌, ◌/◌, ◌%◌, ◌≡◌, List, [], ◌∷◌, ◌++◌, map, length, replicate, take, pos, negsuc}
use Rattle.refusal.specs.Refusals.{Outcome, taken, refused, grounds, and_then}
use Rattle.crc.specs.Crc.{crc_of}
use Rattle.syntax.specs.declared.Place.{Place}
use Rattle.syntax.specs.Reads.{standing}
use Rattle.tables.specs.Codes.{snr_of}
use Rattle.walks.specs.Row.{Item, walk, row_of}
use Rattle.aht.specs.Aht.{aht_of}
use Rattle.exponents.specs.Reads.{read_exponents_of}
use Rattle.probe.specs.declared.Codec.TheVariants.{Ac3}
use Rattle.probe.specs.Probe.{probe_of}

-- a fixed value: what the definitions give, and what the document says
pub record Fixed : Type 1 where
  pub of : Type 0
  pub given : of
  pub says : of

abbrev pub fixed : {A : Type 0} → A → A → Fixed
fixed {A} given says = record { of = A; given = given; says = says }

-- all of a list are what the document says
abbrev pub Hold : List Fixed → Type 0
Hold [] = Unit
Hold (k ∷ ks) = (k.given ≡ k.says) × Hold ks

-- a cursor at bit 0 of so many bytes, with no element logged
abbrev pub start : ℕ → Place
start bytes = record { pos = 0; limit = 8 * bytes; block = pos 0; count = 0 }

-- the bins of a channel that begin with some codes; all others are 0
abbrev pub channel : List ℕ → List ℕ
channel cs = cs ++ replicate (256 - length cs) 0

-- where a row of walks over codes ends
abbrev pub row : List (List ℕ) → Outcome ℕ
row css =
    let walks : List Item = map (λ (cs : List ℕ). walk (record { bap = channel cs; start = 0; end = length cs })) css in
    let r = row_of (replicate 64 0) (standing (start 64) []) walks in
    and_then r.outcome (λ _. taken r.state.standing.place.pos)

-- the exponents of slot 0, D15, bins 0 to 4, from an absolute exponent of 4 bits and a group of 7
abbrev pub exponents : ℕ → ℕ → Outcome (List ℕ)
exponents abs group =
    let bits = (128 * abs + group) * 32 in
    let r = read_exponents_of (bits / 256 ∷ bits % 256 ∷ []) (standing (start 2) (replicate 16 0)) 0 1 0 4 in
    and_then r.outcome (λ _. taken (take 4 r.state.set.exp))

-- where an AHT walk over one bin of hebap h ends
abbrev pub aht : List ℕ → ℕ → Outcome ℕ
aht bytes h =
    let r = aht_of bytes (start (length bytes)) (channel (h ∷ [])) 0 1 in
    and_then r.outcome (λ _. taken r.state.pos)

-- six bytes of AC-3, with byte 4 given
abbrev pub head : ℕ → List ℕ
head b = 0x0B ∷ 0x77 ∷ 0x00 ∷ 0x00 ∷ b ∷ 0x40 ∷ []

abbrev pub K : List Fixed
K =
    -- K1 codes 1,1,1,1: 10 bits
    fixed (row ((1 ∷ 1 ∷ 1 ∷ 1 ∷ []) ∷ [])) (taken 10) ∷
    -- K2 codes 1,2,4,3,0,15: 38
    fixed (row ((1 ∷ 2 ∷ 4 ∷ 3 ∷ 0 ∷ 15 ∷ []) ∷ [])) (taken 38) ∷
    -- K3 walks 4 then 4,4: 14
    fixed (row ((4 ∷ []) ∷ (4 ∷ 4 ∷ []) ∷ [])) (taken 14) ∷
    -- walks 4 then 4: 7, which tells shared groups from groups that begin anew
    fixed (row ((4 ∷ []) ∷ (4 ∷ []) ∷ [])) (taken 7) ∷
    -- K4 slot 0, D15, 0..4, absolute 5, group 62: 5,5,5,5
    fixed (exponents 5 62) (taken (5 ∷ 5 ∷ 5 ∷ 5 ∷ [])) ∷
    -- K5 group 124: 5,7,9,11
    fixed (exponents 5 124) (taken (5 ∷ 7 ∷ 9 ∷ 11 ∷ [])) ∷
    -- K6 group 125: 7
    fixed (exponents 5 125) (refused (grounds 7 11)) ∷
    -- K7 absolute 1, group 0: 8
    fixed (exponents 1 0) (refused (grounds 8 11)) ∷
    -- K8 CRC of byte 0x01: 0x8005
    fixed (crc_of 0 (0x01 ∷ [])) 0x8005 ∷
    -- K9 offsets: -960 for 0,0; 3132 for 63,15
    fixed (snr_of 0 0) (taken (negsuc 959)) ∷
    fixed (snr_of 63 15) (taken (pos 3132)) ∷
    -- K10 AHT gaqmod 0, one hebap 8: 20 bits
    fixed (aht (0x00 ∷ 0x00 ∷ 0x00 ∷ 0x00 ∷ []) 8) (taken 20) ∷
    -- K11 gaqmod 2, hebap 8, G4, six tags: 27
    fixed (aht (0xB1 ∷ 0x11 ∷ 0x11 ∷ 0x00 ∷ []) 8) (taken 27) ∷
    -- K12 bytes 0B 77 00 00 00 40: AC-3, 128; byte 4 at 0x41: 140; at 0x26: 4
    fixed (probe_of (head 0x00)) (taken (record { codec = Ac3; bytes = 128 })) ∷
    fixed (probe_of (head 0x41)) (taken (record { codec = Ac3; bytes = 140 })) ∷
    fixed (probe_of (head 0x26)) (refused (grounds 4 0)) ∷ []

-- the statement: every fixed value is what the document says
abbrev pub FixedValues : Type 0
FixedValues = Hold K
