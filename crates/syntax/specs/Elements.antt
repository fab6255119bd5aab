-- Elements, and the eight words by which a log holds each (document 01, "Cursor, log, tail": "An element has name number, role,
-- block (-1 outside), index, position, width, value (0 for spans)").
-- Assumes nothing.
use Rattle.std.specs.Prelude.{ℕ, suc, ◌+◌, ◌-◌, ◌*◌, ◌/◌, ◌%◌, ◌<◌, List, [], ◌∷◌, ◌++◌, Bool, false, cond, ◌||◌, get_or, take, drop, ltb, eqb, ℤ, pos, negsuc}
use Rattle.std.specs.Int.{w8, w16}
use Rattle.std.proofs.Common.{SFits}
use Rattle.syntax.specs.declared.Role.{Role}
use Rattle.syntax.specs.declared.Role.TheVariants.{Plain, Sync, Crc1, Crc2, CrcRsv, FrameSize, Dialnorm, ComprExists, Compr, DynrngExists, Dynrng, Skiple, Skipl, Skipfld, Addbsi, Mantissas, AuxBits, AuxDataL, AuxDataE, BlkStrtInfoE, BlkStrtInfo}
use Rattle.syntax.specs.declared.Element.{Element}

-- a role's number
abbrev pub role_number : Role → ℕ
role_number Plain = 0
role_number Sync = 1
role_number Crc1 = 2
role_number Crc2 = 3
role_number CrcRsv = 4
role_number FrameSize = 5
role_number (Dialnorm p) = 6
role_number (ComprExists p) = 7
role_number (Compr p) = 8
role_number (DynrngExists p) = 9
role_number (Dynrng p) = 10
role_number Skiple = 11
role_number Skipl = 12
role_number Skipfld = 13
role_number Addbsi = 14
role_number Mantissas = 15
role_number AuxBits = 16
role_number AuxDataL = 17
role_number AuxDataE = 18
role_number BlkStrtInfoE = 19
role_number BlkStrtInfo = 20

-- "An element's role may carry its programme": 0 where it carries none
abbrev pub programme_of : Role → ℕ
programme_of Plain = 0
programme_of Sync = 0
programme_of Crc1 = 0
programme_of Crc2 = 0
programme_of CrcRsv = 0
programme_of FrameSize = 0
programme_of (Dialnorm p) = p
programme_of (ComprExists p) = p
programme_of (Compr p) = p
programme_of (DynrngExists p) = p
programme_of (Dynrng p) = p
programme_of Skiple = 0
programme_of Skipl = 0
programme_of Skipfld = 0
programme_of Addbsi = 0
programme_of Mantissas = 0
programme_of AuxBits = 0
programme_of AuxDataL = 0
programme_of AuxDataE = 0
programme_of BlkStrtInfoE = 0
programme_of BlkStrtInfo = 0

-- the word of a role
abbrev pub role_word : Role → ℕ
role_word r = role_number r + 32 * programme_of r

-- the roles in the order of their numbers, with programme p
abbrev pub roles : ℕ → List Role
roles p =
    Plain ∷ Sync ∷ Crc1 ∷ Crc2 ∷ CrcRsv ∷ FrameSize ∷ Dialnorm p ∷ ComprExists p ∷ Compr p ∷ DynrngExists p ∷ Dynrng p ∷
    Skiple ∷ Skipl ∷ Skipfld ∷ Addbsi ∷ Mantissas ∷ AuxBits ∷ AuxDataL ∷ AuxDataE ∷ BlkStrtInfoE ∷ BlkStrtInfo ∷ []

-- the role of a word; a number that no role has is Plain
abbrev pub role_of : ℕ → Role
role_of w = get_or (roles (w / 32 % 256)) (w % 32) Plain

-- whether a role is one of some, whatever programme each carries
unfoldable pub among : Role → List Role → Bool
among r [] = false
among r (s ∷ rs) = eqb (role_number r) (role_number s) || among r rs

-- elements that hold a gain word or its presence flag
abbrev pub is_drc : Role → Bool
is_drc r = among r (ComprExists 0 ∷ Compr 0 ∷ DynrngExists 0 ∷ Dynrng 0 ∷ [])

-- elements whose value is a checksum over the frame
abbrev pub is_checksum : Role → Bool
is_checksum r = among r (Crc1 ∷ Crc2 ∷ [])

-- spans, whose content is compared bit by bit
abbrev pub is_span : Role → Bool
is_span r = among r (Skipfld ∷ Addbsi ∷ Mantissas ∷ AuxBits ∷ [])

-- the bit after an element
abbrev pub end_of : Element → ℕ
end_of e = e.pos + e.width

-- a block or an index as a word: two's complement in 16 bits
abbrev pub signed_word : ℤ → ℕ
signed_word (pos n) = n
signed_word (negsuc n) = 65536 - suc n

-- the number of a word's low bits in two's complement, whose negative numbers begin at half: 128 for a block, 32,768 for an index
unfoldable pub signed_of : ℕ → ℕ → ℤ
signed_of half w =
    cond (ltb (w % (2 * half)) half)
    (pos (w % (2 * half)))
    (negsuc (2 * half - 1 - w % (2 * half)))

-- an element's eight words; the last is kept for later use
abbrev pub words : Element → List ℕ
words e =
    e.name ∷ role_word e.role ∷ signed_word e.block ∷ signed_word e.index ∷ e.pos ∷ e.width ∷ e.value ∷ 0 ∷ []

-- the element of the eight words at place k of a log
abbrev pub decoded : List ℕ → ℕ → Element
decoded log k =
    record {
      name = get_or log (8 * k) 0;
      role = role_of (get_or log (8 * k + 1) 0);
      block = signed_of 128 (get_or log (8 * k + 2) 0);
      index = signed_of 32768 (get_or log (8 * k + 3) 0);
      pos = get_or log (8 * k + 4) 0;
      width = get_or log (8 * k + 5) 0;
      value = get_or log (8 * k + 6) 0;
    }

-- the log with an element's words at place k, all else as it was
unfoldable pub written : List ℕ → ℕ → Element → List ℕ
written log k e = take (8 * k) log ++ words e ++ drop (8 * k + 8) log

-- what an element's type gives: its programme is a byte, its block has 8 bits, its index 16
pub record Typed (e : Element) : Type 0 where
  pub programme : programme_of e.role < 256
  pub block : SFits w8 e.block
  pub index : SFits w16 e.index
