-- The tail of a frame (document 01, "Tail"): what reading it comes to, and the cursor's place and the log after it, for all inputs, by
-- document 01's numbers and its order of tests.
-- Assumes nothing.
use Rattle.std.specs.Prelude.{ℕ, ◌+◌, ◌-◌, Bool, true, false, cond, ◌||◌, List, length, negsuc, eqb, ltb}
use Rattle.refusal.specs.Refusals.{Outcome, taken, refuse_if, and_then, placed, Ran, ends, then_run}
use Rattle.bits.specs.Bits.{bits_at}
use Rattle.syntax.specs.declared.Role.{Role}
use Rattle.syntax.specs.declared.Role.TheVariants.{AuxBits, AuxDataL, AuxDataE, CrcRsv, Crc2}
use Rattle.syntax.specs.declared.Place.{Place}
use Rattle.syntax.specs.declared.Ask.{Ask}
use Rattle.syntax.specs.Names as names
use Rattle.syntax.specs.Reads.{Standing, standing, room, unsound, read_of, span_of}
use Rattle.syntax.specs.Tiling.{tiling_of}
use Rattle.probe.specs.declared.Codec.{Codec}
use Rattle.probe.specs.declared.Codec.TheVariants.{Ac3, Eac3}
use Rattle.frame.specs.declared.Stretch.{Stretch}

-- 6: a total above the limit, a cursor that isn't sound, or a count past the log's room
abbrev pub unfit : ℕ → ℕ → Place → ℕ → Bool
unfit len words p total = ltb p.limit total || (unsound len p || ltb (room words) p.count)

-- "The last 18 bits are auxdatae, one reserved bit, crc2"
abbrev pub last_bits : ℕ
last_bits = 18

-- "If auxdatae is 1, 14 bits of auxdatal stand before it"
abbrev pub auxdatal_bits : ℕ
auxdatal_bits = 14

-- whether auxdatae is 1
unfoldable pub has_aux : List ℕ → ℕ → Bool
has_aux frame total = eqb (bits_at frame (total - last_bits) 1) 1

-- how many bits stand behind auxbits
unfoldable pub behind : Bool → ℕ
behind aux = cond aux (auxdatal_bits + last_bits) last_bits

-- "total .. gives 6 above the limit, then 16", "total below position + 18"; then 17 where auxdatal would begin before the cursor
unfoldable pub fit_of : List ℕ → ℕ → Place → ℕ → Outcome Unit
fit_of frame words p total =
    refuse_if (unfit (length frame) words p total) 6 p.pos
    (refuse_if (ltb total (p.pos + last_bits)) 16 p.pos
    (refuse_if (ltb total (p.pos + behind (has_aux frame total))) 17 p.pos
    (taken tt)))

-- "the cursor's block becomes -1"
abbrev pub outside : Place → Place
outside p = record { pos = p.pos; limit = p.limit; block = negsuc 0; count = p.count }

-- auxbits: from the cursor on, up to what stands behind
abbrev pub auxbits : ℕ → ℕ → Bool → Stretch
auxbits pos total aux = record { start = pos; width = total - behind aux - pos }

-- "where the user bits stand, the first auxdatal bits of auxbits"
abbrev pub user_bits : Stretch → ℕ → Stretch
user_bits aux n = record { start = aux.start; width = n }

-- an element of the tail: it has no index
abbrev pub tail_ask : ℕ → Role → ℕ → Ask
tail_ask name role width = record { name = name; role = role; index = negsuc 0; width = width }

-- the reserved bit is crcrsv in AC-3 and encinfo in E-AC-3
abbrev pub reserved_name : Codec → ℕ
reserved_name Ac3 = names.crcrsv
reserved_name Eac3 = names.encinfo

-- "auxdatal (17 if above auxbits' width)", where auxdatae is 1; else none: 0
abbrev pub length_of : List ℕ → Bool → ℕ → Standing → Ran Standing ℕ
length_of frame false width st = ends st (taken 0)
length_of frame true width st =
    then_run (read_of frame st (tail_ask names.auxdatal AuxDataL auxdatal_bits)) (λ l st₁.
    ends st₁ (refuse_if (ltb width l) 17 st₁.place.pos (taken l)))

-- "auxdatae, the reserved bit, crc2"
unfoldable pub last_of : List ℕ → Codec → Standing → Ran Standing ℕ
last_of frame codec st =
    then_run (read_of frame st (tail_ask names.auxdatae AuxDataE 1)) (λ _ st₁.
    then_run (read_of frame st₁ (tail_ask (reserved_name codec) CrcRsv 1)) (λ _ st₂.
    read_of frame st₂ (tail_ask names.crc2 Crc2 16)))

-- "last, 18", at bit total; else the answer
unfoldable pub tiles_of : ℕ → Stretch → Standing → Ran Standing Stretch
tiles_of total user st = ends st (and_then (placed total (tiling_of st.log st.place.count total)) (λ _. taken user))

-- the elements in order: auxbits, auxdatal, auxdatae, the reserved bit, crc2
unfoldable pub elements_of : List ℕ → ℕ → Codec → Standing → Ran Standing Stretch
elements_of frame total codec st =
    let aux = has_aux frame total in
    let bits = auxbits st.place.pos total aux in
    then_run (span_of (length frame) st names.auxbits AuxBits bits.width) (λ _ st₁.
    then_run (length_of frame aux bits.width st₁) (λ l st₂.
    then_run (last_of frame codec st₂) (λ _ st₃.
    tiles_of total (user_bits bits l) st₃)))

-- the tail: its tests, with nothing logged where one holds, and then its elements, outside of any block
unfoldable pub tail_of : List ℕ → Standing → ℕ → Codec → Ran Standing Stretch
tail_of frame st total codec =
    then_run (ends st (fit_of frame (length st.log) st.place total)) (λ _ st₁.
    elements_of frame total codec (standing (outside st₁.place) st₁.log))
