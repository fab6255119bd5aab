-- The numbers of the names that the core itself logs, by the names of TS: what `src/names.rt` is for the code. Definitions above cite them.
-- Assumes nothing.
use Rattle.std.specs.Prelude.{ℕ}

-- exponents, of a full bandwidth channel, of coupling and of LFE (TS 6.1.3): the absolute one, and a group
abbrev pub absexp : ℕ
absexp = 1

abbrev pub exps : ℕ
exps = 2

abbrev pub cplabsexp : ℕ
cplabsexp = 3

abbrev pub cplexps : ℕ
cplexps = 4

abbrev pub lfeabsexp : ℕ
lfeabsexp = 5

abbrev pub lfeexps : ℕ
lfeexps = 6

-- delta segments (TS 6.2.2.6): how many, and of each its offset, its length and its bit allocation
abbrev pub deltnseg : ℕ
deltnseg = 16

abbrev pub deltoffst : ℕ
deltoffst = 17

abbrev pub deltlen : ℕ
deltlen = 18

abbrev pub deltba : ℕ
deltba = 19

-- the same of coupling
abbrev pub cpldeltnseg : ℕ
cpldeltnseg = 20

abbrev pub cpldeltoffst : ℕ
cpldeltoffst = 21

abbrev pub cpldeltlen : ℕ
cpldeltlen = 22

abbrev pub cpldeltba : ℕ
cpldeltba = 23

-- the tail (document 01, "Cursor, log, tail"); the reserved bit is crcrsv in AC-3 and encinfo in E-AC-3
abbrev pub auxbits : ℕ
auxbits = 32

abbrev pub auxdatal : ℕ
auxdatal = 33

abbrev pub auxdatae : ℕ
auxdatae = 34

abbrev pub crcrsv : ℕ
crcrsv = 35

abbrev pub encinfo : ℕ
encinfo = 36

abbrev pub crc2 : ℕ
crc2 = 37
