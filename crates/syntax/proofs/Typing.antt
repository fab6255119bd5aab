-- The functions' own elements are typed: their parameters' types say so. So `element_at`, over the log that a function left, is the
-- element that it has just logged.
-- Assumes nothing.
use Prim.Native.Nat.{ℕ, ◌-◌, ◌<◌}
use mathlib.Core.Path.{◌≡◌, sym, ap, ◌∙◌}
use mathlib.Core.List.{List}
use native.Mathlib.Omega.{arith}
use borrow.Author.Rules.{rules}
use contract.Lifetimes.{Lfts}
use borrow.Fn.Kinds.{Dens, GoodsP, ended_of}
use denote.Triple.Clauses.{AtExit}
use lib.ListN.{length}
use denote.Shadow.{shadow}
use mir.Val.{Val}
use Rattle.syntax.specs.declared.Role.{Role}
use Rattle.syntax.specs.declared.Role.TheVariants.{Plain, Sync, Crc1, Crc2, CrcRsv, FrameSize, Dialnorm, ComprExists, Compr, DynrngExists, Dynrng, Skiple, Skipl, Skipfld, Addbsi, Mantissas, AuxBits, AuxDataL, AuxDataE, BlkStrtInfoE, BlkStrtInfo}
use Rattle.syntax.specs.Elements.{programme_of, Typed}
use Rattle.syntax.specs.declared.Moved.{Moved}
use Rattle.syntax.specs.Reads.{Standing, standing, element_of, span_ask}
use Rattle.syntax.specs.Tiling.{element_at}
use Rattle.refusal.specs.Refusals.{taken, Ran, outcome_of}
use Rattle.syntax.proofs.ReadBack.{read_back_lem, span_back, close_back}
use Rattle.syntax.specs.contracts.Role as role
use Rattle.syntax.proofs.end.Kinds as end-kinds
use Rattle.syntax.proofs.read_element.Kinds as read-element-kinds
use Rattle.syntax.proofs.read_element.Reads as read-element-reads
use Rattle.syntax.proofs.span.Kinds as span-kinds
use Rattle.syntax.proofs.span.Reads as span-reads
use Rattle.syntax.proofs.close_span.Kinds as close-span-kinds
use Rattle.syntax.proofs.close_span.Reads as close-span-reads

-- a role that the code holds carries a byte
role_typed : (r : Role) (us : List Val) → shadow ((role.the_row).own_val r us) → programme_of r < 256
role_typed Plain us s = omega arith
role_typed Sync us s = omega arith
role_typed Crc1 us s = omega arith
role_typed Crc2 us s = omega arith
role_typed CrcRsv us s = omega arith
role_typed FrameSize us s = omega arith
role_typed (Dialnorm p) us s = omega arith
role_typed (ComprExists p) us s = omega arith
role_typed (Compr p) us s = omega arith
role_typed (DynrngExists p) us s = omega arith
role_typed (Dynrng p) us s = omega arith
role_typed Skiple us s = omega arith
role_typed Skipl us s = omega arith
role_typed Skipfld us s = omega arith
role_typed Addbsi us s = omega arith
role_typed Mantissas us s = omega arith
role_typed AuxBits us s = omega arith
role_typed AuxDataL us s = omega arith
role_typed AuxDataE us s = omega arith
role_typed BlkStrtInfoE us s = omega arith
role_typed BlkStrtInfo us s = omega arith

-- any element that the code holds, as the parameter of `end`, is typed, so its words decode to it
pub element_typed : (κs : Lfts 0) (a : Dens κs end-kinds.ps) → GoodsP κs end-kinds.ps a → Typed a.0
element_typed κs a g = record { programme = role_typed a.0.role _ g.0.1.1.1.0; block = search rules; index = search rules }

-- of the parameters of `read_element`: frame, log, place, ask
pub read_typed : (κs : Lfts 2) (a : Dens κs read-element-kinds.ps) → GoodsP κs read-element-kinds.ps a
    → (v : ℕ) → Typed (element_of a.1.1.0 a.1.1.0.pos a.1.1.1.0 v)
read_typed κs a g v = record { programme = role_typed a.1.1.1.0.role _ g.1.1.1.0.1.1.1.0; block = search rules; index = search rules }

-- of the parameters of `span`: frame, log, place, name, role, width
pub span_typed : (κs : Lfts 2) (a : Dens κs span-kinds.ps) → GoodsP κs span-kinds.ps a
    → Typed (element_of a.1.1.0 a.1.1.0.pos (span_ask a.1.1.1.0 a.1.1.1.1.0 a.1.1.1.1.1.0) 0)
span_typed κs a g = record { programme = role_typed a.1.1.1.1.0 _ g.1.1.1.1.0; block = search rules; index = search rules }

-- of the parameters of `close_span`: frame, log, place, name, role, start
pub close_typed : (κs : Lfts 2) (a : Dens κs close-span-kinds.ps) → GoodsP κs close-span-kinds.ps a
    → Typed (element_of a.1.1.0 a.1.1.1.1.1.0 (span_ask a.1.1.1.0 a.1.1.1.1.0 (a.1.1.0.pos - a.1.1.1.1.1.0)) 0)
close_typed κs a g = record { programme = role_typed a.1.1.1.1.0 _ g.1.1.1.1.0; block = search rules; index = search rules }

-- after `read_element` that answered v: the log at exit, with the count of the place answered, has the element at the old count
pub read_element_back : (κs : Lfts 2) (a : Dens κs read-element-kinds.ps) (x : Moved ℕ)
    (s : AtExit (ended_of 2 read-element-kinds.ps read-element-kinds.r) κs) (v : ℕ)
    → GoodsP κs read-element-kinds.ps a → read-element-reads.Post κs a x s → outcome_of x.answer ≡ taken v
    → element_at s.1.0.now x.place.count a.1.1.0.count ≡ taken (element_of a.1.1.0 a.1.1.0.pos a.1.1.1.0 v)
read_element_back κs a x s v g p h =
    ap (λ (w : Ran Standing ℕ). element_at w.state.log w.state.place.count a.1.1.0.count) p
    ∙ read_back_lem a.0.now (standing a.1.1.0 a.1.0.now) a.1.1.1.0 v (read_typed κs a g v) (sym (ap (λ w. w.outcome) p) ∙ h)

-- after `span`
pub span_element_back : (κs : Lfts 2) (a : Dens κs span-kinds.ps) (x : Moved Unit) (s : AtExit (ended_of 2 span-kinds.ps span-kinds.r) κs)
    → GoodsP κs span-kinds.ps a → span-reads.Post κs a x s → outcome_of x.answer ≡ taken tt
    → element_at s.1.0.now x.place.count a.1.1.0.count
    ≡ taken (element_of a.1.1.0 a.1.1.0.pos (span_ask a.1.1.1.0 a.1.1.1.1.0 a.1.1.1.1.1.0) 0)
span_element_back κs a x s g p h =
    ap (λ (w : Ran Standing Unit). element_at w.state.log w.state.place.count a.1.1.0.count) p
    ∙ span_back (length a.0.now) (standing a.1.1.0 a.1.0.now) a.1.1.1.0 a.1.1.1.1.0 a.1.1.1.1.1.0
    (span_typed κs a g) (sym (ap (λ w. w.outcome) p) ∙ h)

-- after `close_span`
pub close_element_back : (κs : Lfts 2) (a : Dens κs close-span-kinds.ps) (x : Moved Unit)
    (s : AtExit (ended_of 2 close-span-kinds.ps close-span-kinds.r) κs)
    → GoodsP κs close-span-kinds.ps a → close-span-reads.Post κs a x s → outcome_of x.answer ≡ taken tt
    → element_at s.1.0.now x.place.count a.1.1.0.count
    ≡ taken (element_of a.1.1.0 a.1.1.1.1.1.0 (span_ask a.1.1.1.0 a.1.1.1.1.0 (a.1.1.0.pos - a.1.1.1.1.1.0)) 0)
close_element_back κs a x s g p h =
    ap (λ (w : Ran Standing Unit). element_at w.state.log w.state.place.count a.1.1.0.count) p
    ∙ close_back (length a.0.now) (standing a.1.1.0 a.1.0.now) a.1.1.1.0 a.1.1.1.1.0 a.1.1.1.1.1.0
    (close_typed κs a g) (sym (ap (λ w. w.outcome) p) ∙ h)
