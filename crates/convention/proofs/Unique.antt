-- For each public function, any two results that its contract allows are equal: the number answered, and what the lent room holds.
-- Assumes nothing.
use mathlib.Core.Path.{◌≡◌, sym, ◌∙◌}
use Prim.Native.Nat.{ℕ}
use contract.Lifetimes.{Lfts}
use borrow.Fn.Kinds.{Dens, ended_of}
use denote.Triple.Clauses.{AtExit}
use mir.Syntax.{Dict}
use denote.RattleType.{RattleType}
use denote.Param.Laws.{Laws, IsCopy}
use Rattle.std.specs.declared.clone.Clone.{Ghosts}
use Rattle.refusal.specs.Refusals.{grounds}
use Rattle.refusal.proofs.Decides.{Decides}
use Rattle.convention.specs.Replies.{told, reply}
use Rattle.convention.proofs.tell.Kinds as tell-kinds
use Rattle.convention.proofs.tell.Reads as tell-reads
use Rattle.convention.proofs.reply.Kinds as reply-kinds
use Rattle.convention.proofs.reply.Reads as reply-reads
use Rattle.convention.proofs.done.Kinds as done-kinds
use Rattle.convention.proofs.done.Reads as done-reads
use Rattle.convention.proofs.got.Kinds as got-kinds
use Rattle.convention.proofs.got.Reads as got-reads
use Rattle.convention.proofs.judged.Kinds as judged-kinds
use Rattle.convention.proofs.judged.Reads as judged-reads
use Rattle.convention.proofs.codec_from.Kinds as codec-from-kinds
use Rattle.convention.proofs.codec_from.Reads as codec-from-reads
use Rattle.convention.proofs.is_eac3.Kinds as is-eac3-kinds
use Rattle.convention.proofs.is_eac3.Reads as is-eac3-reads

pub tell_one : (κs : Lfts 1) (a : Dens κs tell-kinds.ps) (x y : ℕ) (s t : AtExit (ended_of 1 tell-kinds.ps tell-kinds.r) κs)
    → tell-reads.Post κs a x s → tell-reads.Post κs a y t
    → grounds x s.1.0.now ≡ grounds y t.1.0.now
tell_one κs a x y s t p q = p ∙ sym q

pub reply_one : (T : RattleType) (l : Laws T) (c : IsCopy T) (g : Ghosts T.Denot) (d : Dict) (κs : Lfts 3) (a : Dens κs (reply-kinds.ps T l c))
    (x y : ℕ) (s t : AtExit (ended_of 3 (reply-kinds.ps T l c) (reply-kinds.r T l c)) κs)
    → reply-reads.Post T l c g d κs a x s → reply-reads.Post T l c g d κs a y t
    → reply x s.1.1.0.now s.1.1.1.0.now ≡ reply y t.1.1.0.now t.1.1.1.0.now
reply_one T l c g d κs a x y s t p q = p ∙ sym q

pub done_one : (κs : Lfts 1) (a : Dens κs done-kinds.ps) (x y : ℕ) (s t : AtExit (ended_of 1 done-kinds.ps done-kinds.r) κs)
    → done-reads.Post κs a x s → done-reads.Post κs a y t
    → told x s.1.0.now ≡ told y t.1.0.now
done_one κs a x y s t p q = p ∙ sym q

pub got_one : (κs : Lfts 2) (a : Dens κs got-kinds.ps) (x y : ℕ) (s t : AtExit (ended_of 2 got-kinds.ps got-kinds.r) κs)
    → got-reads.Post κs a x s → got-reads.Post κs a y t
    → reply x s.1.0.now s.1.1.0.now ≡ reply y t.1.0.now t.1.1.0.now
got_one κs a x y s t p q = p ∙ sym q

pub judged_one : (κs : Lfts 2) (a : Dens κs judged-kinds.ps) (x y : ℕ) (s t : AtExit (ended_of 2 judged-kinds.ps judged-kinds.r) κs)
    → judged-reads.Post κs a x s → judged-reads.Post κs a y t
    → reply x s.1.0.now s.1.1.0.now ≡ reply y t.1.0.now t.1.1.0.now
judged_one κs a x y s t p q = p ∙ sym q

pub codec_from_one : Decides 0 codec-from-kinds.ps codec-from-kinds.r codec-from-reads.Post
codec_from_one κs a x y s t p q = p ∙ sym q

pub is_eac3_one : Decides 0 is-eac3-kinds.ps is-eac3-kinds.r is-eac3-reads.Post
is_eac3_one κs a x y s t p q = p ∙ sym q
