-- A function over a struct that holds a reference is proved by hand, and its contract has no plain reading: what it says is an
-- assertion of the logic. That it allows one result is then said over the clauses themselves.
-- Assumes nothing.
use seplogic.Ra.Ura.{Ura}
use base.Logic.{ent, sep, fst∗, snd∗}
use contract.Lifetimes.{Lfts}
use contract.Monad.{fact, fact_i, fact_use}
use denote.Triple.Clauses.{Ended, Clauses, AtExit}
use denote.Triple.Entry.{Args, Res}

-- any two results that the clauses allow, with the parameters at exit, are the same
abbrev pub Agree : {M : Type 1} (𝓤 : Ura M) (T : Ended) → Clauses 𝓤 T → ((κs : Lfts T.signature.lifetimes) (x y : Res T.signature κs) (s t : AtExit T κs) → Type 0) → Type 1
Agree 𝓤 T c Same =
    (κs : Lfts T.signature.lifetimes) (a : Args T.signature κs) (g h : (c κs a).ghost) (x y : Res T.signature κs) (s t : AtExit T κs)
    → ent 𝓤 (sep 𝓤 ((c κs a).ensures g x s) ((c κs a).ensures h y t)) (fact 𝓤 (Same κs x y s t))

-- two facts give a third
pub agree : {M : Type 1} (𝓤 : Ura M) (P Q R : Type 0) → (P → Q → R) → ent 𝓤 (sep 𝓤 (fact 𝓤 P) (fact 𝓤 Q)) (fact 𝓤 R)
agree 𝓤 P Q R f = fact_use 𝓤 P (fst∗ 𝓤 (fact 𝓤 P) (fact 𝓤 Q)) (λ p. fact_use 𝓤 Q (snd∗ 𝓤 (fact 𝓤 P) (fact 𝓤 Q)) (λ q. fact_i 𝓤 R _ (f p q)))
