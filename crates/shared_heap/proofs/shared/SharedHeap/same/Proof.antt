-- The field says only that a proof of the fact exists. An entailment is a proposition, so the proof may be opened in front of the walk that Rattle made.
use seplogic.Bi.Basic.{Entails-prop}
use mathlib.Core.Logic.{∥∥₁_elim}
use base.Logic.{via, mono_r}
use denote.Triple.Entry.{on_entry}
use borrow.Fn.Kinds.{sig_of}
use contract.Monad.{fact_mono}
use Rattle.shared_heap.specs.Shares.{HasItsPlaces}
use Rattle.shared_heap.proofs.shared.SharedHeap.same.Statement.{statement}
use Rattle.shared_heap.proofs.shared.SharedHeap.same.Lts as lts
use Rattle.shared_heap.proofs.shared.SharedHeap.same.Reads as reads
use Rattle.shared_heap.proofs.shared.SharedHeap.same.Tie as tie

pub same_spec : {M : Type 1} → statement M
same_spec {M} =
    tie.close (λ 𝓤 𝓛 𝓣 y.
    ∥∥₁_elim y.0.3.0.now.same (Entails-prop 𝓤.op _ _) (λ is.
    via 𝓤 _ (mono_r 𝓤 (on_entry 𝓛 (sig_of 1 lts.ps lts.r) y.0.0 y.0.1 y.0.3 y.0.4) (fact_mono 𝓤 _ (HasItsPlaces y.0.3.0.now) (λ _. is)))
    (lts.spec (λ κs a. HasItsPlaces a.0.now) reads.Post (λ c. c.requires) 𝓤 𝓛 𝓣 y)))
