-- The field says only that a proof of the fact exists. An entailment is a proposition, so the proof may be opened in front of the walk that Rattle made.
use seplogic.Bi.Basic.{Entails-prop}
use mathlib.Core.Logic.{∥∥₁_elim}
use base.Logic.{via, mono_r}
use denote.Triple.Entry.{on_entry}
use borrow.Fn.Kinds.{sig_of}
use contract.Monad.{fact_mono}
use Rattle.balloc_malloc.specs.Tenants.{IsTended}
use Rattle.balloc_malloc.proofs.tenant.Tenant.tended.Statement.{statement}
use Rattle.balloc_malloc.proofs.tenant.Tenant.tended.Lts as lts
use Rattle.balloc_malloc.proofs.tenant.Tenant.tended.Reads as reads
use Rattle.balloc_malloc.proofs.tenant.Tenant.tended.Tie as tie

pub tended_spec : {M : Type 1} → statement M
tended_spec {M} =
    tie.close (λ 𝓤 𝓛 𝓣 y.
    ∥∥₁_elim y.0.3.0.now.is_tended (Entails-prop 𝓤.op _ _) (λ is.
    via 𝓤 _ (mono_r 𝓤 (on_entry 𝓛 (sig_of 1 lts.ps lts.r) y.0.0 y.0.1 y.0.3 y.0.4) (fact_mono 𝓤 _ (IsTended y.0.3.0.now) (λ _. is)))
    (lts.spec (λ κs a. IsTended a.0.now) reads.Post (λ c. c.requires) 𝓤 𝓛 𝓣 y)))
