-- A lost install keeps what the callers remember: nobody else remembers anything of the superblock that isn't needed.
use Rattle.std.proofs.Common.{ℕ, ◌≡◌, ◌≢◌, arith, ap, sym, subst, ◌∙◌, IsTrue}
use Rattle.sound_state.proofs.Common.{Geometry, Site, is_empty, own, ErrandFields, State, Lists, IsSoundWithoutCounts, IsSoundWith, anchor_for, IsRemembered}
use Rattle.sound_state.proofs.Common.{Part, bindings, chains, single}
use Rattle.packed_words.specs.declared.anchor.AnchorState.TheVariants as phase
use Rattle.sound_state.proofs.shared.MakingWeights.{it-elsewhere}
use Rattle.sound_state.proofs.shared.RecallEffects.{Leaves, IsLeft, chain-steady, remembered-left}
use Rattle.sound_state.proofs.shared.RecallTables.{IsUnbound, unbound-recalls}
use Rattle.sound_state.proofs.discards.DiscardEffects.{Discards}
use Rattle.sound_state.proofs.discards.DiscardFacts.{discarded-descs, discarded-ways, discarded-bound, discarded-reserved, others-reserve}
use Rattle.sound_state.proofs.discards.DiscardTies.{own-apart, discarded-owned}

-- an install that was lost, seen by the callers that remember
module _ {g : Geometry} {s : State} {l : Lists} {caller : ℕ} {at : Site} {e : ErrandFields} {s' : State} (h : Discards g s l caller at e s') where
  -- a lost install leaves what the others remember
  discarded-leaves : (i : ℕ) → Leaves g s l s' i
  discarded-leaves i = record {
    steady = λ n is. h.words n;
    events = ap (own i) h.history;
    owned = discarded-owned h i;
    empty = λ d so. ap (λ x. is_empty x.state) ((discarded-descs h).anchor d);
    ways = λ d so.
        let differ : d ≢ at.desc =
        λ same.
        let bad : phase.Active ≡ phase.Empty = sym (ap (λ x. x.state) h.anchor) ∙ ap (λ k. (anchor_for s k).state) (sym same) ∙ so.state in cc in
        omega (arith, discarded-ways h d, it-elsewhere at d differ);
  }

  discarded-left : (p : Part) → IsUnbound at.desc p → IsLeft g s l s' p
  discarded-left (bindings d) apart = subst IsTrue (sym (discarded-bound h d apart))
  discarded-left (chains d) apart = λ here. chain-steady g s l s' (λ n is. h.words n) d ((discarded-descs h).anchor d) (discarded-reserved h d apart)
  discarded-left (single n) apart = λ said. h.words n
  discarded-left p apart = tt

  pub discarded-remembered : IsSoundWithoutCounts g s → IsSoundWith g s l → IsRemembered g s' l
  discarded-remembered sound old =
      remembered-left g s l caller e s' h.moves h.recalls_after
      (λ i has ne. discarded-leaves i)
      (λ i has ne k d lt.
      discarded-left _ (unbound-recalls g s l i at.desc (own-apart h sound old i) old has (others-reserve h old i has ne) k d lt)) old
