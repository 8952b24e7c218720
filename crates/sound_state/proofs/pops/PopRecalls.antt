-- A won pop keeps what the callers remember.
use Rattle.std.proofs.Common.{ℕ, ◌≡◌, ◌≢◌, ◌<◌, ◌≤◌, ◌+◌, arith, ap, sym, subst, inl, inr, ◌∙◌, IsTrue}
use Rattle.std.proofs.lemmas.Bool.{cases_eq}
use Rattle.std.proofs.lemmas.Option.{none-some}
use Rattle.sound_state.proofs.Common.{Geometry, Need, AnchorFields, Site, Share, own, block_at, pool_of, ErrandFields, State, Lists, IsOwned, IsSoundWithoutCounts}
use Rattle.sound_state.proofs.Common.{IsSoundWith, callers_sum, anchor_for, reserved_of, reserved_among, errand_reserves, IsRemembered}
use Rattle.sound_state.proofs.Common.{Part, bindings, chains, single}
use Rattle.pool_model.specs.declared.event.Event.TheVariants.{Alloc}
use Rattle.sound_state.proofs.shared.EventFacts.{told-own}
use Rattle.sound_state.proofs.shared.RecallEffects.{IsSteadyWord, AreSteady, Leaves, IsLeft, chain-steady, lies-still, remembered-left}
use Rattle.sound_state.proofs.shared.RecallFrame.{ChainStays}
use Rattle.sound_state.proofs.shared.RecallTables.{InstallsNone, IsSpared, spared-point}
use Rattle.sound_state.proofs.pops.PopEffects.{Pops, popped_place}
use Rattle.sound_state.proofs.pops.PopFacts.{popped-anchor, popped-empty, popped-bound, popped-ways, popped-reserved, popped-none, popped-there, pays-one}
use Rattle.sound_state.proofs.shared.SumLemmas.{two-terms}
use Rattle.sound_state.proofs.shared.WaitsAlone.{waits-alone}

-- a pop that was won, seen by the callers that remember
module _
    {g : Geometry} {s : State} {l : Lists} {caller : ℕ} {at : Site} {share : Share} {a : AnchorFields} {link words : ℕ} {e : ErrandFields}
    {s' : State} (h : Pops g s l caller at share a link words e s') where
  -- nobody else waits to install the superblock of a pop
  popped-installed : IsSoundWith g s l → (i : ℕ) → i < g.callers → i ≢ caller → InstallsNone (s.errand i).point at.desc
  unfolding callers_sum
  popped-installed old i has ne site o stands same =
      let alone : reserved_of g s site.desc ≡ errand_reserves site.desc (s.errand i) = (waits-alone g s l i site o old has stands).0 in
      let mine : 1 ≤ errand_reserves at.desc (s.errand caller) =
      subst (λ x. 1 ≤ reserved_among at.desc x.credits) (sym h.holds_before) (pays-one at.desc at.seat.class share) in
      let mine_too : 1 ≤ errand_reserves site.desc (s.errand caller) = subst (λ k. 1 ≤ errand_reserves k (s.errand caller)) (sym same) mine in
      omega (arith, alone, mine_too, two-terms g.callers (λ j. errand_reserves site.desc (s.errand j)) i caller has h.in_heap ne)

  -- the words of stacks, of descriptors and of the arena stay at a won pop
  popped-words-steady : AreSteady s s'
  popped-words-steady n is = h.elsewhere n (λ same. subst IsSteadyWord same is)

  -- the tag of the superblock rises at a won pop; each other one has its tag and its chain
  popped-rises : (d : ℕ) → d ≡ at.desc → (anchor_for s' d).tag ≡ (anchor_for s d).tag + 1
  popped-rises d same =
      ap (λ k. (anchor_for s' k).tag) same ∙ ap (λ x. x.tag) h.after
      ∙ sym (ap (λ k. (anchor_for s k).tag + 1) same ∙ ap (λ x. x.tag + 1) h.before)

  popped-chains : (d : ℕ) → ChainStays g s s' d
  popped-chains d =
      elim (cases_eq d at.desc) [
        | inl same ↦
            record {
              tag = omega (arith, popped-rises d same);
              chain = λ is. absurd (omega (arith, popped-rises d same, is));
              next = λ is. absurd (omega (arith, popped-rises d same, is));
            }
        | inr ne ↦ chain-steady g s l s' popped-words-steady d (popped-anchor h d ne) (popped-reserved h d ne)
      ]

  -- a caller that owned a block owns it after a won pop: the popped place was not live
  popped-owned : IsSoundWithoutCounts g s → IsSoundWith g s l → (i place : ℕ) (n : Need) → IsOwned s i place n → IsOwned s' i place n
  popped-owned sound old i place n k =
      let apart : place ≢ popped_place at a =
      λ same.
      none-some k.block.0
      (sym (popped-none h sound old) ∙ ap (λ p. block_at p (pool_of s.history)) (sym same) ∙ k.block.1) in
      record {
        block = (
          k.block.0,
          popped-there h place apart ∙ k.block.1,
          k.block.2,
          k.block.3,
        );
      }

  -- a pop leaves what the others remember
  popped-leaves : IsSoundWithoutCounts g s → IsSoundWith g s l → (i : ℕ) → i ≢ caller → Leaves g s l s' i
  popped-leaves sound old i ne = record {
    steady = popped-words-steady;
    events = ap (own i) h.history ∙ told-own i s.history (Alloc caller words (popped_place at a)) (λ same. ne (sym same));
    owned = popped-owned sound old i;
    empty = λ d is. popped-empty h d;
    ways = λ d is. popped-ways h d;
  }

  popped-left : (p : Part) → IsSpared at.desc p → IsLeft g s l s' p
  popped-left (bindings d) spared = subst IsTrue (sym (popped-bound h d))
  popped-left (chains d) spared = λ here. popped-chains d
  popped-left (single n) spared = λ said. h.elsewhere n spared
  popped-left p spared = tt

  pub popped-remembered : IsSoundWithoutCounts g s → IsSoundWith g s l → IsRemembered g s' l
  popped-remembered sound old =
      remembered-left g s l caller e s' h.moves
      (h.recalls_after (lies-still g s l s' popped-words-steady at (subst IsTrue (sym (popped-bound h at.desc)) h.bound) h.located))
      (λ i has ne. popped-leaves sound old i ne)
      (λ i has ne k d lt. popped-left _ (spared-point at.desc (s.errand i).point (popped-installed old i has ne) k d lt)) old
