-- A won push keeps what the callers remember.
use Rattle.std.proofs.Common.{ℕ, Bool, true, false, ◌≡◌, ◌≢◌, ◌<◌, ◌≤◌, ◌∷◌, arith, ap, sym, subst, inl, inr, ◌∙◌, not, IsTrue}
use Rattle.std.proofs.lemmas.Bool.{cases_eq, cases_Bool, false≢true}
use Rattle.sound_state.proofs.Common.{Geometry, block_count_of, block_place, AnchorFields, Site, occurs, is_empty, own, ErrandFields, State, on_its_way, holds_of, Lists}
use Rattle.sound_state.proofs.Common.{IsLocated, IsSoundWith, sum_below, callers_sum, anchor_for, superblock_of, free_chain, reserved_among, errand_reserves}
use Rattle.sound_state.proofs.Common.{errand_away, is_bound, away_of, errand_keeps, live_at, is_there, occurs-more, IsEmptied, IsRemembered}
use Rattle.sound_state.proofs.Common.{Part, bindings, chains, single}
use Rattle.heap_geometry.specs.declared.need.Need.TheVariants as need
use Rattle.pool_model.specs.declared.event.Event.TheVariants.{Free}
use Rattle.sound_state.proofs.shared.EventFacts.{told-own}
use Rattle.sound_state.proofs.shared.HasLemmas.{bound-away}
use Rattle.sound_state.proofs.shared.RecallEffects.{IsSteadyWord, AreSteady, Leaves, IsLeft, chain-gains, chain-steady, remembered-left}
use Rattle.sound_state.proofs.shared.RecallFrame.{ChainStays}
use Rattle.sound_state.proofs.shared.RecallTables.{InstallsNone, IsSpared, IsUnbound, OwnsNone, spared-point, unbound-recalls}
use Rattle.sound_state.proofs.pushes.PushChains.{pushed-chain, was-place}
use Rattle.sound_state.proofs.pushes.PushEffects.{Outcome, stays, unfills, empties, Pushes, pushed_place}
use Rattle.sound_state.proofs.pushes.PushFacts.{pushed-anchor, pushed-bound, pushed-bound-here, pushed-stood, pushed-ways, pushed-reserved, pushed-live, pushed-bare}
use Rattle.sound_state.proofs.pushes.PushFacts.{makes_empty}
use Rattle.sound_state.proofs.pushes.PushTies.{pushed-still-owned, owned-elsewhere}
use Rattle.sound_state.proofs.pushes.PushTurns.{pushed-tag}
use Rattle.sound_state.proofs.shared.SumLemmas.{sum-least, term-sum}
use Rattle.sound_state.proofs.shared.WaitsAlone.{waits-alone}

module _
    {g : Geometry} {s : State} {l : Lists} {caller : ℕ} {at : Site} {i : ℕ} {stored : Bool} {a : AnchorFields} {e : ErrandFields} {s' : State} where
  -- no other caller has a block of a superblock reserved that a push makes EMPTY, nor owns one
  none-reserved :
      (out : Outcome) → Pushes g s l caller at i stored a out e s' → IsSoundWith g s l → (j : ℕ) → j < g.callers → makes_empty out ≡ true
      → reserved_among at.desc (holds_of (s.errand j).point).credits ≡ 0
  unfolding callers_sum
  none-reserved stays h old j has is = absurd (false≢true is)
  none-reserved unfills h old j has is = absurd (false≢true is)
  none-reserved empties h old j has is =
      let bare = (pushed-bare h old).reserved in
      let most : errand_reserves at.desc (s.errand j) ≤ callers_sum g (errand_reserves at.desc) s.errand =
      term-sum g.callers (λ k. errand_reserves at.desc (s.errand k)) j has in
      omega (arith, bare, most)

  none-owned :
      (out : Outcome) → Pushes g s l caller at i stored a out e s' → IsSoundWith g s l → (j : ℕ) → j ≢ caller → makes_empty out ≡ true
      → OwnsNone g s l j at.desc
  none-owned stays h old j ne is site k fits owned so same = false≢true is
  none-owned unfills h old j ne is site k fits owned so same = false≢true is
  none-owned empties h old j ne is site k fits owned so same =
      let its : IsLocated s at.desc site.frame site.seat.class = subst (λ x. IsLocated s x site.frame site.seat.class) same so.1 in
      let frames : site.frame ≡ at.frame = sym its.frame ∙ h.located.frame in
      let classes : site.seat.class ≡ at.seat.class = sym its.class ∙ h.located.class in
      let here : block_place site.frame site.seat.class k ≡ pushed_place at k =
      ap (λ f. block_place f site.seat.class k) frames ∙ ap (λ c. block_place at.frame c k) classes in
      let apart : k ≢ i =
      λ one. owned-elsewhere h j (block_place site.frame site.seat.class k) (need.Small site.seat.class) ne owned
      (here ∙ ap (pushed_place at) one) in
      let there : (superblock_of g s at.desc).live k ≡ 1 =
      was-place h k ∙ ap (live_at s) (sym here) ∙ ap is_there owned.block.1 in
      let none = (pushed-bare h old).others k (subst (λ c. k < block_count_of c) (sym its.class) fits.index) apart in
      let bad : ⊥ = omega (arith, there, none) in bad

  -- the superblock that a push makes EMPTY is
  makes-emptied : (out : Outcome) → Pushes g s l caller at i stored a out e s' → out ≡ empties → IsEmptied g s' l at.desc
  unfolding callers_sum
  makes-emptied stays h is = cc
  makes-emptied unfills h is = cc
  makes-emptied empties h is =
      let none : away_of g s l at.desc ≡ 0 = bound-away g s l at.desc h.bound in
      let least : callers_sum g (errand_keeps on_its_way at.desc) s.errand ≤ callers_sum g (errand_away at.desc) s.errand =
      sum-least g.callers (λ k. errand_keeps on_its_way at.desc (s.errand k)) (λ k. errand_away at.desc (s.errand k)) (λ k lt. omega arith) in
      record {
        state = ap (λ x. x.state) h.after;
        unavailable = omega (arith, none);
        standing = omega (arith, pushed-ways h at.desc, none, least);
      }

-- a push that was won, seen by the callers that remember
module _
    {g : Geometry} {s : State} {l : Lists} {caller : ℕ} {at : Site} {i : ℕ} {stored : Bool} {a : AnchorFields} {out : Outcome} {e : ErrandFields}
    {s' : State} (h : Pushes g s l caller at i stored a out e s') where
  -- nobody pushes onto a superblock that waits to be installed
  pushed-installed : IsSoundWith g s l → (j : ℕ) → j < g.callers → InstallsNone (s.errand j).point at.desc
  pushed-installed old j has site o stands same =
      let b = superblock_of g s at.desc in
      let none : sum_below b.size b.live ≡ 0 =
      subst (λ k. sum_below (superblock_of g s k).size (superblock_of g s k).live ≡ 0) same (waits-alone g s l j site o old has stands).1 in
      let size : b.size ≡ block_count_of at.seat.class = ap block_count_of h.located.class in
      let live : b.live i ≤ sum_below b.size b.live = term-sum b.size b.live i (omega (arith, h.index, size)) in
      omega (arith, none, live, pushed-live h)

  -- a descriptor that is bound stays so at a won push, but where its superblock is made EMPTY
  bound-goes : (d : ℕ) → (makes_empty out ≡ true → d ≢ at.desc) → IsTrue (is_bound g s l d) → IsTrue (is_bound g s' l d)
  bound-goes d left was =
      elim (cases_eq d at.desc) [
        | inl same ↦
            elim (cases_Bool (makes_empty out)) [
              | inl is ↦ absurd (left is same)
              | inr stands ↦
                  subst (λ k. IsTrue (is_bound g s' l k)) (sym same) (pushed-bound-here h ∙ ap not stands)
            ]
        | inr ne ↦ subst IsTrue (sym (pushed-bound h d ne)) was
      ]

  -- the words of stacks, of descriptors and of the arena stay at a won push
  pushed-words-steady : AreSteady s s'
  pushed-words-steady n is = h.elsewhere n (λ same. subst IsSteadyWord same is)

  -- a remembered pop stays so at a won push: a block that was on the chain is on it still
  chain-goes : (d : ℕ) → (makes_empty out ≡ true → d ≢ at.desc) → ChainStays g s s' d
  chain-goes d left =
      elim (cases_eq d at.desc) [
        | inl same ↦
            elim (cases_Bool (makes_empty out)) [
              | inl empty ↦ absurd (left empty same)
              | inr stands ↦
                  let chain : free_chain (superblock_of g s' d) ≡ i ∷ free_chain (superblock_of g s d) =
                  subst (λ k. free_chain (superblock_of g s' k) ≡ i ∷ free_chain (superblock_of g s k)) (sym same)
                  (pushed-chain h stands) in
                  chain-gains g s l s' pushed-words-steady d (pushed-tag h d)
                  (λ k on.
                  subst (λ xs. 0 < occurs k xs) (sym chain) (omega (arith, on, occurs-more k i (free_chain (superblock_of g s d)))))
            ]
        | inr ne ↦ chain-steady g s l s' pushed-words-steady d (pushed-anchor h d ne) (pushed-reserved h d)
      ]

  -- a push leaves what the others remember
  pushed-leaves : (j : ℕ) → j ≢ caller → Leaves g s l s' j
  pushed-leaves j ne = record {
    steady = pushed-words-steady;
    events = ap (own j) h.history ∙ told-own j s.history (Free caller (pushed_place at i)) (λ same. ne (sym same));
    owned = λ place n. pushed-still-owned h j place n ne;
    empty = λ d so.
        let apart : d ≢ at.desc =
        λ same.
        let is : is_empty (anchor_for s at.desc).state ≡ true = ap (λ k. is_empty (anchor_for s k).state) (sym same) ∙ ap is_empty so.state in
        let bad : true ≡ false = sym is ∙ pushed-stood h in cc in
        ap (λ x. is_empty x.state) (pushed-anchor h d apart);
    ways = λ d so. pushed-ways h d;
  }

  pushed-left : (p : Part) → IsSpared at.desc p → (makes_empty out ≡ true → IsUnbound at.desc p) → IsLeft g s l s' p
  pushed-left (bindings d) spared apart = bound-goes d apart
  pushed-left (chains d) spared apart = λ here. chain-goes d apart
  pushed-left (single n) spared apart = λ said. h.elsewhere n spared
  pushed-left p spared apart = tt

  pub pushed-remembered : IsSoundWith g s l → IsRemembered g s' l
  pushed-remembered old =
      remembered-left g s l caller e s' h.moves
      (h.recalls_after (makes-emptied out h))
      (λ j has ne. pushed-leaves j ne)
      (λ j has ne k d lt.
      pushed-left _ (spared-point at.desc (s.errand j).point (pushed-installed old j has) k d lt)
      (λ is.
      unbound-recalls g s l j at.desc (none-owned out h old j ne is) old has
      (none-reserved out h old j has is) k d lt)) old
