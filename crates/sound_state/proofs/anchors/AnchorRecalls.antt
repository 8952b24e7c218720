-- The store of a new superblock's anchor keeps what the other callers remember.
use Rattle.std.proofs.Common.{ℕ, ◌≡◌, ◌≢◌, ◌<◌, ◌≤◌, arith, ap, sym, subst, ◌∙◌, IsTrue}
use Rattle.std.proofs.lemmas.List.Elements.{recursion_from_All}
use Rattle.std.specs.List.{AllByRecursion}
use Rattle.sound_state.proofs.Common.{Geometry, Site, is_empty, own, Point, ErrandFields, State, on_its_way, Lists, IsLocated, IsSo, recalls_of}
use Rattle.sound_state.proofs.Common.{IsSoundWith, callers_sum, kept_among, is_bound, errand_keeps, IsEmptied, IsRemembered}
use Rattle.sound_state.proofs.Common.{Part, bindings, chains, single}
use Rattle.step_parts.specs.declared.superblock.point.BlockPoint.TheVariants as block
use Rattle.errand_steps.specs.declared.point.Point.TheVariants as point
use Rattle.sound_state.proofs.shared.MakingWeights.{it-here, making-ways, is_it}
use Rattle.sound_state.proofs.shared.RecallEffects.{IsSteadyWord, Leaves, IsLeft, lies-still, remembered-left}
use Rattle.sound_state.proofs.shared.RecallFrame.{chain-same, LiesAt}
use Rattle.sound_state.proofs.shared.RecallTables.{InstallsNone, IsSpared, bound-differs, spared-point}
use Rattle.sound_state.proofs.shared.PointLemmas.{so-at}
use Rattle.sound_state.proofs.shared.SumLemmas.{term-sum}
use Rattle.sound_state.proofs.anchors.AnchorFacts.{Anchors, anchored-anchor, anchored-bound, anchored-bound_here, anchored-ways, anchored-free}
use Rattle.sound_state.proofs.anchors.AnchorFields.{anchored-superblock}
use Rattle.sound_state.proofs.anchors.AnchorRests.{owned-anchored}

-- the store of a new superblock's anchor, seen by the other callers
module _ {g : Geometry} {s : State} {l : Lists} {caller : ℕ} {at : Site} {e : ErrandFields} {s' : State} (h : Anchors g s l caller at e s') where
  -- a superblock that is bound or waits is another one than the new one
  others-bound : IsSoundWith g s l → (d : ℕ) → IsTrue (is_bound g s l d) → d ≢ at.desc
  others-bound old d bound = bound-differs g s l at.desc (anchored-free h old).bound d bound

  anchored-installed : IsSoundWith g s l → (i : ℕ) → i < g.callers → InstallsNone (s.errand i).point at.desc
  unfolding recalls_of
  anchored-installed old i has site o stands =
      let p : Point = point.Block (block.InstallSuperblock site) o in
      let so = recursion_from_All (IsSo g s l i) (recalls_of p) (so-at g s l i p old has stands) in
      others-bound old site.desc so.1.0.0

  -- a superblock that is remembered as EMPTY isn't on its way, and so is another one than the new one
  emptied-differs : (d : ℕ) → IsEmptied g s l d → d ≢ at.desc
  unfolding callers_sum
  emptied-differs d so same =
      let mine : errand_keeps on_its_way at.desc (s.errand caller) ≡ is_it at at.desc =
      ap (λ x. kept_among on_its_way at.desc x.kept) h.holds_before ∙ making-ways at at.desc in
      let some : errand_keeps on_its_way at.desc (s.errand caller) ≤ callers_sum g (errand_keeps on_its_way at.desc) s.errand =
      term-sum g.callers (λ j. errand_keeps on_its_way at.desc (s.errand j)) caller h.in_heap in
      let none : callers_sum g (errand_keeps on_its_way at.desc) s.errand ≡ 0 =
      subst (λ k. callers_sum g (errand_keeps on_its_way k) s.errand ≡ 0) same so.standing in
      omega (arith, none, some, mine, it-here at)

  -- the store of an anchor leaves what the others remember
  anchored-leaves : (i : ℕ) → Leaves g s l s' i
  unfolding callers_sum
  anchored-leaves i = record {
    steady = λ n is. h.writes.elsewhere n (λ same. subst IsSteadyWord same is);
    events = ap (own i) h.history;
    owned = owned-anchored h i;
    empty = λ d so. ap (λ x. is_empty x.state) (anchored-anchor h d (emptied-differs d so));
    ways = λ d so. omega (arith, anchored-ways h d, so.standing);
  }

  still-bound : IsSoundWith g s l → (d : ℕ) → IsTrue (is_bound g s l d) → IsTrue (is_bound g s' l d)
  still-bound old d bound = subst IsTrue (sym (anchored-bound h d (others-bound old d bound))) bound

  anchored-left : IsSoundWith g s l → (p : Part) → IsSpared at.desc p → IsLeft g s l s' p
  anchored-left old (bindings d) spared = still-bound old d
  anchored-left old (chains d) spared = λ here. chain-same g s s' d (anchored-superblock h d (others-bound old d here.1))
  anchored-left old (single n) spared = λ said. h.writes.elsewhere n spared
  anchored-left old p spared = tt

  pub anchored-lies : IsSoundWith g s l → IsLocated s at.desc at.frame at.seat.class → LiesAt g s' l at
  anchored-lies old = lies-still g s l s' (anchored-leaves caller).steady at (anchored-bound_here h old)

  pub anchored-remembered : IsSoundWith g s l → AllByRecursion (IsSo g s' l caller) (recalls_of e.point) → IsRemembered g s' l
  anchored-remembered old so =
      remembered-left g s l caller e s' h.moves so (λ i has ne. anchored-leaves i)
      (λ i has ne k d lt. anchored-left old _ (spared-point at.desc (s.errand i).point (anchored-installed old i has) k d lt)) old
