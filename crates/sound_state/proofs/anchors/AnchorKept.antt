-- The store of a new superblock's anchor keeps the places of the descriptors, their stock, and the ties to the events.
use Rattle.std.proofs.Common.{ℕ, refl, arith, ap, inr, ◌∙◌}
use Rattle.sound_state.proofs.Common.{Geometry, Site, ErrandFields, State, waiting, making, IsKept, Lists, IsLocated, IsSoundWith, info_for, anchor_for, new_anchor}
use Rattle.sound_state.proofs.anchors.AnchorFacts.{Anchors, anchored-here, anchored-info, anchored-free, anchored-holds, anchored-write}
use Rattle.sound_state.proofs.shared.KeptLemmas.{MovesAt, moved-kept}
use Rattle.sound_state.proofs.shared.MakingWeights.{installing_holds, making-places}
use Rattle.sound_state.proofs.shared.SuperblocksStay.{keeps-one}

module _ {g : Geometry} {s : State} {l : Lists} {caller : ℕ} {at : Site} {e : ErrandFields} {s' : State} (h : Anchors g s l caller at e s') where
  -- a caller that stores the anchor of its new superblock alone has the descriptor, which isn't FULL
  pub anchors-move :
      IsSoundWith g s l
      → MovesAt g s l caller at.desc (info_for s at.desc).class (making at) (installing_holds at) (anchor_for s at.desc) (new_anchor at.seat.class) e s'
  anchors-move old = record {
    holds = anchored-holds h;
    write = anchored-write h;
    exists = h.site.desc;
    class = refl;
    before = refl;
    after = anchored-here h;
    places = λ d. rw (anchored-free h old).full (grind (arith, making-places at d));
    goes = inr (grind (arith), λ full. cc);
  }

  -- the store of a new superblock's anchor keeps each descriptor in its place, in the state that belongs there
  pub anchored-kept : IsSoundWith g s l → IsLocated s at.desc at.frame at.seat.class → IsKept g s' l
  anchored-kept old lies =
      moved-kept (anchors-move old)
      (keeps-one s' at.desc at.seat.class waiting
      (record { class = ap (λ x. x.class) (anchored-info h at.desc) ∙ lies.class; state = ap (λ a. a.state) (anchored-here h) })) old.kept
