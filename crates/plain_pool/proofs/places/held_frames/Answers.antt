use Rattle.std.proofs.Common.{ℕ, ◌<◌, refl, sym, ◌∙◌, inl, inr, subst, rules, length}
use Rattle.std.specs.Cmp.{nat_cmp_total}
use Rattle.std.specs.Map.Iter.{deref_pair}
use Rattle.std.proofs.lemmas.Bool.{cases_eq}
use Rattle.std.proofs.lemmas.Map.Iter.{btree_map_turn}
use Rattle.heap_geometry.specs.declared.limits.TheConstants.{MAX_FRAMES}
use Rattle.heap_geometry.specs.Place.{frame_of}
use Rattle.plain_pool.specs.Search.{IsMarked}
use Rattle.plain_pool.proofs.VisitLemmas.{all_but-start, all_but-more}
use Rattle.plain_pool.proofs.PlacesLemmas.{unmarked-fresh}
use Rattle.plain_pool.proofs.places.held_frames.Goals as goal

pub loop-place-init : goal.loop-place-init
loop-place-init c =
    record {
      len = refl;
      only = λ frame below marked. absurd (unmarked-fresh MAX_FRAMES frame marked);
      all = all_but-start _ c.args.blocks.now c.into_iter-place-iterator.result c.into_iter-place-iterator.ensures.into_iter_gives.0;
    }

pub loop-place-preserved : goal.loop-place-preserved
loop-place-preserved c =
    let turn = btree_map_turn deref_pair c.loop-place.yielded c.into_iter-place-iterator.result c.loop-place.place-iterator c.next.new.self c.next.result (c.in-Some.place, c.in-Some.field-0-1) c.loop-place.yielded_by c.in-Some.is c.next.ensures.steps nat_cmp_total c.args.blocks.now (search rules) (search rules) in
    let here : frame_of c.in-Some.place.now < length c.loop-place.held → IsMarked c.mark_one.new.marks (frame_of c.in-Some.place.now) =
    c.mark_one.ensures.here in
    record {
      len = c.mark_one.auto.marks ∙ c.loop-place.invariant.len;
      only =
          λ frame below marked. elim (cases_eq frame (frame_of c.in-Some.place.now)) [
            | inl same ↦ (c.in-Some.place.now, c.in-Some.field-0-1.now, turn.1, sym same)
            | inr ne ↦ c.loop-place.invariant.only frame below (sym (c.mark_one.ensures.others frame ne) ∙ marked)
          ];
      all =
          all_but-more (λ place block. frame_of place < MAX_FRAMES → IsMarked c.loop-place.held (frame_of place))
          (λ place block. frame_of place < MAX_FRAMES → IsMarked c.mark_one.new.marks (frame_of place)) c.args.blocks.now
          c.loop-place.place-iterator c.next.new.self c.in-Some.place.now c.in-Some.field-0-1.now c.in-Some.ensures.steps
          (λ place block stored marked below. elim (cases_eq (frame_of place) (frame_of c.in-Some.place.now)) [
            | inl same ↦
                subst (λ (f : ℕ). f < MAX_FRAMES → IsMarked c.mark_one.new.marks f) (sym same)
                (λ within. here (subst (λ (n : ℕ). frame_of c.in-Some.place.now < n) (sym c.loop-place.invariant.len) within)) below
            | inr ne ↦ c.mark_one.ensures.others (frame_of place) ne ∙ marked below
          ])
          (λ within. here (subst (λ (n : ℕ). frame_of c.in-Some.place.now < n) (sym c.loop-place.invariant.len) within))
          c.loop-place.invariant.all;
    }
