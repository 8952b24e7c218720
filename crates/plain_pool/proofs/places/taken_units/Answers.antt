use Rattle.std.proofs.Common.{◌≤◌, ◌+◌, ◌≡◌, refl, ◌∙◌, inl, inr, rules, length}
use Rattle.std.specs.Cmp.{nat_cmp_total}
use Rattle.std.specs.Map.Iter.{deref_pair}
use Rattle.std.proofs.lemmas.Map.Iter.{btree_map_turn}
use Rattle.heap_geometry.specs.declared.limits.TheConstants.{MAX_UNITS}
use Rattle.plain_pool.proofs.VisitLemmas.{all_but-start, all_but-more, all_but-end}
use Rattle.plain_pool.proofs.PlacesLemmas.{MarksRun, unmarked-fresh, run-within, run-takes, run-marks, mark-keeps, mark-only}
use Rattle.plain_pool.proofs.places.taken_units.Goals as goal

pub loop-place-init : goal.loop-place-init
loop-place-init c =
    record {
      len = refl;
      only = λ unit below marked. absurd (unmarked-fresh MAX_UNITS unit marked);
      all = all_but-start _ c.args.blocks.now c.into_iter-place-iterator.result c.into_iter-place-iterator.ensures.into_iter_gives.0;
    }

pub mark-requires : goal.mark-requires
mark-requires c =
    let turn = btree_map_turn deref_pair c.loop-place.yielded c.into_iter-place-iterator.result c.loop-place.place-iterator c.next.new.self c.next.result (c.in-Some.place, c.in-Some.block) c.loop-place.yielded_by c.in-Some.is c.next.ensures.steps nat_cmp_total c.args.blocks.now (search rules) (search rules) in
    let within : c.run_of-first.result.0 + c.run_of-first.result.1 ≤ MAX_UNITS =
    run-within c.args.frames c.in-Some.block.now.need c.in-Some.place.now c.run_of-first.result c.run_of-first.ensures
    (λ units large. c.requires c.in-Some.place.now c.in-Some.block.now units turn.1 large) in
    let len : length c.loop-place.taken ≡ MAX_UNITS = c.loop-place.invariant.len in
    rw len within

pub loop-place-preserved : goal.loop-place-preserved
loop-place-preserved c =
    let turn = btree_map_turn deref_pair c.loop-place.yielded c.into_iter-place-iterator.result c.loop-place.place-iterator c.next.new.self c.next.result (c.in-Some.place, c.in-Some.block) c.loop-place.yielded_by c.in-Some.is c.next.ensures.steps nat_cmp_total c.args.blocks.now (search rules) (search rules) in
    record {
      len = c.mark.auto.marks ∙ c.loop-place.invariant.len;
      only =
          λ unit below marked. elim (mark-only c.loop-place.taken c.mark.new.marks c.run_of-first.result.0 c.run_of-first.result.1
          c.mark.ensures.outside_below c.mark.ensures.outside_above unit marked) [
            | inl before ↦ c.loop-place.invariant.only unit below before
            | inr within ↦
                run-takes c.args.blocks.now c.args.frames c.in-Some.place.now unit c.in-Some.block.now c.in-Some.block.now.need
                c.run_of-first.result refl c.run_of-first.ensures c.requires turn.1 within.0 within.1
          ];
      all =
          all_but-more (MarksRun c.args.frames c.loop-place.taken) (MarksRun c.args.frames c.mark.new.marks) c.args.blocks.now
          c.loop-place.place-iterator c.next.new.self c.in-Some.place.now c.in-Some.block.now c.in-Some.ensures.steps
          (λ place block stored marks units first unit large at from before.
          mark-keeps c.loop-place.taken c.mark.new.marks c.run_of-first.result.0 c.run_of-first.result.1 c.mark.ensures.inside
          c.mark.ensures.outside_below c.mark.ensures.outside_above unit (marks units first unit large at from before))
          (run-marks c.args.frames c.in-Some.place.now c.mark.new.marks c.in-Some.block.now c.run_of-first.result c.run_of-first.ensures
          c.mark.ensures.inside) c.loop-place.invariant.all;
    }

pub returns-clause-taken : goal.returns-clause-taken
returns-clause-taken c = λ unit below. (
  λ marked. c.loop-place.invariant.only unit below marked,
  λ taken. all_but-end (MarksRun c.args.frames c.loop-place.taken) c.args.blocks.now c.loop-place.place-iterator
      c.in-None.ensures.steps.0 c.loop-place.invariant.all _ taken.block taken.stored taken.units taken.first unit taken.large refl
      taken.from taken.before,
)
