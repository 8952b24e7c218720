use Rattle.std.proofs.Common.{◌≡◌, rules}
use Rattle.std.specs.Cmp.{nat_cmp_total}
use Rattle.std.specs.Map.Iter.{deref_pair}
use Rattle.std.proofs.lemmas.Map.Iter.{btree_map_turn}
use Rattle.heap_geometry.specs.declared.need.Need.TheVariants.{Small}
use Rattle.plain_pool.specs.Search.{ReachesAround}
use Rattle.plain_pool.proofs.VisitLemmas.{all_but-more, all_but-end}
use Rattle.plain_pool.proofs.PlacesLemmas.{around-lower, spot-more, beside-reached, least-beside, none-beside}
use Rattle.plain_pool.proofs.places.least_beside.Goals as goal

pub lesser_around-least-requires-clause-place : goal.lesser_around-least-requires-clause-place
lesser_around-least-requires-clause-place c =
    let turn = btree_map_turn deref_pair c.loop-place.yielded c.into_iter-place-iterator.result c.loop-place.place-iterator c.next.new.self c.next.result (c.in-Some.place, c.in-Some.block) c.loop-place.yielded_by c.in-Some.is c.next.ensures.steps nat_cmp_total c.args.blocks.now (search rules) (search rules) in
    c.requires.placed c.in-Some.place.now c.in-Some.block.now turn.1

pub loop-place-preserved : goal.loop-place-preserved
loop-place-preserved c =
    let turn = btree_map_turn deref_pair c.loop-place.yielded c.into_iter-place-iterator.result c.loop-place.place-iterator c.next.new.self c.next.result (c.in-Some.place, c.in-Some.block) c.loop-place.yielded_by c.in-Some.is c.next.ensures.steps nat_cmp_total c.args.blocks.now (search rules) (search rules) in
    record {
      spot =
          spot-more c.args.blocks.now c.loop-place.least c.lesser_around-least.result c.args.class c.in-Some.place.now c.in-Some.block.now
          turn.1 c.loop-place.invariant.spot c.lesser_around-least.ensures.from;
      all =
          all_but-more (λ place block. block.need ≡ Small c.args.class → ReachesAround c.args.blocks.now c.loop-place.least c.args.class place)
          (λ place block. block.need ≡ Small c.args.class → ReachesAround c.args.blocks.now c.lesser_around-least.result c.args.class place)
          c.args.blocks.now c.loop-place.place-iterator c.next.new.self c.in-Some.place.now c.in-Some.block.now c.in-Some.ensures.steps
          (λ place block stored around same.
          around-lower c.args.blocks.now c.loop-place.least c.lesser_around-least.result c.args.class place
          c.lesser_around-least.ensures.lower (around same))
          c.lesser_around-least.ensures.around c.loop-place.invariant.all;
    }

pub returns-clause-found : goal.returns-clause-found
returns-clause-found c =
    least-beside c.args.blocks.now c.loop-place.least c.args.class
    (beside-reached c.args.blocks.now c.loop-place.least c.args.class c.requires.one_class
    (all_but-end (λ place block. block.need ≡ Small c.args.class → ReachesAround c.args.blocks.now c.loop-place.least c.args.class place)
    c.args.blocks.now c.loop-place.place-iterator c.in-None.ensures.steps.0 c.loop-place.invariant.all))
    c.loop-place.invariant.spot

pub returns-clause-none : goal.returns-clause-none
returns-clause-none c =
    none-beside c.args.blocks.now c.loop-place.least c.args.class
    (beside-reached c.args.blocks.now c.loop-place.least c.args.class c.requires.one_class
    (all_but-end (λ place block. block.need ≡ Small c.args.class → ReachesAround c.args.blocks.now c.loop-place.least c.args.class place)
    c.args.blocks.now c.loop-place.place-iterator c.in-None.ensures.steps.0 c.loop-place.invariant.all))
