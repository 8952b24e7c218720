use Rattle.std.proofs.Common.{◌≢◌, rules}
use Rattle.std.specs.Cmp.{nat_cmp_total}
use Rattle.std.specs.Map.Iter.{deref_pair}
use Rattle.std.proofs.lemmas.Map.Iter.{btree_map_turn}
use Rattle.pool_model.specs.declared.owner.Owner.TheVariants.{Shelf}
use Rattle.plain_pool.proofs.VisitLemmas.{all_but-start, all_but-more, all_but-end}
use Rattle.plain_pool.proofs.places.place_on_shelf.Goals as goal

pub loop-place-init : goal.loop-place-init
loop-place-init c =
    all_but-start (λ place block. block.owner ≢ Shelf c.args.shelf) c.args.blocks.now c.into_iter-place-iterator.result
    c.into_iter-place-iterator.ensures.into_iter_gives.0

pub loop-place-preserved : goal.loop-place-preserved
loop-place-preserved c =
    all_but-more (λ place block. block.owner ≢ Shelf c.args.shelf) (λ place block. block.owner ≢ Shelf c.args.shelf) c.args.blocks.now
    c.loop-place.place-iterator c.next.new.self c.in-Some.place.now c.in-Some.block.now c.in-Some.ensures.steps
    (λ place block stored h. h) (search rules) c.loop-place.invariant

pub returns-then-eq-clause-found : goal.returns-then-eq-clause-found
returns-then-eq-clause-found c =
    let turn = btree_map_turn deref_pair c.loop-place.yielded c.into_iter-place-iterator.result c.loop-place.place-iterator c.next.new.self c.next.result (c.in-Some.place, c.in-Some.block) c.loop-place.yielded_by c.in-Some.is c.next.ensures.steps nat_cmp_total c.args.blocks.now (search rules) (search rules) in
    (c.in-Some.block.now, turn.1, search rules)

pub returns-clause-empty : goal.returns-clause-empty
returns-clause-empty c =
    all_but-end (λ place block. block.owner ≢ Shelf c.args.shelf) c.args.blocks.now c.loop-place.place-iterator c.in-None.ensures.steps.0
    c.loop-place.invariant
