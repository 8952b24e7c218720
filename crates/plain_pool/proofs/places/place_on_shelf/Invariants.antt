use Rattle.std.proofs.Common.{◌≢◌}
use Rattle.pool_model.specs.declared.owner.Owner.TheVariants.{Shelf}
use Rattle.plain_pool.proofs.VisitLemmas.{AllBut}
use Rattle.plain_pool.proofs.places.place_on_shelf.Given as goal

-- no block so far lies on the shelf
abbrev pub invariant-loop-place : goal.invariant-loop-place
invariant-loop-place l = AllBut (λ place block. block.owner ≢ Shelf l.shelf) l.blocks l.place-iterator
