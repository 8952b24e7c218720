use Rattle.std.proofs.Common.{◌≡◌}
use Rattle.std.specs.Option.{IfSome}
use Rattle.heap_geometry.specs.declared.need.Need.TheVariants.{Small}
use Rattle.plain_pool.specs.Search.{IsOpenBeside, ReachesAround}
use Rattle.plain_pool.proofs.VisitLemmas.{AllBut}
use Rattle.plain_pool.proofs.places.least_beside.Given as goal

-- the least so far is open, and no higher than the open places around the blocks so far
abbrev pub invariant-loop-place : goal.invariant-loop-place
invariant-loop-place l =
    record {
      spot : IfSome l.least (IsOpenBeside l.blocks l.class);
      all : AllBut (λ place block. block.need ≡ Small l.class → ReachesAround l.blocks l.least l.class place) l.blocks l.place-iterator;
    }
