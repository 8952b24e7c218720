use Rattle.std.proofs.Common.{subst}
use Rattle.heap_geometry.specs.declared.geometry.Geometry.{Geometry}
use Rattle.atomic_region.specs.Region.{Final}
use Rattle.live_heap.specs.Pieces.{PiecesHold}
use Rattle.live_heap.proofs.heap.Heap.drop.Goals as goal

pub all_at_home-requires : goal.all_at_home-requires
all_at_home-requires g c = subst (λ (k : Geometry). Final (PiecesHold g.R.ShelfRule.allows k) c.close-closed.result.plain.places) c.self.inside.laid.1 c.close-closed.ensures.2

pub into_room-requires : goal.into_room-requires
into_room-requires g c = c.all_at_home.ensures.home c.if-all_at_home.true
