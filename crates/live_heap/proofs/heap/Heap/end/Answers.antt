use Rattle.std.proofs.Common.{List, sym, subst}
use Rattle.heap_geometry.specs.declared.geometry.Geometry.{Geometry}
use Rattle.plain_words.specs.Places.{Place}
use Rattle.atomic_region.specs.Region.{Final, Seen}
use Rattle.live_heap.specs.Heaps.{HeapFields}
use Rattle.live_heap.specs.Endings.{IsAtRest}
use Rattle.live_heap.specs.Pieces.{PiecesHold}
use Rattle.live_heap.proofs.ClosedPieces.{rests-home}
use Rattle.live_heap.proofs.heap.Heap.end.Goals as goal
use Rattle.live_heap.proofs.heap.Heap.end.Goals.{After-close_with}
use Rattle.live_heap.proofs.heap.Heap.end.Given.{Over}

-- the rule is over the heap's numbers
seen :
    (g : Over) (c : After-close_with g)
    → Final (Seen (PiecesHold g.R.ShelfRule.allows c.self.inside.layout) c.args.seat.id c.args.seat.me.0) c.close_with.result.plain.places
seen g c =
    let seat = c.args.seat in
    subst (λ (k : Geometry). Final (Seen (PiecesHold g.R.ShelfRule.allows k) seat.id seat.me.0) c.close_with.result.plain.places) c.self.inside.laid.1
    c.close_with.ensures.2

pub into_room-requires : goal.into_room-requires
into_room-requires g c =
    let rests = subst (λ (x : HeapFields). IsAtRest x.layout c.args.seat.me.0) (sym c.self.view_is) c.requires.rests in
    rests-home c.self.inside.layout c.args.seat.id c.args.seat.me.0 c.close_with.result.plain.places rests (seen g c)

pub returns-clause-last : goal.returns-clause-last
returns-clause-last g c =
    let seat = c.args.seat in
    subst (λ (ps : List Place). Final (Seen (PiecesHold g.R.ShelfRule.allows c.self.inside.layout) seat.id seat.me.0) ps) (sym c.into_room.ensures.0)
    (seen g c.before)
