use Rattle.std.proofs.Common.{◌≤◌, ap, arith}
use Rattle.heap_geometry.specs.declared.geometry.Geometry.{Geometry}
use Rattle.heap_geometry.specs.declared.limits.TheConstants.{MAX_HEAPS}
use Rattle.word_table.specs.Counts.{descriptor_count}
use Rattle.heap_census.specs.Census.{closed_state}
use Rattle.heap_census.proofs.RestLemmas.{closed-checked, count-most, few-descriptors, offers-most}
use Rattle.heap_census.proofs.TallyLemmas.{actives-room}
use Rattle.heap_census.proofs.tallies.add_actives.Goals as goal

pub add_active-tally-requires-clause-room : goal.add_active-tally-requires-clause-room
add_active-tally-requires-clause-room c =
    let closed = c.args.closed.now in
    let room =
    actives-room (closed_state closed) c.args.anchored c.loop-heap.tally c.args.class (descriptor_count closed.geometry) c.loop-heap.heap
    (count-most (closed_state closed)) (λ heap. offers-most closed heap c.args.class c.requires.rests) c.requires.anchored c.loop-heap.invariant in
    let few = few-descriptors closed c.requires.rests in
    let heaps = (closed-checked closed c.requires.rests).heaps.1 in
    let same = ap (λ (g : Geometry). g.heaps) c.geometry-heap-end.ensures.value in
    let below : c.loop-heap.heap ≤ MAX_HEAPS = omega (arith, heaps, same) in
    (omega (arith, room.0, few, below), omega (arith, room.1, few, below), omega (arith, room.2, below))
