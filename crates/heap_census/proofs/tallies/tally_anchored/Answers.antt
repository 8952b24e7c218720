use Rattle.heap_census.specs.Census.{closed_state}
use Rattle.heap_census.proofs.RestLemmas.{count-most}
use Rattle.heap_census.proofs.TallyLemmas.{tallies-within}
use Rattle.heap_census.proofs.tallies.tally_anchored.Goals as goal

pub add_anchored-requires-clause-room : goal.add_anchored-requires-clause-room
add_anchored-requires-clause-room c =
    let s = closed_state c.args.closed.now in
    tallies-within s c.loop-desc.tallies c.loop-desc.desc (count-most s) c.loop-desc.invariant
