use Rattle.live_heap.proofs.placement_lemmas.PlaceLemmas.{some-descriptor}
use Rattle.live_heap.proofs.placement.starts_of.Goals as goal

pub index-requires : goal.index-requires
index-requires c = some-descriptor c.args.layout.now c.requires

pub index-requires-2 : goal.index-requires-2
index-requires-2 c = some-descriptor c.args.layout.now c.requires

pub index-requires-3 : goal.index-requires-3
index-requires-3 c = some-descriptor c.args.layout.now c.requires
