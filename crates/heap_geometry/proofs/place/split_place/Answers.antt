use Rattle.heap_geometry.proofs.PlaceLemmas.{block_place-split}
use Rattle.heap_geometry.proofs.place.split_place.Goals as goal

pub returns-clause-place : goal.returns-clause-place
returns-clause-place c = rw c.block_words.ensures (block_place-split c.args.class c.args.place c.requires.place)
