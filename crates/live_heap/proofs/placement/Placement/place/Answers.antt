use Rattle.word_table.proofs.TableLemmas.{word_index-within}
use Rattle.word_table.specs.Table.{word_index}
use Rattle.live_heap.proofs.placement_lemmas.PlaceLemmas.{place-within}
use Rattle.live_heap.proofs.placement_lemmas.KindLemmas.{known-fits, known-place}
use Rattle.live_heap.proofs.placement.Placement.place.Goals as goal

pub place_from-requires : goal.place_from-requires
place_from-requires c =
    known-fits c.self.inside.layout c.args.self.now c.self.inside.starts c.args.name c.self.view_is c.self.invariant.0 c.self.invariant.1 c.requires

pub returns-clause-place : goal.returns-clause-place
returns-clause-place c =
    rw (c.place_from.ensures)
    (known-place c.self.inside.layout c.args.self.now c.self.inside.starts c.args.name c.self.view_is c.self.invariant.0 c.self.invariant.1 c.requires)

pub returns-clause-within : goal.returns-clause-within
returns-clause-within c =
    let g = c.args.self.now in
    rw (returns-clause-place c) (place-within g (word_index g c.args.name) (word_index-within g c.args.name c.requires))
