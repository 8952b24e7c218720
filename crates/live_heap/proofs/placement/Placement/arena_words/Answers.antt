use Rattle.std.proofs.Common.{ap, ◌∙◌}
use Rattle.word_table.specs.Counts.{arena_words}
use Rattle.live_heap.proofs.placement_lemmas.KindLemmas.{arena-first}
use Rattle.live_heap.proofs.placement_lemmas.PlaceLemmas.{some-descriptor}
use Rattle.live_heap.proofs.placement.Placement.arena_words.Goals as goal

pub index-requires : goal.index-requires
index-requires c = some-descriptor c.self.inside.layout c.self.invariant.0

pub returns : goal.returns
returns c = c.index.ensures.place ∙ arena-first c.self.inside.layout ∙ ap arena_words c.self.view_is
