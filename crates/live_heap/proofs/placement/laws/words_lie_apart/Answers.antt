use Rattle.live_heap.proofs.placement_lemmas.KindLemmas.{apart-from}
use Rattle.live_heap.proofs.placement.laws.words_lie_apart.Goals as goal

pub returns : goal.returns
returns c = apart-from
