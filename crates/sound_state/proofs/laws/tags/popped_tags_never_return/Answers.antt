use Rattle.sound_state.proofs.tags.TagRuns.{tag-rises, word-differs}
use Rattle.sound_state.proofs.laws.tags.popped_tags_never_return.Goals as goal

pub returns : goal.returns
returns c = record { tag = tag-rises; word = word-differs }
