use Rattle.sound_state.proofs.tags.TagSteps.{tag-stepped}
use Rattle.sound_state.proofs.tags.TagRuns.{tag-reached}
use Rattle.sound_state.proofs.laws.tags.tags_count_pops.Goals as goal

pub returns : goal.returns
returns c = record { step = tag-stepped; run = tag-reached }
