use Rattle.sound_laws.proofs.bounds_lemmas.StaleMost.{stale-most}
use Rattle.sound_laws.proofs.bounds.calls_end.stale_words_are_few.Goals as goal

pub returns : goal.returns
returns c = stale-most
