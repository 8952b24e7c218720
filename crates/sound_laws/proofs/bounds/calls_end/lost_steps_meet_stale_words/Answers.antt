use Rattle.sound_laws.proofs.bounds_lemmas.AloneLemmas.{alone-stale, stale-before, lost-meets, stale-seen}
use Rattle.sound_laws.proofs.bounds.calls_end.lost_steps_meet_stale_words.Goals as goal

pub returns-clause-stale : goal.returns-clause-stale
returns-clause-stale c = stale-before

pub returns-clause-met : goal.returns-clause-met
returns-clause-met c = lost-meets

pub returns-clause-seen : goal.returns-clause-seen
returns-clause-seen c = stale-seen

pub returns-clause-falls : goal.returns-clause-falls
returns-clause-falls c = alone-stale
