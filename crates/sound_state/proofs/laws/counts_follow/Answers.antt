use Rattle.sound_state.proofs.CountedLemmas.{without-counts, with-counts, tells-all}
use Rattle.sound_state.proofs.laws.counts_follow.Goals as goal

pub returns-clause-dropped : goal.returns-clause-dropped
returns-clause-dropped c = without-counts

pub returns-clause-added : goal.returns-clause-added
returns-clause-added c = with-counts

pub returns-clause-told : goal.returns-clause-told
returns-clause-told c = tells-all
