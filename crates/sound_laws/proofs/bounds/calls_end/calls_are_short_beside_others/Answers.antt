use Rattle.sound_laws.proofs.bounds_lemmas.RunsShort.{counts-grow, run-short, run-spent}
use Rattle.sound_laws.proofs.bounds.calls_end.calls_are_short_beside_others.Goals as goal

pub returns-clause-call : goal.returns-clause-call
returns-clause-call c = run-short

pub returns-clause-calls : goal.returns-clause-calls
returns-clause-calls c = run-spent

pub returns-clause-counts : goal.returns-clause-counts
returns-clause-counts c = counts-grow
