use Rattle.sound_laws.proofs.events_lemmas.CallRuns.{run-aside, begun-in_call, begun-ends}
use Rattle.sound_laws.proofs.events.runs.calls_add_their_events.Goals as goal

pub returns-clause-under_way : goal.returns-clause-under_way
returns-clause-under_way c = begun-in_call

pub returns-clause-ended : goal.returns-clause-ended
returns-clause-ended c = begun-ends

pub returns-clause-idle : goal.returns-clause-idle
returns-clause-idle c = λ g s caller moves later sound has idle none reached.
    let aside = run-aside g s caller moves later idle none reached in (aside.errand, aside.events)
