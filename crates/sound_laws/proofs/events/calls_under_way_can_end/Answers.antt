use Rattle.sound_laws.specs.events.Stages.{stage_of}
use Rattle.sound_laws.proofs.events_lemmas.EndLemmas.{can-end, way-busy}
use Rattle.sound_laws.proofs.events.calls_under_way_can_end.Goals as goal

pub returns-clause-busy : goal.returns-clause-busy
returns-clause-busy c = way-busy

pub returns-clause-so_far : goal.returns-clause-so_far
returns-clause-so_far c = λ caller call point events so. can-end caller call (stage_of point) events so
