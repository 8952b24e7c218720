use Rattle.std.proofs.Common.{refl}
use Rattle.sound_laws.proofs.events_lemmas.BeginsLemmas.{call-begins, started-busy, other-busy, too_large-stays, spent-begins}
use Rattle.sound_laws.proofs.events.calls_begin_without_events.Goals as goal

pub returns-clause-begins : goal.returns-clause-begins
returns-clause-begins c = call-begins

pub returns-clause-started : goal.returns-clause-started
returns-clause-started c = started-busy

pub returns-clause-others : goal.returns-clause-others
returns-clause-others c = other-busy

pub returns-clause-too_large : goal.returns-clause-too_large
returns-clause-too_large c = λ e words is. (too_large-stays e words is, refl)

pub returns-clause-spent : goal.returns-clause-spent
returns-clause-spent c = spent-begins
