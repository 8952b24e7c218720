use Rattle.sound_laws.proofs.bounds_lemmas.TurnBounds.{turns-bounded}
use Rattle.sound_laws.proofs.bounds.lost_exchanges.turns_are_bounded.Goals as goal

pub returns-clause-list : goal.returns-clause-list
returns-clause-list c = λ g s w caller won has. won.installed.turns caller has

pub returns-clause-lost : goal.returns-clause-lost
returns-clause-lost c = λ g s caller sound has. sound.parts.1.turned.own_lost caller has

pub returns-clause-given : goal.returns-clause-given
returns-clause-given c = turns-bounded

pub returns-clause-answers : goal.returns-clause-answers
returns-clause-answers c = λ g s caller sound has. sound.parts.1.turned.own_answers caller has
