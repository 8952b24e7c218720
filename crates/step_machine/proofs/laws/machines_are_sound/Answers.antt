use Rattle.std.proofs.Common.{arith}
use Rattle.sound_laws.proofs.bounds_lemmas.LossLemmas.{losses-bounded}
use Rattle.sound_laws.proofs.bounds_lemmas.TurnBounds.{turns-bounded}
use Rattle.step_machine.specs.Cores.{state_of}
use Rattle.step_machine.proofs.CoreLemmas.{core-sound, run-won}
use Rattle.step_machine.proofs.laws.machines_are_sound.Goals as goal

pub returns-clause-sound : goal.returns-clause-sound
returns-clause-sound c = core-sound

pub returns-clause-reached : goal.returns-clause-reached
returns-clause-reached c = λ c core. core.run

pub returns-clause-losses : goal.returns-clause-losses
returns-clause-losses c = λ c run. omega (arith, (run-won c.geometry (state_of c) c.steps run).contended.most)

pub returns-clause-installs : goal.returns-clause-installs
returns-clause-installs c = λ c run caller has. (run-won c.geometry (state_of c) c.steps run).installed.own caller has

pub returns-clause-met : goal.returns-clause-met
returns-clause-met c = λ c run caller has. (run-won c.geometry (state_of c) c.steps run).installed.turns caller has

pub returns-clause-contended : goal.returns-clause-contended
returns-clause-contended c =
    λ c core below. losses-bounded c.geometry (state_of c) core.run.wins (run-won c.geometry (state_of c) c.steps core.run) below

pub returns-clause-turns : goal.returns-clause-turns
returns-clause-turns c =
    λ c caller core has. turns-bounded c.geometry (state_of c) core.run.wins caller (run-won c.geometry (state_of c) c.steps core.run) has

pub returns-clause-lost : goal.returns-clause-lost
returns-clause-lost c = λ c caller core has. (core-sound c core).parts.1.turned.own_lost caller has

pub returns-clause-answers : goal.returns-clause-answers
returns-clause-answers c = λ c caller core has. (core-sound c core).parts.1.turned.own_answers caller has
