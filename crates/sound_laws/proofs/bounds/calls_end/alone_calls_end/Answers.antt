use Rattle.std.proofs.Common.{arith}
use Rattle.sound_laws.specs.bounds.Alone.{alone_left}
use Rattle.sound_laws.proofs.bounds_lemmas.AloneLemmas.{alone-falls, ends-within}
use Rattle.sound_laws.proofs.bounds_lemmas.RunsAlone.{ends-alone}
use Rattle.sound_laws.proofs.bounds.calls_end.alone_calls_end.Goals as goal

pub returns-clause-falls : goal.returns-clause-falls
returns-clause-falls c = alone-falls

pub returns-clause-ends : goal.returns-clause-ends
returns-clause-ends c = λ g s caller sound has. ends-within g (alone_left g s caller) s caller sound has (omega arith)

pub returns-clause-every : goal.returns-clause-every
returns-clause-every c = λ g s caller turns n after sound has run left. ends-alone g turns s caller n after sound has left run
