use Rattle.std.proofs.Common.{ap, ◌∙◌}
use Rattle.sound_laws.specs.bounds.Expectations.{expects_of}
use Rattle.sound_laws.proofs.bounds_lemmas.StaleLemmas.{none-stale}
use Rattle.sound_laws.proofs.bounds_lemmas.BegunWins.{begun-expects}
use Rattle.sound_laws.proofs.bounds.calls_end.begun_calls_expect_nothing.Goals as goal

pub returns-clause-expects : goal.returns-clause-expects
returns-clause-expects c = begun-expects

pub returns-clause-stale : goal.returns-clause-stale
returns-clause-stale c = λ g s caller e call idle is. none-stale g s caller (ap (λ e. expects_of e.point) is ∙ begun-expects e call idle)
