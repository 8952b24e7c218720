use Rattle.lane_runner.proofs.ClosedFits.{all-taken, driven-taken}
use Rattle.lane_runner.proofs.ClosedLemmas.{all-taken as all-taken-through}
use Rattle.lane_runner.proofs.laws.spent_lanes_took_their_turns.Goals as goal

pub returns-clause-on_threads : goal.returns-clause-on_threads
returns-clause-on_threads c =
    λ trace closed outcomes lane is shared lt told.
    all-taken trace shared.heap shared.passes outcomes closed is shared.laid shared.ran shared.closed shared.rests lane lt told

pub returns-clause-through_caches : goal.returns-clause-through_caches
returns-clause-through_caches c =
    λ trace depth closed outcomes hits lane is shared lt told.
    all-taken-through trace shared.heap depth shared.passes outcomes hits closed is shared.laid shared.ran shared.closed shared.rests lane lt told

pub returns-clause-on_machine : goal.returns-clause-on_machine
returns-clause-on_machine c = driven-taken
