use Rattle.std.proofs.Common.{refl}
use Rattle.trace_lane.proofs.FitLemmas.{come-fits, lane-come, lane-fits, lane-spent}
use Rattle.trace_lane.proofs.laws.outcomes_of_lanes_fit.Goals as goal

pub returns-clause-so_far : goal.returns-clause-so_far
returns-clause-so_far c = λ g caller events e operations registers results at calls lost lane more.
    let come = lane-come lane in (come.walked.end, come-fits come lost more)

pub returns-clause-ended : goal.returns-clause-ended
returns-clause-ended c = λ g caller events e operations registers results calls lost lane. lane-fits lane lost refl

pub returns-clause-spent : goal.returns-clause-spent
returns-clause-spent c = λ g caller events e operations registers results calls k lane. lane-spent lane k refl
