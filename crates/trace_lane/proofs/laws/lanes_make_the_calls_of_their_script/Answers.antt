use Rattle.std.proofs.Common.{refl}
use Rattle.trace_lane.proofs.EndedLemmas.{lane-resting, lane-script}
use Rattle.trace_lane.proofs.laws.lanes_make_the_calls_of_their_script.Goals as goal

pub returns-clause-idle : goal.returns-clause-idle
returns-clause-idle c = λ g caller events e operations registers results calls lane. (lane-resting lane refl).rests.idle

pub returns-clause-script : goal.returns-clause-script
returns-clause-script c = λ g caller events e operations registers results calls lane. lane-script lane
