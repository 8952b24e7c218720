use Rattle.roomy_traces.proofs.SerialLemmas.{live-left}
use Rattle.roomy_traces.proofs.laws.roomy_lanes_leave_what_they_hold.Goals as goal

pub returns : goal.returns
returns c = live-left
