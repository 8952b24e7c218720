use Rattle.roomy_traces.proofs.SerialLemmas.{outcomes-serial}
use Rattle.roomy_traces.proofs.laws.roomy_outcomes_are_serial.Goals as goal

pub returns : goal.returns
returns c = outcomes-serial
