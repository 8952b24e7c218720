use Rattle.roomy_traces.proofs.SerialLemmas.{one-report}
use Rattle.roomy_traces.proofs.laws.roomy_traces_have_one_report.Goals as goal

pub returns : goal.returns
returns c = one-report
