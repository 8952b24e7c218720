use Rattle.roomy_traces.proofs.through_lemmas.SerialLemmas.{outcomes-serial_through}
use Rattle.roomy_traces.proofs.through_lemmas.ReportLemmas.{live-left_through, one-report_through}
use Rattle.roomy_traces.proofs.through.roomy_caches_have_one_report.Goals as goal

pub returns-clause-outcomes : goal.returns-clause-outcomes
returns-clause-outcomes c = λ trace history lost depth outcomes hits named roomy legal fit. outcomes-serial_through trace history lost depth outcomes hits named roomy legal fit

pub returns-clause-left : goal.returns-clause-left
returns-clause-left c = λ trace history lost depth outcomes hits named roomy legal fit. live-left_through trace history lost depth outcomes hits named roomy legal fit

pub returns-clause-report : goal.returns-clause-report
returns-clause-report c = λ trace history lost depth outcomes hits named roomy legal fit. one-report_through trace history lost depth outcomes hits named roomy legal fit
