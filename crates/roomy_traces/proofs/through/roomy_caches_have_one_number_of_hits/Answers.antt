use Rattle.roomy_traces.proofs.through_lemmas.SerialLemmas.{hits-serial_through, lane-hits_through}
use Rattle.roomy_traces.proofs.through.roomy_caches_have_one_number_of_hits.Goals as goal

pub returns-clause-lane : goal.returns-clause-lane
returns-clause-lane c =
    λ trace history lost depth outcomes hits lane these named roomy legal fit below fits.
    lane-hits_through trace history lost depth outcomes hits named roomy legal fit lane these below fits

pub returns-clause-lanes : goal.returns-clause-lanes
returns-clause-lanes c = λ trace history lost depth outcomes hits named roomy legal fit. hits-serial_through trace history lost depth outcomes hits named roomy legal fit
