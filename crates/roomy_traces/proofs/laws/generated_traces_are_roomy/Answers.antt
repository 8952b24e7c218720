use Rattle.roomy_traces.proofs.generated_lemmas.RoomyLemmas.{made-roomy}
use Rattle.roomy_traces.proofs.laws.generated_traces_are_roomy.Goals as goal

pub returns : goal.returns
returns c = made-roomy
