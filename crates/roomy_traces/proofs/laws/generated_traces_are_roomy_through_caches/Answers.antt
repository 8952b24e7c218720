use Rattle.roomy_traces.proofs.generated_lemmas.RoomyLemmas.{made-roomy_through}
use Rattle.roomy_traces.proofs.laws.generated_traces_are_roomy_through_caches.Goals as goal

pub returns : goal.returns
returns c = made-roomy_through
