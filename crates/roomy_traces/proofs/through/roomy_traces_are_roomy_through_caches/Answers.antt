use Rattle.roomy_traces.proofs.through_lemmas.RoomLemmas.{roomy-through}
use Rattle.roomy_traces.proofs.through.roomy_traces_are_roomy_through_caches.Goals as goal

pub returns : goal.returns
returns c = roomy-through
