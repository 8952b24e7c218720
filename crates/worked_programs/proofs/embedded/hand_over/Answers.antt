use Rattle.std.proofs.Common.{refl}
use Rattle.live_heap.specs.Whole.{by_steps}
use Rattle.worked_programs.proofs.embedded.hand_over.Goals as goal

pub returns-in-Err-clause-stopped : goal.returns-in-Err-clause-stopped
returns-in-Err-clause-stopped c =
    let told = c.in-Err.ensures.full in
    (_, ((by_steps (0, told.called), c.requires.owned, refl, (c.put.ensures.of, told.called.idle)), tt))
