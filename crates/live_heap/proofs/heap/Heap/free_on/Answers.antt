use Rattle.std.proofs.Common.{Some, refl}
use Rattle.live_heap.proofs.heap.Heap.free_on.Goals as goal

pub returns-in-Ok : goal.returns-in-Ok
returns-in-Ok g c = (Some c.in-Ok.field-0, c.in-Ok.ensures.ends, refl)
