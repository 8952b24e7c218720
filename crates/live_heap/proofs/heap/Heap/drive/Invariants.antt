use Rattle.std.proofs.Common.{◌+◌, ◌*◌}
use Rattle.heap_geometry.specs.declared.limits.TheConstants.{CALL_STEPS}
use Rattle.sound_laws.specs.bounds.StepsLeft.{steps_left}
use Rattle.live_heap.specs.Passes.{IsOf, seen}
use Rattle.live_heap.specs.Shelves.{PutsByRule}
use Rattle.live_heap.specs.Going.{IsGoing}
use Rattle.live_heap.proofs.heap.Heap.drive.Given as goal

abbrev pub invariant-loop-left : goal.invariant-loop-left
invariant-loop-left g l = record { of : IsOf l.self l.pass; going : IsGoing l.self g.start l._tries l.left l.pass; puts : PutsByRule g.R.ShelfRule.allows (seen l.pass) l.pass.errand }

abbrev pub decreases-loop-left : goal.decreases-loop-left
decreases-loop-left g l = (CALL_STEPS + 1) * l.left + steps_left l.self.layout l.pass.errand.point
