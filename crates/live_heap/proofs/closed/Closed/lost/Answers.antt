use Rattle.std.proofs.Common.{subst}
use Rattle.live_heap.specs.Endings.{IsResting}
use Rattle.live_heap.proofs.LawsClosed.{closed-losses, closed-contended}
use Rattle.live_heap.proofs.closed.Closed.lost.Goals as goal

pub returns-clause-list : goal.returns-clause-list
returns-clause-list c = closed-losses c.args.self.now (subst IsResting c.self.view_is c.self.invariant.rests)

pub returns-clause-won : goal.returns-clause-won
returns-clause-won c = closed-contended c.args.self.now (subst IsResting c.self.view_is c.self.invariant.rests)
