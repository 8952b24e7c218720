use Rattle.live_heap.proofs.OneCaller.{free-ends, resumed-ends, take-meets, alloc-clears}
use Rattle.live_heap.proofs.laws.one_caller_loses_nothing.Goals as goal

pub returns-clause-free : goal.returns-clause-free
returns-clause-free c = free-ends

pub returns-clause-resumed : goal.returns-clause-resumed
returns-clause-resumed c = resumed-ends

pub returns-clause-take : goal.returns-clause-take
returns-clause-take c = take-meets

pub returns-clause-alloc : goal.returns-clause-alloc
returns-clause-alloc c = alloc-clears
