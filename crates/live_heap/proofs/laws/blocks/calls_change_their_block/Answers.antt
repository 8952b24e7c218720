use Rattle.live_heap.proofs.Changes.{called-changes, calling-changes, closed-owned, whole-changes}
use Rattle.live_heap.proofs.laws.blocks.calls_change_their_block.Goals as goal

pub returns-clause-called : goal.returns-clause-called
returns-clause-called c = called-changes

pub returns-clause-whole : goal.returns-clause-whole
returns-clause-whole c = whole-changes

pub returns-clause-calling : goal.returns-clause-calling
returns-clause-calling c = calling-changes

pub returns-clause-closed : goal.returns-clause-closed
returns-clause-closed c = closed-owned
