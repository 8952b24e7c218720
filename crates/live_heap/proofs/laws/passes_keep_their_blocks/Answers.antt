use Rattle.live_heap.proofs.LawsKept.{called-keeps, calling-keeps, called-given, called-got}
use Rattle.live_heap.proofs.laws.passes_keep_their_blocks.Goals as goal

pub returns-clause-called : goal.returns-clause-called
returns-clause-called c = called-keeps

pub returns-clause-calling : goal.returns-clause-calling
returns-clause-calling c = calling-keeps

pub returns-clause-given : goal.returns-clause-given
returns-clause-given c = called-given

pub returns-clause-got : goal.returns-clause-got
returns-clause-got c = called-got
