use Rattle.live_heap.proofs.Last.{called-last, moment-last}
use Rattle.live_heap.proofs.LawsKept.{called-grows, calling-grows, moment-grows}
use Rattle.live_heap.proofs.laws.blocks.passes_see_more.Goals as goal

pub returns-clause-stepped : goal.returns-clause-stepped
returns-clause-stepped c = moment-grows

pub returns-clause-called : goal.returns-clause-called
returns-clause-called c = called-grows

pub returns-clause-calling : goal.returns-clause-calling
returns-clause-calling c = calling-grows

pub returns-clause-last_of_step : goal.returns-clause-last_of_step
returns-clause-last_of_step c = moment-last

pub returns-clause-last : goal.returns-clause-last
returns-clause-last c = called-last
