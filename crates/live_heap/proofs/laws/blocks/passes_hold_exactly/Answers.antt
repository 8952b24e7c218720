use Rattle.live_heap.proofs.Exact.{called-exact, calling-exact, exact-home, fresh-exact, order-exact, whole-exact}
use Rattle.live_heap.proofs.laws.blocks.passes_hold_exactly.Goals as goal

pub returns-clause-fresh : goal.returns-clause-fresh
returns-clause-fresh c = fresh-exact

pub returns-clause-called : goal.returns-clause-called
returns-clause-called c = called-exact

pub returns-clause-whole : goal.returns-clause-whole
returns-clause-whole c = whole-exact

pub returns-clause-calling : goal.returns-clause-calling
returns-clause-calling c = calling-exact

pub returns-clause-home : goal.returns-clause-home
returns-clause-home c = exact-home

pub returns-clause-order : goal.returns-clause-order
returns-clause-order c = order-exact
