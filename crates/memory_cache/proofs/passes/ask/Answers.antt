use Rattle.std.proofs.Common.{◌∙◌, sym}
use Rattle.memory_cache.proofs.SettledLemmas.{has-settled, takes-on, taken-on}
use Rattle.memory_cache.proofs.passes.ask.Goals as goal

pub allocate-requires-clause-settled : goal.allocate-requires-clause-settled
allocate-requires-clause-settled c =
    has-settled c.args.heap.now c.args.pass.now c.args.tries c.settle.new.pass c.if-not-settle.ensures.tells

pub returns-clause-keeps : goal.returns-clause-keeps
returns-clause-keeps c other taken =
    c.allocate.ensures.keeps other (taken-on c.args.pass.now c.settle.new.pass other c.settle.ensures.out taken)

pub returns-clause-only : goal.returns-clause-only
returns-clause-only c other taken ne =
    taken-on c.settle.new.pass c.args.pass.now other (sym c.settle.ensures.out) (c.allocate.ensures.only other taken ne)

pub returns-clause-tells : goal.returns-clause-tells
returns-clause-tells c =
    takes-on c.args.heap.now c.args.pass.now c.args.words c.args.tries c.allocate.result c.settle.new.pass c.allocate.new.pass
    c.if-not-settle.ensures.tells c.allocate.ensures.tells

pub returns-clause-caller : goal.returns-clause-caller
returns-clause-caller c = c.allocate.ensures.caller ∙ c.settle.ensures.caller
