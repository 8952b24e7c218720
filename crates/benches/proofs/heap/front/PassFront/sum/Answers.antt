use Rattle.std.proofs.Common.{◌∙◌}
use Rattle.benches.proofs.MadeLemmas.{same-out}
use Rattle.benches.proofs.PassLemmas.{holds-keeps}
use Rattle.benches.proofs.heap.front.PassFront.sum.Goals as goal

pub sum-requires-clause-owned : goal.sum-requires-clause-owned
sum-requires-clause-owned c = c.requires.held.1.0

pub returns-clause-rests : goal.returns-clause-rests
returns-clause-rests c =
    let was = c.requires.rests in
    let is = c.sum.ensures in
    (is.of, is.idle, same-out c.args.heap.now c.args.self.now c.sum.new.pass was.0 is.of is.lent ∙ was.2)

pub returns-clause-holds : goal.returns-clause-holds
returns-clause-holds c = λ held h. holds-keeps c.args.self.now c.sum.new.pass c.sum.ensures.keeps held h
