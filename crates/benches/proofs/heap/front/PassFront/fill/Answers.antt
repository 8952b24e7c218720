use Rattle.std.proofs.Common.{◌∙◌}
use Rattle.benches.proofs.MadeLemmas.{same-out}
use Rattle.benches.proofs.PassLemmas.{holds-keeps}
use Rattle.benches.proofs.heap.front.PassFront.fill.Goals as goal

pub fill-requires-clause-owned : goal.fill-requires-clause-owned
fill-requires-clause-owned c = c.requires.held.1.0

pub returns-clause-rests : goal.returns-clause-rests
returns-clause-rests c =
    let was = c.requires.rests in
    let is = c.fill.ensures in
    (is.of, is.idle, same-out c.args.heap.now c.args.self.now c.fill.new.pass was.0 is.of is.lent ∙ was.2)

pub returns-clause-holds : goal.returns-clause-holds
returns-clause-holds c = λ held h. holds-keeps c.args.self.now c.fill.new.pass c.fill.ensures.keeps held h
