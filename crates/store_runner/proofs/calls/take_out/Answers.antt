use Rattle.std.proofs.Common.{refl, lit<}
use Rattle.typed_store.specs.Nodes.{first_with}
use Rattle.store_runner.proofs.CallLemmas.{freed-of, taken-ready}
use Rattle.store_runner.proofs.calls.take_out.Goals as goal

pub returns-clause-ready : goal.returns-clause-ready
returns-clause-ready c =
    (taken-ready c.args.heap.now c.args.store.now c.remove.new.self 1000 c.remove.result c.one_caller_loses_nothing.ensures.free c.requires.alone
    (lit< tt) c.remove.ensures.left c.remove.ensures.cause).0

pub returns-clause-list : goal.returns-clause-list
returns-clause-list c = λ pairs has. (c.remove.ensures.list pairs has).1

pub returns-clause-counts : goal.returns-clause-counts
returns-clause-counts c = λ pairs has.
    let r =
    taken-ready c.args.heap.now c.args.store.now c.remove.new.self 1000 c.remove.result c.one_caller_loses_nothing.ensures.free c.requires.alone
    (lit< tt) c.remove.ensures.left c.remove.ensures.cause in
    freed-of c.args.heap.now c.args.store.now c.remove.new.self c.args.key 1000 pairs (first_with c.args.key pairs) c.remove.result refl
    (c.remove.ensures.list pairs has).0 r.1 c.remove.ensures.cause
