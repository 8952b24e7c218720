use Rattle.std.proofs.Common.{ap, ◌∙◌}
use Rattle.live_heap.specs.Contents.{owned_in}
use Rattle.typed_store.specs.Nodes.{node_at}
use Rattle.typed_store.proofs.PassLemmas.{node-led, node-words, word-within, write-changes, write-rests}
use Rattle.typed_store.proofs.nodes.write_next.Goals as goal

pub write-requires-clause-word : goal.write-requires-clause-word
write-requires-clause-word c =
    let n = c.requires.node in
    word-within c.args.heap.now c.args.pass.now c.args.block.now 0 n.0 c.requires.of c.requires.owned (node-words _ n.0 n.1 n.2).0

pub returns-clause-rests : goal.returns-clause-rests
returns-clause-rests c =
    let b = c.args.block.now in
    write-rests c.args.heap.now c.args.pass.now c.write.new.pass b.place 0 c.args.next b.need c.requires.of c.requires.owned c.write.ensures.of c.write.ensures.called

pub returns-clause-node : goal.returns-clause-node
returns-clause-node c = λ was pair is.
    let b = c.args.block.now in
    let p = c.args.pass.now in
    let w = write-changes c.args.heap.now p c.write.new.pass b.place 0 c.args.next b.need c.write.ensures.of c.write.ensures.called in
    ap node_at w.here ∙ node-led (owned_in p b.place) was c.args.next pair is

pub returns-clause-others : goal.returns-clause-others
returns-clause-others c =
    let b = c.args.block.now in
    (write-changes c.args.heap.now c.args.pass.now c.write.new.pass b.place 0 c.args.next b.need c.write.ensures.of c.write.ensures.called).others
