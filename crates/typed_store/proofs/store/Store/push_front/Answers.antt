use Rattle.std.proofs.lemmas.Result.{err_from_is_err_and}
use Rattle.typed_store.proofs.StoreLemmas.{room-list, room-ready}
use Rattle.typed_store.proofs.store.Store.push_front.Goals as goal

pub ask_for_node-requires-clause-ready : goal.ask_for_node-requires-clause-ready
ask_for_node-requires-clause-ready c =
    let m = c.make_room.ensures in
    room-ready c.args.heap.now c.args.self.now c.make_room.new.slots c.make_room.new.unused m.tokens m.nodes m.spare c.requires.ready

pub returns-clause-list : goal.returns-clause-list
returns-clause-list c = λ pairs has.
    c.ask_for_node.ensures.list pairs (room-list c.args.self.now c.make_room.new.slots pairs c.make_room.ensures.nodes has)

pub returns-in_err-make_room-clause-err : goal.returns-in_err-make_room-clause-err
returns-in_err-make_room-clause-err c =
    let m = c.make_room.ensures in
    let s = c.args.self.now in
    let ready = room-ready c.args.heap.now s c.make_room.new.slots c.make_room.new.unused m.tokens m.nodes m.spare c.requires.ready in
    let p = err_from_is_err_and c.from_residual.result c.from_residual.ensures.1 in
    rw p.1 (ready, λ pairs has. room-list s c.make_room.new.slots pairs m.nodes has)
