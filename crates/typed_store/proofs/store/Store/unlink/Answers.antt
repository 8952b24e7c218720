use Rattle.std.proofs.Common.{suc, ◌-◌, ◌++◌, List, length, ap, ◌∙◌, arith, refl}
use Rattle.std.specs.List.{slice_get}
use Rattle.live_heap.specs.Contents.{owned_in}
use Rattle.typed_store.specs.declared.slot.Slot.{Slot}
use Rattle.typed_store.specs.declared.slot.Slot.TheVariants.{Spare}
use Rattle.typed_store.specs.declared.store.Store.{Store}
use Rattle.typed_store.specs.Nodes.{nodes_at}
use Rattle.typed_store.specs.Stores.{blocks_of}
use Rattle.typed_store.proofs.SlotLemmas.{length-set, node-token}
use Rattle.typed_store.proofs.StayLemmas.{calling-free-same, freed-same}
use Rattle.typed_store.proofs.StoreLemmas.{list-stays, words-stay}
use Rattle.typed_store.proofs.UnlinkLemmas.{free-under-way, freed-ready, one-less, stands-whole, taken-out}
use Rattle.typed_store.proofs.store.Store.unlink.Goals as goal

pub relink-requires-clause-held : goal.relink-requires-clause-held
relink-requires-clause-held c = (c.args.self.now.records.items, c.requires.ready.exactly)

pub overflow_sub-self : goal.overflow_sub-self
overflow_sub-self c =
    let s = c.args.self.now in
    let st = c.requires.stands in
    let b = c.requires.ready.built in
    let less =
    one-less st.0 st.1 b.pairs (c.args.sought.node.key, c.args.sought.node.value)
    (stands-whole (nodes_at (owned_in s.pass) s.slots.items) s.head st.0 c.args.sought st.1 b.pairs st.2 b.list.0) in
    omega (arith, less, b.list.1)

pub take_out-block-requires : goal.take_out-block-requires
take_out-block-requires c =
    let s = c.args.self.now in
    let st = c.requires.stands in
    let t = node-token (owned_in s.pass) (slice_get s.slots.items c.args.sought.slot) c.args.sought.node.next _ st.2.here in
    (t.0, t.1)

pub free-requires-clause-owned : goal.free-requires-clause-owned
free-requires-clause-owned c =
    let s = c.args.self.now in
    let st = c.requires.stands in
    let o =
    taken-out c.args.heap.now s c.relink.new.pass c.take_out-block.new.slots c.take_out-block.new.unused c.relink.new.head c.take_out-block.result
    c.args.sought st.0 st.1 c.requires.ready st.2 c.relink.ensures.rests c.relink.ensures.list c.relink.ensures.others c.take_out-block.ensures.block
    (omega (arith, c.take_out-block.ensures.unused)) c.take_out-block.ensures.slots in
    o.exactly.0.0

pub returns-in-Freed-clause-left : goal.returns-in-Freed-clause-left
returns-in-Freed-clause-left c =
    let s = c.args.self.now in
    let st = c.requires.stands in
    let o =
    taken-out c.args.heap.now s c.relink.new.pass c.take_out-block.new.slots c.take_out-block.new.unused c.relink.new.head c.take_out-block.result
    c.args.sought st.0 st.1 c.requires.ready st.2 c.relink.ensures.rests c.relink.ensures.list c.relink.ensures.others c.take_out-block.ensures.block
    (omega (arith, c.take_out-block.ensures.unused)) c.take_out-block.ensures.slots in
    let t : Store =
    record s { pass = c.relink.new.pass; slots = c.take_out-block.new.slots; unused = c.take_out-block.new.unused; head = c.relink.new.head; count = s.count - 1 } in
    let e = c.in-Freed.ensures in
    freed-ready c.args.heap.now t c.take_out-block.result c.args.tries c.free.new.pass c.relink.ensures.rests.of o.exactly o.built e.of e.tells

pub returns-in-Freed-clause-list : goal.returns-in-Freed-clause-list
returns-in-Freed-clause-list c = λ before after stands.
    let s = c.args.self.now in
    let st = c.requires.stands in
    let o =
    taken-out c.args.heap.now s c.relink.new.pass c.take_out-block.new.slots c.take_out-block.new.unused c.relink.new.head c.take_out-block.result
    c.args.sought st.0 st.1 c.requires.ready st.2 c.relink.ensures.rests c.relink.ensures.list c.relink.ensures.others c.take_out-block.ensures.block
    (omega (arith, c.take_out-block.ensures.unused)) c.take_out-block.ensures.slots in
    let t : Store =
    record s { pass = c.relink.new.pass; slots = c.take_out-block.new.slots; unused = c.take_out-block.new.unused; head = c.relink.new.head; count = s.count - 1 } in
    let e = c.in-Freed.ensures in
    let same = freed-same c.args.heap.now c.relink.new.pass c.free.new.pass c.take_out-block.result e.tells.steps (blocks_of t) e.of e.tells.called o.exactly.0.1 in
    list-stays t c.free.new.pass (before ++ after) same (o.list before after stands)

pub returns-in-Freed-clause-records : goal.returns-in-Freed-clause-records
returns-in-Freed-clause-records c = λ records has.
    let s = c.args.self.now in
    let st = c.requires.stands in
    let o =
    taken-out c.args.heap.now s c.relink.new.pass c.take_out-block.new.slots c.take_out-block.new.unused c.relink.new.head c.take_out-block.result
    c.args.sought st.0 st.1 c.requires.ready st.2 c.relink.ensures.rests c.relink.ensures.list c.relink.ensures.others c.take_out-block.ensures.block
    (omega (arith, c.take_out-block.ensures.unused)) c.take_out-block.ensures.slots in
    let t : Store =
    record s { pass = c.relink.new.pass; slots = c.take_out-block.new.slots; unused = c.take_out-block.new.unused; head = c.relink.new.head; count = s.count - 1 } in
    let e = c.in-Freed.ensures in
    let same = freed-same c.args.heap.now c.relink.new.pass c.free.new.pass c.take_out-block.result e.tells.steps (blocks_of t) e.of e.tells.called o.exactly.0.1 in
    words-stay t c.free.new.pass records same (o.records records has)

pub returns-in-Busy-clause-left : goal.returns-in-Busy-clause-left
returns-in-Busy-clause-left c =
    let s = c.args.self.now in
    let st = c.requires.stands in
    let o =
    taken-out c.args.heap.now s c.relink.new.pass c.take_out-block.new.slots c.take_out-block.new.unused c.relink.new.head c.take_out-block.result
    c.args.sought st.0 st.1 c.requires.ready st.2 c.relink.ensures.rests c.relink.ensures.list c.relink.ensures.others c.take_out-block.ensures.block
    (omega (arith, c.take_out-block.ensures.unused)) c.take_out-block.ensures.slots in
    let t : Store =
    record s { pass = c.relink.new.pass; slots = c.take_out-block.new.slots; unused = c.take_out-block.new.unused; head = c.relink.new.head; count = s.count - 1 } in
    let e = c.in-Busy.ensures in
    (free-under-way c.args.heap.now t c.take_out-block.result c.args.tries c.free.new.pass c.relink.ensures.rests.of o.exactly o.built e.of e.tells, refl)

pub returns-in-Busy-clause-list : goal.returns-in-Busy-clause-list
returns-in-Busy-clause-list c = λ before after stands.
    let s = c.args.self.now in
    let st = c.requires.stands in
    let o =
    taken-out c.args.heap.now s c.relink.new.pass c.take_out-block.new.slots c.take_out-block.new.unused c.relink.new.head c.take_out-block.result
    c.args.sought st.0 st.1 c.requires.ready st.2 c.relink.ensures.rests c.relink.ensures.list c.relink.ensures.others c.take_out-block.ensures.block
    (omega (arith, c.take_out-block.ensures.unused)) c.take_out-block.ensures.slots in
    let t : Store =
    record s { pass = c.relink.new.pass; slots = c.take_out-block.new.slots; unused = c.take_out-block.new.unused; head = c.relink.new.head; count = s.count - 1 } in
    let e = c.in-Busy.ensures in
    let same = calling-free-same c.args.heap.now c.relink.new.pass c.free.new.pass c.take_out-block.result (suc e.tells.steps) (blocks_of t) e.of e.tells.calling o.exactly.0.1 in
    list-stays t c.free.new.pass (before ++ after) same (o.list before after stands)

pub returns-in-Busy-clause-records : goal.returns-in-Busy-clause-records
returns-in-Busy-clause-records c = λ records has.
    let s = c.args.self.now in
    let st = c.requires.stands in
    let o =
    taken-out c.args.heap.now s c.relink.new.pass c.take_out-block.new.slots c.take_out-block.new.unused c.relink.new.head c.take_out-block.result
    c.args.sought st.0 st.1 c.requires.ready st.2 c.relink.ensures.rests c.relink.ensures.list c.relink.ensures.others c.take_out-block.ensures.block
    (omega (arith, c.take_out-block.ensures.unused)) c.take_out-block.ensures.slots in
    let t : Store =
    record s { pass = c.relink.new.pass; slots = c.take_out-block.new.slots; unused = c.take_out-block.new.unused; head = c.relink.new.head; count = s.count - 1 } in
    let e = c.in-Busy.ensures in
    let same = calling-free-same c.args.heap.now c.relink.new.pass c.free.new.pass c.take_out-block.result (suc e.tells.steps) (blocks_of t) e.of e.tells.calling o.exactly.0.1 in
    words-stay t c.free.new.pass records same (o.records records has)

pub returns-in-Freed-clause-slots : goal.returns-in-Freed-clause-slots
returns-in-Freed-clause-slots c =
    let s = c.args.self.now in
    ap (λ (l : List Slot). length l) c.take_out-block.ensures.slots ∙ length-set s.slots.items c.args.sought.slot (Spare s.unused)

pub returns-in-Busy-clause-slots : goal.returns-in-Busy-clause-slots
returns-in-Busy-clause-slots c =
    let s = c.args.self.now in
    ap (λ (l : List Slot). length l) c.take_out-block.ensures.slots ∙ length-set s.slots.items c.args.sought.slot (Spare s.unused)
