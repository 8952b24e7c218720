use Rattle.std.proofs.Common.{ℕ, ◌-◌, [], List, drop, sym, subst}
use Rattle.std.specs.List.{slice_get}
use Rattle.live_heap.specs.Contents.{owned_in}
use Rattle.typed_store.specs.Nodes.{nodes_at}
use Rattle.typed_store.specs.Stores.{HasList, TellsPopped, blocks_of}
use Rattle.typed_store.proofs.SlotLemmas.{token-out}
use Rattle.typed_store.proofs.StayLemmas.{same-all}
use Rattle.typed_store.proofs.StoreLemmas.{ready-reads, words-stay}
use Rattle.typed_store.proofs.UnlinkLemmas.{first-stands, freed-behind, stands-read}
use Rattle.typed_store.proofs.WalkLemmas.{walk-begins, walk-node, walk-read, walk-token}
use Rattle.typed_store.proofs.PassLemmas.{reads-self}
use Rattle.typed_store.proofs.PopLemmas.{none-front, some-long}
use Rattle.typed_store.proofs.store.Store.pop_front.Goals as goal

pub returns-then-self-eq0-clause-list : goal.returns-then-self-eq0-clause-list
returns-then-self-eq0-clause-list c = λ pairs has. none-front c.args.self.now pairs c.if-self-eq0.true has

pub token-requires : goal.token-requires
token-requires c =
    let s = c.args.self.now in
    let b = c.requires.ready.built in
    let at = nodes_at (owned_in s.pass) s.slots.items in
    walk-token (owned_in s.pass) s.slots.items s.head 0 s.head 0 b.pairs (walk-begins at s.head b.pairs b.list.0)
    (some-long at s.head b.pairs c.if-self-eq0.false b.list.0)

pub read_node-node-requires-clause-owned : goal.read_node-node-requires-clause-owned
read_node-node-requires-clause-owned c =
    let s = c.args.self.now in
    token-out s.pass s.slots.items s.records.items (s.head - 1) c.token.result.now c.requires.ready.exactly c.token.ensures

pub read_node-node-requires-clause-node : goal.read_node-node-requires-clause-node
read_node-node-requires-clause-node c =
    let s = c.args.self.now in
    let b = c.requires.ready.built in
    let at = nodes_at (owned_in s.pass) s.slots.items in
    walk-node c.args.heap.now s.pass s.pass s.slots.items s.head 0 s.head 0 b.pairs c.token.result.now
    (reads-self c.args.heap.now s.pass c.requires.ready.of c.requires.ready.idle) (walk-begins at s.head b.pairs b.list.0)
    (some-long at s.head b.pairs c.if-self-eq0.false b.list.0) c.token.ensures

pub unlink-requires-clause-ready : goal.unlink-requires-clause-ready
unlink-requires-clause-ready c =
    ready-reads c.args.heap.now c.args.self.now c.read_node-node.new.pass c.requires.ready c.read_node-node.ensures.reads

pub unlink-requires-clause-stands : goal.unlink-requires-clause-stands
unlink-requires-clause-stands c =
    let s = c.args.self.now in
    let b = c.requires.ready.built in
    let h = c.args.heap.now in
    let node = c.read_node-node.result in
    let there =
    walk-read h s.pass s.pass s.slots.items (s.head - 1) c.token.result.now node.next (node.key, node.value)
    (reads-self h s.pass c.requires.ready.of c.requires.ready.idle) c.token.ensures c.read_node-node.ensures.node in
    let f = first-stands (nodes_at (owned_in s.pass) s.slots.items) s.head b.pairs node c.if-self-eq0.false b.list.0 there in
    ([], f.0, stands-read h s c.read_node-node.new.pass [] _ f.0 c.read_node-node.ensures.reads f.2)

pub returns-clause-list : goal.returns-clause-list
returns-clause-list c = λ pairs has.
    let s = c.args.self.now in
    let h = c.args.heap.now in
    let node = c.read_node-node.result in
    let there =
    walk-read h s.pass s.pass s.slots.items (s.head - 1) c.token.result.now node.next (node.key, node.value)
    (reads-self h s.pass c.requires.ready.of c.requires.ready.idle) c.token.ensures c.read_node-node.ensures.node in
    let f = first-stands (nodes_at (owned_in s.pass) s.slots.items) s.head pairs node c.if-self-eq0.false has.0 there in
    let stands = stands-read h s c.read_node-node.new.pass [] _ f.0 c.read_node-node.ensures.reads f.2 in
    let left = c.unlink.ensures.list [] f.0 stands in (
      subst (λ (l : List (ℕ × ℕ)). TellsPopped (slice_get l 0) c.unlink.result) (sym f.1) c.unlink.ensures.told,
      subst (λ (l : List (ℕ × ℕ)). HasList c.unlink.new.self (drop 1 l)) (sym f.1) left,
    )

pub returns-clause-records : goal.returns-clause-records
returns-clause-records c = λ records has.
    let s = c.args.self.now in
    c.unlink.ensures.records records
    (words-stay s c.read_node-node.new.pass records (same-all s.pass c.read_node-node.new.pass c.read_node-node.ensures.reads.same (blocks_of s)) has)

pub returns-clause-cause : goal.returns-clause-cause
returns-clause-cause c =
    freed-behind c.args.heap.now c.args.self.now c.read_node-node.new.pass c.args.tries c.unlink.result c.unlink.new.self c.read_node-node.ensures.reads
    c.unlink.ensures.cause

pub returns-then-self-eq0-clause-cause : goal.returns-then-self-eq0-clause-cause
returns-then-self-eq0-clause-cause c =
    (reads-self c.args.heap.now c.args.self.now.pass c.requires.ready.of c.requires.ready.idle).rests
