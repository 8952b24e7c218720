use Rattle.std.proofs.Common.{ℕ, ◌≡◌, ◌<◌, ◌-◌, List, Option, Some, length, arith, sym, subst, refl}
use Rattle.live_heap.specs.Contents.{owned_in}
use Rattle.typed_store.specs.Nodes.{nodes_at}
use Rattle.typed_store.proofs.PassLemmas.{reads-on, reads-self, same-owns}
use Rattle.typed_store.proofs.SlotLemmas.{token-out}
use Rattle.typed_store.proofs.WalkLemmas.{counted, first-none, passing-at, walk-begins, walk-finds, walk-node, walk-on, walk-read, walk-token}
use Rattle.typed_store.proofs.seeking.seek.Goals as goal

pub loop-passed-init : goal.loop-passed-init
loop-passed-init c =
    let at = nodes_at (owned_in c.args.pass.now) c.args.slots.now.items in
    let sp = c.requires.spelled in
    record {
      reads = reads-self c.args.heap.now c.args.pass.now c.requires.of c.requires.idle;
      passing = λ pairs leads. (
        counted at c.args.head c.args.count sp.0 pairs sp.1 sp.2 leads,
        walk-begins at c.args.head pairs leads,
        refl,
      );
    }

pub overflow_sub-slot : goal.overflow_sub-slot
overflow_sub-slot c =
    let l = c.loop-passed in
    let sp = c.requires.spelled in
    let i = l.invariant.passing sp.0 sp.1 in
    let few : l._passed < length sp.0 = omega (arith, i.0, c.loop-passed-test.true) in
    let a = passing-at (nodes_at (owned_in c.args.pass.now) c.args.slots.now.items) c.args.head l.previous l.here l._passed sp.0 i.1 few in
    omega (arith, a.here_is)

pub token-requires : goal.token-requires
token-requires c =
    let l = c.loop-passed in
    let sp = c.requires.spelled in
    let i = l.invariant.passing sp.0 sp.1 in
    walk-token (owned_in c.args.pass.now) c.args.slots.now.items c.args.head l.previous l.here l._passed sp.0 i.1
    (omega (arith, i.0, c.loop-passed-test.true))

pub read_node-node-requires-clause-owned : goal.read_node-node-requires-clause-owned
read_node-node-requires-clause-owned c =
    let l = c.loop-passed in
    let block = c.token.result.now in
    let held = c.requires.held in
    same-owns c.args.pass.now l.pass block l.invariant.reads.same l.invariant.reads.rests.caller l.invariant.reads.rests.lent
    (token-out c.args.pass.now c.args.slots.now.items held.0 (l.here - 1) block held.1 c.token.ensures)

pub read_node-node-requires-clause-node : goal.read_node-node-requires-clause-node
read_node-node-requires-clause-node c =
    let l = c.loop-passed in
    let sp = c.requires.spelled in
    let i = l.invariant.passing sp.0 sp.1 in
    walk-node c.args.heap.now c.args.pass.now l.pass c.args.slots.now.items c.args.head l.previous l.here l._passed sp.0 c.token.result.now l.invariant.reads
    i.1 (omega (arith, i.0, c.loop-passed-test.true)) c.token.ensures

pub returns-then-node-key-clause-reads : goal.returns-then-node-key-clause-reads
returns-then-node-key-clause-reads c =
    reads-on c.args.heap.now c.args.pass.now c.loop-passed.pass c.read_node-node.new.pass c.loop-passed.invariant.reads c.read_node-node.ensures.reads

pub returns-then-node-key-clause-found : goal.returns-then-node-key-clause-found
returns-then-node-key-clause-found c = λ pairs leads.
    let l = c.loop-passed in
    let node = c.read_node-node.result in
    let i = l.invariant.passing pairs leads in
    let there =
    walk-read c.args.heap.now c.args.pass.now l.pass c.args.slots.now.items (l.here - 1) c.token.result.now node.next (node.key, node.value)
    l.invariant.reads c.token.ensures c.read_node-node.ensures.node in
    walk-finds (nodes_at (owned_in c.args.pass.now) c.args.slots.now.items) c.args.head l.previous l.here l._passed c.args.key node pairs i.1 i.2
    (omega (arith, i.0, c.loop-passed-test.true)) there c.if-node-key.true

pub loop-passed-preserved : goal.loop-passed-preserved
loop-passed-preserved c =
    let l = c.loop-passed in
    let node = c.read_node-node.result in
    let at = nodes_at (owned_in c.args.pass.now) c.args.slots.now.items in
    let there =
    walk-read c.args.heap.now c.args.pass.now l.pass c.args.slots.now.items (l.here - 1) c.token.result.now node.next (node.key, node.value)
    l.invariant.reads c.token.ensures c.read_node-node.ensures.node in
    record {
      reads = reads-on c.args.heap.now c.args.pass.now l.pass c.read_node-node.new.pass l.invariant.reads c.read_node-node.ensures.reads;
      passing = λ pairs leads.
          let i = l.invariant.passing pairs leads in
          let on =
          walk-on at c.args.head l.previous l.here l._passed node.next (node.key, node.value) pairs i.1
          (omega (arith, i.0, c.loop-passed-test.true)) there in (
            i.0,
            on.passing,
            subst (λ (x : List (ℕ × ℕ)). Rattle.typed_store.specs.Nodes.first_with c.args.key x ≡ Rattle.std.proofs.Common.None) (sym on.before_is)
                (first-none c.args.key i.1.before (node.key, node.value) i.2 c.if-node-key.false),
          );
    }
