use Rattle.std.proofs.Common.{ℕ, suc, ◌≡◌, ◌<◌, ◌-◌, ◌∙◌, ◌++◌, ◌∷◌, [], List, length, arith, refl, sym, ap, subst}
use Rattle.live_heap.specs.Contents.{owned_in}
use Rattle.typed_store.specs.Nodes.{nodes_at}
use Rattle.typed_store.proofs.PassLemmas.{leads-on, reads-on, reads-self, same-owns}
use Rattle.typed_store.proofs.SlotLemmas.{token-out}
use Rattle.typed_store.proofs.WalkLemmas.{counted, passed-all, passing-at, walk-begins, walk-node, walk-on, walk-read, walk-token}
use Rattle.typed_store.specs.Walks.{CallsOnce, ReadsAlong, node_reads}
use Rattle.typed_store.proofs.ReadLemmas.{along-more}
use Rattle.typed_store.proofs.seeking.list_pairs.Goals as goal

pub loop-passed-init : goal.loop-passed-init
loop-passed-init c =
    let at = nodes_at (owned_in c.args.pass.now) c.args.slots.now.items in
    let sp = c.requires.spelled in
    record {
      reads = reads-self c.args.heap.now c.args.pass.now c.requires.of c.requires.idle;
      made = ([], subst (λ (l : List (ℕ × ℕ)). ReadsAlong c.args.slots.now.items c.args.head l c.args.head []) (sym c.in_ok-listed.ensures.items) (refl, refl), refl);
      room = (c.in_ok-listed.ensures.len, c.in_ok-listed.ensures.exact);
      passing = λ pairs leads. (
        counted at c.args.head c.args.count sp.0 pairs sp.1 sp.2 leads,
        0,
        walk-begins at c.args.head pairs leads,
        c.in_ok-listed.ensures.items,
      );
    }

pub overflow_sub-here : goal.overflow_sub-here
overflow_sub-here c =
    let l = c.loop-passed in
    let sp = c.requires.spelled in
    let i = l.invariant.passing sp.0 sp.1 in
    let few : l._passed < length sp.0 = omega (arith, i.0, c.loop-passed-test.true) in
    let a = passing-at (nodes_at (owned_in c.args.pass.now) c.args.slots.now.items) c.args.head i.1 l.here l._passed sp.0 i.2 few in
    omega (arith, a.here_is)

pub token-requires : goal.token-requires
token-requires c =
    let l = c.loop-passed in
    let sp = c.requires.spelled in
    let i = l.invariant.passing sp.0 sp.1 in
    walk-token (owned_in c.args.pass.now) c.args.slots.now.items c.args.head i.1 l.here l._passed sp.0 i.2
    (omega (arith, i.0, c.loop-passed-test.true))

pub read_node-node-requires-clause-owned : goal.read_node-node-requires-clause-owned
read_node-node-requires-clause-owned c =
    let l = c.loop-passed in
    let block = c.token.result.now in
    let held = c.requires.held in
    same-owns c.args.pass.now l.pass block l.invariant.reads.same l.invariant.reads.rests.caller l.invariant.reads.rests.lent
    (token-out c.args.pass.now c.args.slots.now.items held.0 (l.here - 1) block held.1 c.token.ensures)

pub read_node-node-requires-clause-node : goal.read_node-node-requires-clause-node
read_node-node-requires-clause-node c =
    let l = c.loop-passed in
    let sp = c.requires.spelled in
    let i = l.invariant.passing sp.0 sp.1 in
    walk-node c.args.heap.now c.args.pass.now l.pass c.args.slots.now.items c.args.head i.1 l.here l._passed sp.0 c.token.result.now l.invariant.reads
    i.2 (omega (arith, i.0, c.loop-passed-test.true)) c.token.ensures

pub loop-passed-preserved : goal.loop-passed-preserved
loop-passed-preserved c =
    let l = c.loop-passed in
    let node = c.read_node-node.result in
    let at = nodes_at (owned_in c.args.pass.now) c.args.slots.now.items in
    let there =
    walk-read c.args.heap.now c.args.pass.now l.pass c.args.slots.now.items (l.here - 1) c.token.result.now node.next (node.key, node.value)
    l.invariant.reads c.token.ensures c.read_node-node.ensures.node in
    let sp = c.requires.spelled in
    let first = l.invariant.passing sp.0 sp.1 in
    let here_is : l.here ≡ suc (l.here - 1) =
    (passing-at at c.args.head first.1 l.here l._passed sp.0 first.2 (omega (arith, first.0, c.loop-passed-test.true))).here_is in
    let more = node_reads c.token.result.now node.next (node.key, node.value) in
    record {
      reads = reads-on c.args.heap.now c.args.pass.now l.pass c.read_node-node.new.pass l.invariant.reads c.read_node-node.ensures.reads;
      made = (
        l.invariant.made.0 ++ more,
        subst (λ (x : List (ℕ × ℕ)). ReadsAlong c.args.slots.now.items c.args.head x node.next (l.invariant.made.0 ++ more)) (sym c.push_reserved.ensures.items)
            (along-more c.args.slots.now.items c.args.head l.here node.next c.token.result.now l.listed.items (node.key, node.value) l.invariant.made.0
            here_is c.token.ensures l.invariant.made.1),
        leads-on (CallsOnce c.args.heap.now) c.args.pass.now l.pass c.read_node-node.new.pass l.invariant.made.0 more l.invariant.made.2
            c.read_node-node.ensures.found,
      );
      room = (omega (arith, c.push_reserved.ensures.len, l.invariant.room.0), c.push_reserved.ensures.capacity ∙ l.invariant.room.1);
      passing = λ pairs leads.
          let i = l.invariant.passing pairs leads in
          let on =
          walk-on at c.args.head i.1 l.here l._passed node.next (node.key, node.value) pairs i.2
          (omega (arith, i.0, c.loop-passed-test.true)) there in (
            i.0,
            l.here,
            on.passing,
            c.push_reserved.ensures.items ∙ (ap (λ (x : List (ℕ × ℕ)). x ++ (node.key, node.value) ∷ []) i.3 ∙ sym on.before_is),
          );
    }

pub returns-clause-found : goal.returns-clause-found
returns-clause-found c =
    let l = c.loop-passed in
    let sp = c.requires.spelled in
    let p = l.invariant.passing sp.0 sp.1 in
    let all : l._passed ≡ c.args.count = omega (arith, c.loop-passed-test.false, l.auto._passed-end) in
    let over : l.here ≡ 0 =
    passed-all (nodes_at (owned_in c.args.pass.now) c.args.slots.now.items) c.args.head p.1 l.here l._passed sp.0 p.2 (omega (arith, p.0, all)) in (
      l.invariant.made.0,
      subst (λ (to : ℕ). ReadsAlong c.args.slots.now.items c.args.head l.listed.items to l.invariant.made.0) over l.invariant.made.1,
      l.invariant.made.2,
    )

pub returns-in_err-listed-clause-reads : goal.returns-in_err-listed-clause-reads
returns-in_err-listed-clause-reads c = reads-self c.args.heap.now c.args.pass.now c.requires.of c.requires.idle
