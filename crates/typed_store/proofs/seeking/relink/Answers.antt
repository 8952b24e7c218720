use Rattle.std.proofs.Common.{suc, ◌≡◌, ◌≢◌, ◌-◌, Some, sym, ap, ◌∙◌}
use Rattle.std.specs.List.{slice_get}
use Rattle.live_heap.specs.declared.block.Block.{Block}
use Rattle.live_heap.specs.Contents.{owned_in}
use Rattle.typed_store.specs.Nodes.{node_at, node_in, nodes_at}
use Rattle.typed_store.proofs.RelinkLemmas.{follows, unlinked-first, unlinked-later}
use Rattle.typed_store.proofs.SlotLemmas.{all-token, node-token, nodes-other, token-out}
use Rattle.typed_store.proofs.PassLemmas.{reads-self}
use Rattle.typed_store.proofs.seeking.relink.Goals as goal

pub token-requires : goal.token-requires
token-requires c =
    let owned = owned_in c.args.pass.now in
    let slots = c.args.slots.now.items in
    let sought = c.args.sought.now in
    let s = c.requires.stands in
    let f = follows (nodes_at owned slots) c.args.head.now s.0 sought s.1 s.2 c.if-sought-eq0.false in
    let t = node-token owned (slice_get slots (sought.previous - 1)) (suc sought.slot) f.pair f.there in
    (t.0, t.1)

pub write_next-requires-clause-owned : goal.write_next-requires-clause-owned
write_next-requires-clause-owned c =
    token-out c.args.pass.now c.args.slots.now.items c.requires.held.0 (c.args.sought.now.previous - 1) c.token.result.now c.requires.held.1 c.token.ensures

pub write_next-requires-clause-node : goal.write_next-requires-clause-node
write_next-requires-clause-node c =
    let owned = owned_in c.args.pass.now in
    let slots = c.args.slots.now.items in
    let sought = c.args.sought.now in
    let s = c.requires.stands in
    let f = follows (nodes_at owned slots) c.args.head.now s.0 sought s.1 s.2 c.if-sought-eq0.false in
    (suc sought.slot, f.pair, ap (node_in owned) (sym c.token.ensures) ∙ f.there)

pub returns-then-sought-eq0-clause-list : goal.returns-then-sought-eq0-clause-list
returns-then-sought-eq0-clause-list c = λ before after stands.
    unlinked-first (nodes_at (owned_in c.args.pass.now) c.args.slots.now.items) c.args.head.now before c.args.sought.now after stands c.if-sought-eq0.true

pub returns-else-sought-eq0-clause-list : goal.returns-else-sought-eq0-clause-list
returns-else-sought-eq0-clause-list c = λ before after stands.
    let p = c.args.pass.now in
    let q = c.write_next.new.pass in
    let slots = c.args.slots.now.items in
    let sought = c.args.sought.now in
    let slot = sought.previous - 1 in
    let block = c.token.result.now in
    let at = nodes_at (owned_in p) slots in
    let f = follows at c.args.head.now before sought after stands c.if-sought-eq0.false in
    let was : node_at (owned_in p block.place) ≡ Some (suc sought.slot, f.pair) = ap (node_in (owned_in p)) (sym c.token.ensures) ∙ f.there in
    let led : nodes_at (owned_in q) slots slot ≡ Some (sought.node.next, f.pair) =
    ap (node_in (owned_in q)) c.token.ensures ∙ c.write_next.ensures.node (suc sought.slot) f.pair was in
    unlinked-later at (nodes_at (owned_in q) slots) c.args.head.now before sought after stands f led
    (λ other away. nodes-other p (owned_in q) slots c.requires.held.0 slot block c.requires.held.1 c.token.ensures c.write_next.ensures.others other away)

pub returns-else-sought-eq0-clause-others : goal.returns-else-sought-eq0-clause-others
returns-else-sought-eq0-clause-others c = λ place away.
    let block = c.token.result.now in
    c.write_next.ensures.others place
    (λ same. all-token (λ (b : Block). b.place ≢ place) c.args.slots.now.items (c.args.sought.now.previous - 1) block c.token.ensures away (sym same))

pub returns-then-sought-eq0-clause-rests : goal.returns-then-sought-eq0-clause-rests
returns-then-sought-eq0-clause-rests c = (reads-self c.args.heap.now c.args.pass.now c.requires.of c.requires.idle).rests
