use Rattle.std.proofs.Common.{◌≡◌, ◌∷◌, [], Some, ap, ◌∙◌}
use Rattle.std.specs.Prelude.{option_map}
use Rattle.pool_model.specs.Pool.{fresh_block, written}
use Rattle.live_heap.specs.declared.pass.Pass.{Pass}
use Rattle.live_heap.specs.Contents.{owned_in}
use Rattle.typed_store.specs.Nodes.{node_at}
use Rattle.typed_store.proofs.PassLemmas.{node-made, write-changes}
use Rattle.typed_store.proofs.SliceLemmas.{slice-writes}
use Rattle.typed_store.proofs.nodes.write_node.Goals as goal

pub returns : goal.returns
returns c =
    let b = c.args.block.now in
    let h = c.args.heap.now in
    let p = c.args.pass.now in
    let n = c.args.node in
    let q = c.write_slice.new.pass in
    let on = c.write_slice.ensures.wrote in
    let x = slice-writes h p b 0 (n.next ∷ n.key ∷ n.value ∷ []) q c.requires.of c.requires.idle c.requires.owned on in
    let w = write-changes h p on.0 b.place 0 n.next b.need on.1.of on.1.called in
    let y = write-changes h on.0 on.2.0 b.place 1 n.key b.need on.2.1.of on.2.1.called in
    let z = write-changes h on.2.0 on.2.2.0 b.place 2 n.value b.need on.2.2.1.of on.2.2.1.called in
    let first : owned_in on.0 b.place ≡ Some (written 0 n.next (fresh_block p.errand.caller 3 b.place)) =
    w.here ∙ ap (option_map (written 0 n.next)) c.requires.blank in
    let second = y.here ∙ ap (option_map (written 1 n.key)) first in
    let third = z.here ∙ ap (option_map (written 2 n.value)) second in
    record {
      rests = x.rests;
      node = ap (λ (r : Pass). node_at (owned_in r b.place)) on.2.2.2 ∙ ap node_at third ∙ node-made p.errand.caller b.place n.next n.key n.value;
      others = x.others;
    }
