use Rattle.std.proofs.Common.{ℕ, ◌≡◌, List, Some, sym, ap, ◌∙◌, subst, arith}
use Rattle.std.specs.Prelude.{slice_index}
use Rattle.sound_laws.specs.events.Made.{found_from}
use Rattle.live_heap.specs.Contents.{owned_in}
use Rattle.typed_store.specs.Walks.{LedBy}
use Rattle.typed_store.proofs.PassLemmas.{node-words, word-within}
use Rattle.typed_store.proofs.SliceLemmas.{slice-reads, three-words}
use Rattle.typed_store.proofs.nodes.read_node.Goals as goal

pub read_slice-requires-clause-words : goal.read_slice-requires-clause-words
read_slice-requires-clause-words c =
    let n = c.requires.node in
    let b = c.args.block.now in
    let last = word-within c.args.heap.now c.args.pass.now b 2 n.1.1 c.requires.of c.requires.owned (node-words (owned_in c.args.pass.now b.place) n.0 n.1 n.2).2 in
    omega (arith, last)

pub returns : goal.returns
returns c =
    let b = c.args.block.now in
    let h = c.args.heap.now in
    let p = c.args.pass.now in
    let q = c.read_slice.new.pass in
    let n = c.requires.node in
    let ws : List ℕ = c.read_slice.new.into in
    let x = slice-reads h p b 0 ws q c.requires.of c.requires.idle c.requires.owned c.read_slice.ensures.found in
    let words = node-words (owned_in p b.place) n.0 n.1 n.2 in
    let long = c.read_slice.ensures.long in
    let next : slice_index ws 0 ≡ n.0 = x.found 0 n.0 (omega (arith, long)) words.0 in
    let key : slice_index ws 1 ≡ n.1.0 = x.found 1 n.1.0 (omega (arith, long)) words.1 in
    let value : slice_index ws 2 ≡ n.1.1 = x.found 2 n.1.1 (omega (arith, long)) words.2 in
    record {
      reads = x.keeps;
      node =
          n.2 ∙ sym (ap (λ (x : ℕ). Some (x, (slice_index ws 1, slice_index ws 2))) next ∙ ap (λ (x : ℕ). Some (n.0, (x, slice_index ws 2))) key
          ∙ ap (λ (x : ℕ). Some (n.0, (n.1.0, x))) value);
      found = subst (λ (l : List ℕ). LedBy h p (found_from b.place b.need 0 l) q) (three-words ws long) x.led;
    }
