use Rattle.std.proofs.Common.{ℕ, ◌≡◌, ◌+◌, Some, refl, sym, ap, ◌∙◌, subst, length-set}
use Rattle.std.specs.Ptr.{ptr_add}
use Rattle.std.specs.Borrow.{u64}
use Rattle.std.specs.Prelude.{length}
use Rattle.plain_words.specs.Owned.{Lies}
use Rattle.plain_words.specs.Places.{numbers}
use Rattle.plain_words.specs.declared.plain.PlainWords.{PlainWords}
use Rattle.live_heap.specs.declared.block.Block.{Block}
use Rattle.live_heap.specs.declared.plain.Memory.{Memory}
use Rattle.live_heap.proofs.laws_for_builders.Hands.{block-same}
use Rattle.live_heap.specs.Memory.{before_taking}
use Rattle.balloc_c.specs.declared.kept.Kept.TheVariants as kept
use Rattle.balloc_c.specs.declared.lent.LentBlock.{LentBlock}
use Rattle.balloc_c.specs.Kept.{block_of}
use Rattle.balloc_c.specs.Slots.{block_at}
use Rattle.balloc_c.specs.Lending.{memory_at}
use Rattle.balloc_c.proofs.LendingLemmas.{lies-first, out-tends}
use Rattle.balloc_c.proofs.Numbers.{renames-at}
use Rattle.balloc_c.proofs.Packing.{back-packed}
use Rattle.balloc_c.proofs.Tending.{held-at}
use Rattle.balloc_c.proofs.lending.go_out.Goals as goal

pub take_out-memory-requires-clause-held : goal.take_out-memory-requires-clause-held
take_out-memory-requires-clause-held c =
    held-at c.args.heap.now c.args.cache.now c.args.table.now.slots.items c.args.index c.take_home-block.result c.requires.tends c.requires.idle
    c.requires.within c.take_home-block.ensures.value

pub returns : goal.returns
returns c =
    let h = c.args.heap.now in
    let s = c.args.cache.now in
    let t = c.args.table.now in
    let d = c.take_out-memory.new.self in
    let u = c.set.new.self in
    let index = c.args.index in
    let block = c.take_home-block.result in
    let memory : Memory = c.take_out-memory.result in
    let lent : LentBlock = c.new.result in
    let m = c.take_out-memory.ensures in
    let is : block_at t.slots.items index ≡ Some (kept.Home block) = c.take_home-block.ensures.value in
    let words : c.into_words.result ≡ memory.words = c.into_words.ensures in
    let token : block_of (kept.Out lent) ≡ block =
    block-same (block_of (kept.Out lent)) block (c.new.ensures.0 ∙ c.place-place.ensures) (c.new.ensures.1 ∙ c.need-need.ensures) in
    let place : memory.block.place ≡ lent.place = ap (λ (b : Block). b.place) m.block ∙ sym (c.new.ensures.0 ∙ c.place-place.ensures) in
    let lies : Lies h.region.at (lent.place + 1) =
    lies-first h lent.place memory m.memory place
    (subst (λ (w : PlainWords). Lies w.at (w.first + length w.places)) words c.of_words-words.ensures.3) in
    let begins : c.of_words-words.result.memory ≡ memory_at h memory.block.place =
    c.of_words-words.ensures.0
    ∙ ap (λ (w : PlainWords). ptr_add u64 w.first w.at) words
    ∙ (λ i. ptr_add u64 (m.memory.first i) (m.memory.at i)) in
    record {
      tends = out-tends h s d t.slots.items c.take_home-block.new.self.slots.items u.slots.items index block lent memory (numbers memory.words.places)
          c.requires.tends c.requires.idle m.idle c.requires.within is c.take_home-block.ensures.slots c.set.ensures.slots token m.block m.cache m.keeps
          m.before m.last lies (m.memory.first ∙ ap (λ (n : ℕ). n + 1) place) m.aligned;
      packed = back-packed t c.take_home-block.new.self u index (kept.Home block) (kept.Out lent) c.requires.packed c.requires.within is
          c.take_home-block.ensures.slots c.take_home-block.ensures.spare c.set.ensures.slots c.set.ensures.spare;
      count = ap length c.set.ensures.slots ∙ length-set c.take_home-block.new.self.slots.items index _ ∙ ap length c.take_home-block.ensures.slots
          ∙ length-set t.slots.items index _;
      code = c.of_words-words.ensures.1;
      out = (
        memory,
        c.of_words-words.ensures.2 ∙ ap (λ (w : PlainWords). Some w) words,
        begins,
        record {
          was = c.requires.named ∙ is ∙ ap (λ (b : Block). Some (kept.Home b)) (sym m.block);
          lent = lent;
          token = token ∙ sym m.block;
          now = renames-at t u c.take_home-block.new.self.slots.items index c.args._number (kept.Home block) (kept.Out lent) c.requires.is c.requires.within
              (c.requires.named ∙ is) c.take_home-block.ensures.slots c.set.ensures.slots refl;
          words = m.memory;
          aligned = m.aligned;
          taken = m.taken;
          before = ap (λ (b : Block). before_taking d.pass b.place) m.block ∙ m.before;
          keeps = m.keeps;
        },
      );
    }
