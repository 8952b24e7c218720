use Rattle.std.proofs.Common.{◌≡◌, ◌≢◌, Some, refl, sym, ap, ◌∙◌, subst, length-set}
use Rattle.std.specs.Prelude.{length}
use Rattle.plain_words.specs.Places.{numbers}
use Rattle.live_heap.specs.declared.block.Block.{Block}
use Rattle.live_heap.specs.declared.plain.Memory.{Memory}
use Rattle.sound_laws.specs.events.Made.{LeadsBy}
use Rattle.live_heap.specs.Memory.{HasTaken, IsMemoryOf, before_taking, writes_from}
use Rattle.live_heap.specs.Words.{CallsOnWord}
use Rattle.balloc_c.specs.Lending.{Renames}
use Rattle.live_heap.proofs.laws_for_builders.Hands.{block-same}
use Rattle.balloc_c.specs.declared.kept.Kept.TheVariants as kept
use Rattle.balloc_c.specs.declared.lent.LentBlock.{LentBlock}
use Rattle.balloc_c.specs.Kept.{block_of}
use Rattle.balloc_c.specs.Slots.{block_at}
use Rattle.balloc_c.specs.Tended.{Stands}
use Rattle.balloc_c.proofs.LendingLemmas.{home-tends, same-lent}
use Rattle.balloc_c.proofs.Numbers.{renames-at}
use Rattle.balloc_c.proofs.Packing.{back-count, back-packed}
use Rattle.balloc_c.proofs.lending.come_home.Goals as goal

pub bring_home-block-requires-clause-memory : goal.bring_home-block-requires-clause-memory
bring_home-block-requires-clause-memory c =
    let lent : LentBlock = c.take_lent-lent.result in
    let memory : Memory = c.of_words-memory.result in
    let same : lent ≡ c.requires.words.0 = same-lent lent c.requires.words.0 (sym c.take_lent-lent.ensures.value ∙ c.requires.words.1) in
    let token : block_of (kept.Out lent) ≡ memory.block =
    block-same (block_of (kept.Out lent)) memory.block (sym c.of_words-memory.ensures.block.0) (sym c.of_words-memory.ensures.block.1) in
    let given : Memory = record { block = block_of (kept.Out lent); words = c.args.words } in
    let whole : given ≡ memory = λ i. record { block = token i; words = (sym c.of_words-memory.ensures.words) i } in
    subst (IsMemoryOf c.args.heap.now) whole
    (subst (λ (l : LentBlock). IsMemoryOf c.args.heap.now (record { block = block_of (kept.Out l); words = c.args.words })) (sym same) c.requires.words.2)

pub bring_home-block-requires-clause-taken : goal.bring_home-block-requires-clause-taken
bring_home-block-requires-clause-taken c =
    let h = c.args.heap.now in
    let s = c.args.cache.now in
    let lent : LentBlock = c.take_lent-lent.result in
    let memory : Memory = c.of_words-memory.result in
    let token : block_of (kept.Out lent) ≡ memory.block =
    block-same (block_of (kept.Out lent)) memory.block (sym c.of_words-memory.ensures.block.0) (sym c.of_words-memory.ensures.block.1) in
    let given : Memory = record { block = block_of (kept.Out lent); words = c.args.words } in
    let whole : given ≡ memory = λ i. record { block = token i; words = (sym c.of_words-memory.ensures.words) i } in
    subst (HasTaken s.pass) whole (subst (Stands h s.pass) c.take_lent-lent.ensures.value (c.requires.tends.stand c.args.index)).0

pub returns : goal.returns
returns c =
    let h = c.args.heap.now in
    let s = c.args.cache.now in
    let t = c.args.table.now in
    let d = c.bring_home-block.new.self in
    let u = c.set.new.self in
    let index = c.args.index in
    let lent : LentBlock = c.take_lent-lent.result in
    let block : Block = c.bring_home-block.result in
    let memory : Memory = c.of_words-memory.result in
    let m = c.bring_home-block.ensures in
    let is : block_at t.slots.items index ≡ Some (kept.Out lent) = c.take_lent-lent.ensures.value in
    let token : block_of (kept.Out lent) ≡ memory.block =
    block-same (block_of (kept.Out lent)) memory.block (sym c.of_words-memory.ensures.block.0) (sym c.of_words-memory.ensures.block.1) in
    let given : Memory = record { block = block_of (kept.Out lent); words = c.args.words } in
    let whole : memory ≡ given = λ i. record { block = (sym token) i; words = c.of_words-memory.ensures.words i } in
    let wrote = subst (λ (k : Memory). LeadsBy (CallsOnWord h) (before_taking s.pass k.block.place)
    (writes_from k.block.place k.block.need 0 (numbers k.words.places)) d.pass) whole m.wrote in
    let others = subst (λ (k : Memory). (other : Memory) → HasTaken s.pass other → other.block.place ≢ k.block.place → HasTaken d.pass other) whole m.others in
    record {
      tends = home-tends h s d t.slots.items c.take_lent-lent.new.self.slots.items u.slots.items index (kept.Out lent) lent.place lent.need block c.args.words
          (numbers c.args.words.places) c.requires.tends c.requires.idle c.requires.within is refl c.take_lent-lent.ensures.slots c.set.ensures.slots (m.block ∙ sym token) m.cache m.keeps
          wrote m.owned others m.owns;
      packed = back-packed t c.take_lent-lent.new.self u index (kept.Out lent) (kept.Home block) c.requires.packed c.requires.within is
          c.take_lent-lent.ensures.slots c.take_lent-lent.ensures.spare c.set.ensures.slots c.set.ensures.spare;
      idle = m.idle;
      count = ap length c.set.ensures.slots ∙ length-set c.take_lent-lent.new.self.slots.items index _ ∙ ap length c.take_lent-lent.ensures.slots
          ∙ length-set t.slots.items index _;
      blocks = back-count t c.take_lent-lent.new.self u index (kept.Out lent) (kept.Home block) c.requires.within is c.take_lent-lent.ensures.slots
          c.set.ensures.slots;
      home = record {
        lent = lent;
        was = c.requires.named ∙ is;
        now = subst (λ (b : Block). Renames t c.args._number (kept.Home b) u) (m.block ∙ sym token)
            (renames-at t u c.take_lent-lent.new.self.slots.items index c.args._number (kept.Out lent) (kept.Home block) c.requires.is c.requires.within
            (c.requires.named ∙ is) c.take_lent-lent.ensures.slots c.set.ensures.slots refl);
        wrote = wrote;
        keeps = m.keeps;
      };
    }
