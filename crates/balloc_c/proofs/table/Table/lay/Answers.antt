use Rattle.std.proofs.Common.{ℕ, ◌≡◌, ◌+◌, ◌*◌, ◌%◌, ◌^◌, Some, slice_index, slice_set, refl, sym, ap, ◌∙◌}
use Rattle.live_heap.specs.declared.plain.Memory.{Memory}
use Rattle.balloc_c.specs.declared.kept.Kept.TheVariants as kept
use Rattle.balloc_c.specs.declared.lent.LentBlock.{LentBlock}
use Rattle.balloc_c.specs.declared.table.Slot.{Slot}
use Rattle.balloc_c.specs.Kept.{memory_of}
use Rattle.balloc_c.specs.Laid.{HasTurned}
use Rattle.balloc_c.specs.Slots.{age_at, block_at}
use Rattle.balloc_c.proofs.LaidLemmas.{after-set_same, age-read, block-read, lays-less, older-number, older-slot, turned-at, turned-packed}
use Rattle.balloc_c.proofs.LendingLemmas.{same-lent}
use Rattle.balloc_c.proofs.Slots.{age-set_same}
use Rattle.balloc_c.proofs.table.Table.lay.Goals as goal

pub lay-requires : goal.lay-requires
lay-requires c =
    let out = c.requires.out in
    (out.0, sym (block-read c.args.self.now.slots.items c.args.index c.index_mut.result.now c.requires.within c.index_mut.ensures.value) ∙ out.1)

pub returns-clause-packed : goal.returns-clause-packed
returns-clause-packed c =
    let t = c.args.self.now in
    let slots = t.slots.items in
    let i = c.args.index in
    let old : Slot = c.index_mut.result.now in
    let new : Slot = c.lay.new.self in
    let within = c.requires.within in
    let laid = c.lay.ensures.laid in
    let is : block_at slots i ≡ Some (kept.Out laid.0) = block-read slots i old within c.index_mut.ensures.value ∙ laid.1 in
    let memory : Memory = memory_of laid.0 c.args.words in
    let turned : HasTurned slots i (kept.Laid memory) (slice_set slots i new) = turned-at slots i new (kept.Laid memory) within laid.2 in
    turned-packed t _ i (kept.Out laid.0) (kept.Laid memory) c.requires.packed is turned refl refl

pub returns-clause-laid : goal.returns-clause-laid
returns-clause-laid c =
    let t = c.args.self.now in
    let slots = t.slots.items in
    let i = c.args.index in
    let old : Slot = c.index_mut.result.now in
    let new : Slot = c.lay.new.self in
    let within = c.requires.within in
    let laid = c.lay.ensures.laid in
    let is : block_at slots i ≡ Some (kept.Out laid.0) = block-read slots i old within c.index_mut.ensures.value ∙ laid.1 in
    let memory : Memory = memory_of laid.0 c.args.words in
    let turned : HasTurned slots i (kept.Laid memory) (slice_set slots i new) = turned-at slots i new (kept.Laid memory) within laid.2 in
    let out = c.requires.out in
    let n = c.args.number in
    let older : new.age ≡ (age_at slots i + 1) % 2 ^ 32 =
    c.lay.ensures.age ∙ ap (λ (a : ℕ). (a + 1) % 2 ^ 32) (sym (age-read slots i old within c.index_mut.ensures.value)) in
    let at : slice_index c.lay-2.new.self.firsts c.args.class % 2 ^ 32 ≡ i = ap (λ (k : ℕ). k % 2 ^ 32) c.lay-2.ensures.first ∙ older-slot n ∙ sym c.requires.is.0 in
    let same : out.0 ≡ laid.0 = same-lent out.0 laid.0 (sym out.1 ∙ is) in (
      laid.0,
      is,
      turned,
      record {
        serves = ap (λ (l : LentBlock). l.need) (sym same) ∙ out.2;
        there = ap (block_at (slice_set slots i new)) at ∙ turned.here;
        number = ap (λ (k : ℕ). age_at (slice_set slots i new) k * 2 ^ 32 + k % 2 ^ 32) at
            ∙ ap (λ (a : ℕ). a * 2 ^ 32 + i % 2 ^ 32) (age-set_same slots i new within ∙ older)
            ∙ older-number (age_at slots i) i n c.requires.is.1 ∙ sym c.lay-2.ensures.first;
      },
    )

pub returns-clause-less : goal.returns-clause-less
returns-clause-less c names =
    let t = c.args.self.now in
    let slots = t.slots.items in
    let i = c.args.index in
    let old : Slot = c.index_mut.result.now in
    let new : Slot = c.lay.new.self in
    let within = c.requires.within in
    let laid = c.lay.ensures.laid in
    let is : block_at slots i ≡ Some (kept.Out laid.0) = block-read slots i old within c.index_mut.ensures.value ∙ laid.1 in
    let memory : Memory = memory_of laid.0 c.args.words in
    let turned : HasTurned slots i (kept.Laid memory) (slice_set slots i new) = turned-at slots i new (kept.Laid memory) within laid.2 in
    lays-less t _ i c.args.number new (kept.Laid memory) c.requires.is.0 names within refl laid.2 refl
    (c.lay.ensures.age ∙ ap (λ (a : ℕ). (a + 1) % 2 ^ 32) (sym (age-read slots i old within c.index_mut.ensures.value)))

pub returns-clause-chain : goal.returns-clause-chain
returns-clause-chain c =
    after-set_same c.args.self.now.slots.items c.args.index c.lay.new.self c.requires.within ∙ c.lay.ensures.after ∙ c.first-after.ensures
