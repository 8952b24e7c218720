use Rattle.std.proofs.Common.{ℕ, ◌≡◌, ◌+◌, ◌*◌, ◌%◌, ◌^◌, Some, slice_index, slice_set, refl, sym, ap, ◌∙◌}
use Rattle.live_heap.specs.declared.block.Block.{Block}
use Rattle.balloc_c.specs.declared.kept.Kept.TheVariants as kept
use Rattle.balloc_c.specs.declared.table.Slot.{Slot}
use Rattle.balloc_c.specs.Laid.{HasTurned}
use Rattle.balloc_c.specs.Slots.{age_at, block_at}
use Rattle.balloc_c.proofs.LaidLemmas.{after-set_same, age-read, block-read, lays-less, older-number, older-slot, turned-at, turned-packed}
use Rattle.balloc_c.proofs.LendingLemmas.{same-home}
use Rattle.balloc_c.proofs.Slots.{age-set_same}
use Rattle.balloc_c.proofs.table.Table.rest.Goals as goal

pub rest-requires : goal.rest-requires
rest-requires c =
    let home = c.requires.home in
    (home.0, sym (block-read c.args.self.now.slots.items c.args.index c.index_mut.result.now c.requires.within c.index_mut.ensures.value) ∙ home.1)

pub returns-clause-packed : goal.returns-clause-packed
returns-clause-packed c =
    let t = c.args.self.now in
    let slots = t.slots.items in
    let i = c.args.index in
    let new : Slot = c.rest.new.self in
    let within = c.requires.within in
    let rests = c.rest.ensures.rests in
    let is : block_at slots i ≡ Some (kept.Home rests.0) = block-read slots i c.index_mut.result.now within c.index_mut.ensures.value ∙ rests.1 in
    let turned : HasTurned slots i (kept.Resting rests.0) (slice_set slots i new) = turned-at slots i new (kept.Resting rests.0) within rests.2 in
    turned-packed t _ i (kept.Home rests.0) (kept.Resting rests.0) c.requires.packed is turned refl refl

pub returns-clause-rests : goal.returns-clause-rests
returns-clause-rests c =
    let t = c.args.self.now in
    let slots = t.slots.items in
    let i = c.args.index in
    let new : Slot = c.rest.new.self in
    let within = c.requires.within in
    let rests = c.rest.ensures.rests in
    let is : block_at slots i ≡ Some (kept.Home rests.0) = block-read slots i c.index_mut.result.now within c.index_mut.ensures.value ∙ rests.1 in
    let turned : HasTurned slots i (kept.Resting rests.0) (slice_set slots i new) = turned-at slots i new (kept.Resting rests.0) within rests.2 in
    let home = c.requires.home in
    let n = c.args.number in
    let older : new.age ≡ (age_at slots i + 1) % 2 ^ 32 =
    c.rest.ensures.age ∙ ap (λ (a : ℕ). (a + 1) % 2 ^ 32) (sym (age-read slots i c.index_mut.result.now within c.index_mut.ensures.value)) in
    let at : slice_index c.lay.new.self.firsts c.args.class % 2 ^ 32 ≡ i = ap (λ (k : ℕ). k % 2 ^ 32) c.lay.ensures.first ∙ older-slot n ∙ sym c.requires.is.0 in
    let same : home.0 ≡ rests.0 = same-home home.0 rests.0 (sym home.1 ∙ is) in (
      rests.0,
      is,
      turned,
      record {
        serves = ap (λ (b : Block). b.need) (sym same) ∙ home.2;
        there = ap (block_at (slice_set slots i new)) at ∙ turned.here;
        number = ap (λ (k : ℕ). age_at (slice_set slots i new) k * 2 ^ 32 + k % 2 ^ 32) at
            ∙ ap (λ (a : ℕ). a * 2 ^ 32 + i % 2 ^ 32) (age-set_same slots i new within ∙ older)
            ∙ older-number (age_at slots i) i n c.requires.is.1 ∙ sym c.lay.ensures.first;
      },
    )

pub returns-clause-less : goal.returns-clause-less
returns-clause-less c names =
    let t = c.args.self.now in
    let slots = t.slots.items in
    let i = c.args.index in
    let within = c.requires.within in
    let rests = c.rest.ensures.rests in
    lays-less t _ i c.args.number c.rest.new.self (kept.Resting rests.0) c.requires.is.0 names within refl rests.2 refl
    (c.rest.ensures.age ∙ ap (λ (a : ℕ). (a + 1) % 2 ^ 32) (sym (age-read slots i c.index_mut.result.now within c.index_mut.ensures.value)))

pub returns-clause-chain : goal.returns-clause-chain
returns-clause-chain c =
    after-set_same c.args.self.now.slots.items c.args.index c.rest.new.self c.requires.within ∙ c.rest.ensures.after ∙ c.first-after.ensures
