use Rattle.std.proofs.Common.{ℕ, arith, ◌≡◌, ◌<◌, ◌*◌, ◌+◌, ◌%◌, ◌^◌, Some, length, slice_set, refl, sym, ap, ◌∙◌, subst}
use Rattle.std.specs.Vec.{with_item}
use Rattle.live_heap.specs.declared.block.Block.{Block}
use Rattle.balloc_c.specs.declared.kept.Kept.TheVariants as kept
use Rattle.balloc_c.specs.declared.table.Slot.{Slot}
use Rattle.balloc_c.specs.declared.table.Table.{Table}
use Rattle.balloc_c.specs.Laid.{HasTurned, IsReadyIn, slot_of}
use Rattle.balloc_c.specs.Numbers.{NamesOneMore, number_at}
use Rattle.balloc_c.specs.Slots.{after_at, age_at, block_at}
use Rattle.balloc_c.proofs.LaidLemmas.{age-read, ages-kept, block-read, lifts-more, turned-at, turned-packed}
use Rattle.balloc_c.proofs.LendingLemmas.{same-resting}
use Rattle.balloc_c.proofs.Tending.{within-of}
use Rattle.balloc_c.proofs.table.Table.wake.Goals as goal

pub index_mut-requires : goal.index_mut-requires
index_mut-requires c =
    let ready = c.requires.ready in
    let t = c.args.self.now in
    let slots = t.slots.items in
    let i = c.args.index in
    let at : i ≡ slot_of t.resting c.args.class = c.requires.first in
    let within : i < length slots = within-of slots i (kept.Resting ready.0) (ap (block_at slots) at ∙ ready.1.there) in
    omega (arith, within, c.args.self.now.slots.ok.0)

pub wake-requires : goal.wake-requires
wake-requires c =
    let t = c.args.self.now in
    let slots = t.slots.items in
    let i = c.args.index in
    let at : i ≡ slot_of t.resting c.args.class = c.requires.first in
    let ready = c.requires.ready in
    let there : block_at slots i ≡ Some (kept.Resting ready.0) = ap (block_at slots) at ∙ ready.1.there in
    let within : i < length slots = within-of slots i (kept.Resting ready.0) there in
    (ready.0, sym (block-read slots i c.index_mut.result.now within c.index_mut.ensures.value) ∙ there)

pub returns-clause-packed : goal.returns-clause-packed
returns-clause-packed c =
    let t = c.args.self.now in
    let slots = t.slots.items in
    let i = c.args.index in
    let at : i ≡ slot_of t.resting c.args.class = c.requires.first in
    let new : Slot = c.wake.new.self in
    let ready = c.requires.ready in
    let there : block_at slots i ≡ Some (kept.Resting ready.0) = ap (block_at slots) at ∙ ready.1.there in
    let within : i < length slots = within-of slots i (kept.Resting ready.0) there in
    let woken = c.wake.ensures.woken in
    let is : block_at slots i ≡ Some (kept.Resting woken.0) = block-read slots i c.index_mut.result.now within c.index_mut.ensures.value ∙ woken.1 in
    let turned : HasTurned slots i (kept.Home woken.0) (slice_set slots i new) = turned-at slots i new (kept.Home woken.0) within woken.2 in
    turned-packed t _ i (kept.Resting woken.0) (kept.Home woken.0) c.requires.packed is turned refl refl

pub returns-clause-woken : goal.returns-clause-woken
returns-clause-woken c =
    let t = c.args.self.now in
    let slots = t.slots.items in
    let i = c.args.index in
    let at : i ≡ slot_of t.resting c.args.class = c.requires.first in
    let old : Slot = c.index_mut.result.now in
    let new : Slot = c.wake.new.self in
    let ready = c.requires.ready in
    let there : block_at slots i ≡ Some (kept.Resting ready.0) = ap (block_at slots) at ∙ ready.1.there in
    let within : i < length slots = within-of slots i (kept.Resting ready.0) there in
    let woken = c.wake.ensures.woken in
    let is : block_at slots i ≡ Some (kept.Resting woken.0) = block-read slots i old within c.index_mut.ensures.value ∙ woken.1 in
    let turned : HasTurned slots i (kept.Home woken.0) (slice_set slots i new) = turned-at slots i new (kept.Home woken.0) within woken.2 in
    let same : ready.0 ≡ woken.0 = same-resting ready.0 woken.0 (sym there ∙ is) in
    let u : Table = record { slots = with_item t.slots i new; spare = t.spare; resting = c.lift.new.self; laid = t.laid } in
    let few = c.requires.packed.few in
    let small : i < 2 ^ 32 = omega (arith, within, few) in
    let ages : (j : ℕ) → age_at u.slots.items j ≡ age_at slots j =
    ages-kept slots i new within (c.wake.ensures.age ∙ sym (age-read slots i old within c.index_mut.ensures.value)) in
    let number : number_at u i ≡ c.first-number.result =
    ap (λ (a : ℕ). a * 2 ^ 32 + i % 2 ^ 32) (ages i) ∙ ap (number_at t) at ∙ ready.1.number ∙ sym c.first-number.ensures in
    let more = lifts-more t u i (kept.Resting woken.0) (kept.Home woken.0) small is refl refl turned ages in (
      woken.0,
      subst (λ (b : Block). IsReadyIn t c.args.class (kept.Resting b)) same ready.1,
      subst (λ (n : ℕ). HasTurned slots n (kept.Home woken.0) (slice_set slots i new)) at turned,
      record {
        first = c.first-number.ensures;
        more = subst (λ (n : ℕ). NamesOneMore t n (kept.Home woken.0) u) number more;
        left = c.lift.ensures.room;
        next = c.lift.ensures.first ∙ c.after-after.ensures ∙ ap (after_at slots) at;
      },
    )
