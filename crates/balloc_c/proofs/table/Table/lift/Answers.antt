use Rattle.std.proofs.Common.{ℕ, arith, ◌≡◌, ◌<◌, ◌*◌, ◌+◌, ◌%◌, ◌^◌, Some, length, slice_set, refl, sym, ap, ◌∙◌, subst}
use Rattle.live_heap.specs.declared.plain.Memory.{Memory}
use Rattle.balloc_c.specs.declared.kept.Kept.TheVariants as kept
use Rattle.std.specs.Vec.{with_item}
use Rattle.balloc_c.specs.declared.table.Slot.{Slot}
use Rattle.balloc_c.specs.declared.table.Table.{Table}
use Rattle.balloc_c.specs.Laid.{HasTurned, IsReadyIn, slot_of}
use Rattle.balloc_c.specs.Numbers.{NamesOneMore, number_at}
use Rattle.balloc_c.specs.Slots.{after_at, age_at, block_at}
use Rattle.balloc_c.proofs.LaidLemmas.{age-read, ages-kept, block-read, lifts-more, turned-at, turned-packed}
use Rattle.balloc_c.proofs.LendingLemmas.{same-laid}
use Rattle.balloc_c.proofs.Tending.{within-of}
use Rattle.balloc_c.proofs.table.Table.lift.Goals as goal

pub index_mut-requires : goal.index_mut-requires
index_mut-requires c =
    let ready = c.requires.ready in
    let t = c.args.self.now in
    let slots = t.slots.items in
    let i = c.args.index in
    let at : i ≡ slot_of t.laid c.args.class = c.requires.first in
    let within : i < length slots = within-of slots i (kept.Laid ready.0) (ap (block_at slots) at ∙ ready.1.there) in
    omega (arith, within, c.args.self.now.slots.ok.0)

pub lift-memory-requires : goal.lift-memory-requires
lift-memory-requires c =
    let t = c.args.self.now in
    let slots = t.slots.items in
    let i = c.args.index in
    let at : i ≡ slot_of t.laid c.args.class = c.requires.first in
    let ready = c.requires.ready in
    let there : block_at slots i ≡ Some (kept.Laid ready.0) = ap (block_at slots) at ∙ ready.1.there in
    let within : i < length slots = within-of slots i (kept.Laid ready.0) there in
    (ready.0, sym (block-read slots i c.index_mut.result.now within c.index_mut.ensures.value) ∙ there)

pub returns-clause-packed : goal.returns-clause-packed
returns-clause-packed c =
    let t = c.args.self.now in
    let slots = t.slots.items in
    let i = c.args.index in
    let at : i ≡ slot_of t.laid c.args.class = c.requires.first in
    let memory : Memory = c.lift-memory.result in
    let old : Slot = c.index_mut.result.now in
    let new : Slot = c.lift-memory.new.self in
    let ready = c.requires.ready in
    let there : block_at slots i ≡ Some (kept.Laid ready.0) = ap (block_at slots) at ∙ ready.1.there in
    let within : i < length slots = within-of slots i (kept.Laid ready.0) there in
    let is : block_at slots i ≡ Some (kept.Laid memory) = block-read slots i old within c.index_mut.ensures.value ∙ c.lift-memory.ensures.laid in
    let out = c.lift-memory.ensures.out in
    let turned : HasTurned slots i (kept.Out out.0) (slice_set slots i new) = turned-at slots i new (kept.Out out.0) within out.1 in
    turned-packed t _ i (kept.Laid memory) (kept.Out out.0) c.requires.packed is turned out.2 refl

pub returns-clause-ready : goal.returns-clause-ready
returns-clause-ready c =
    let t = c.args.self.now in
    let slots = t.slots.items in
    let i = c.args.index in
    let at : i ≡ slot_of t.laid c.args.class = c.requires.first in
    let memory : Memory = c.lift-memory.result in
    let old : Slot = c.index_mut.result.now in
    let new : Slot = c.lift-memory.new.self in
    let ready = c.requires.ready in
    let there : block_at slots i ≡ Some (kept.Laid ready.0) = ap (block_at slots) at ∙ ready.1.there in
    let within : i < length slots = within-of slots i (kept.Laid ready.0) there in
    let is : block_at slots i ≡ Some (kept.Laid memory) = block-read slots i old within c.index_mut.ensures.value ∙ c.lift-memory.ensures.laid in
    let out = c.lift-memory.ensures.out in
    let turned : HasTurned slots i (kept.Out out.0) (slice_set slots i new) = turned-at slots i new (kept.Out out.0) within out.1 in
    let same : ready.0 ≡ memory = same-laid ready.0 memory (sym there ∙ is) in
    subst (λ (m : Memory). IsReadyIn t c.args.class (kept.Laid m)) same ready.1

pub returns-clause-out : goal.returns-clause-out
returns-clause-out c =
    let t = c.args.self.now in
    let slots = t.slots.items in
    let i = c.args.index in
    let at : i ≡ slot_of t.laid c.args.class = c.requires.first in
    let memory : Memory = c.lift-memory.result in
    let old : Slot = c.index_mut.result.now in
    let new : Slot = c.lift-memory.new.self in
    let ready = c.requires.ready in
    let there : block_at slots i ≡ Some (kept.Laid ready.0) = ap (block_at slots) at ∙ ready.1.there in
    let within : i < length slots = within-of slots i (kept.Laid ready.0) there in
    let is : block_at slots i ≡ Some (kept.Laid memory) = block-read slots i old within c.index_mut.ensures.value ∙ c.lift-memory.ensures.laid in
    let out = c.lift-memory.ensures.out in
    let turned : HasTurned slots i (kept.Out out.0) (slice_set slots i new) = turned-at slots i new (kept.Out out.0) within out.1 in
    let u : Table = record { slots = with_item t.slots i new; spare = t.spare; resting = t.resting; laid = c.lift.new.self } in
    let few = c.requires.packed.few in
    let small : i < 2 ^ 32 = omega (arith, within, few) in
    let ages : (j : ℕ) → age_at u.slots.items j ≡ age_at slots j =
    ages-kept slots i new within (c.lift-memory.ensures.age ∙ sym (age-read slots i old within c.index_mut.ensures.value)) in
    let number : number_at u i ≡ c.first-number.result =
    ap (λ (a : ℕ). a * 2 ^ 32 + i % 2 ^ 32) (ages i) ∙ ap (number_at t) at ∙ ready.1.number ∙ sym c.first-number.ensures in
    let more = lifts-more t u i (kept.Laid memory) (kept.Out out.0) small is refl refl turned ages in (
      out.0,
      out.2,
      subst (λ (n : ℕ). HasTurned slots n (kept.Out out.0) (slice_set slots i new)) at turned,
      record {
        first = c.first-number.ensures;
        more = subst (λ (n : ℕ). NamesOneMore t n (kept.Out out.0) u) number more;
        left = c.lift.ensures.room;
        next = c.lift.ensures.first ∙ c.after-after.ensures ∙ ap (after_at slots) at;
      },
    )
