use Rattle.std.proofs.Common.{ℕ, ◌≡◌, ◌≢◌, Some, List, refl, sym, ap, ◌∙◌, subst}
use Rattle.std.specs.Prelude.{length, replicate}
use Rattle.heap_geometry.specs.Need.{usable_words}
use Rattle.sound_laws.specs.events.Made.{LeadsBy}
use Rattle.plain_words.specs.Places.{numbers}
use Rattle.plain_words.specs.declared.plain.PlainWords.{PlainWords}
use Rattle.live_heap.specs.declared.block.Block.{Block}
use Rattle.live_heap.specs.declared.plain.Memory.{Memory}
use Rattle.live_heap.specs.Memory.{HasTaken, IsMemoryOf, IsTaken, before_taking, writes_from}
use Rattle.live_heap.specs.Words.{CallsOnWord}
use Rattle.live_heap.proofs.laws_for_builders.Hands.{block-same}
use Rattle.live_heap.proofs.laws_for_builders.Memory.{numbers-laids}
use Rattle.balloc_c.specs.declared.kept.Kept.TheVariants as kept
use Rattle.balloc_c.specs.declared.lent.LentBlock.{LentBlock}
use Rattle.balloc_c.specs.Kept.{block_of}
use Rattle.balloc_c.specs.Laid.{HasTurned}
use Rattle.balloc_c.specs.Lending.{IsRoomFor, zeros}
use Rattle.balloc_c.specs.Slots.{block_at}
use Rattle.balloc_c.specs.Tended.{Stands}
use Rattle.balloc_c.proofs.LaidLemmas.{room-on, turned-packed, turned-set}
use Rattle.balloc_c.proofs.LendingLemmas.{home-tends, laid-slot}
use Rattle.balloc_c.proofs.MemoryCalls.{zeros-memory}
use Rattle.balloc_c.proofs.calls.bring_laid.Goals as goal

pub take_laid-memory-requires-clause-laid : goal.take_laid-memory-requires-clause-laid
take_laid-memory-requires-clause-laid c = laid-slot (block_at c.args.table.now.slots.items c.args.index) c.requires.laid

pub zeroed-words-requires : goal.zeroed-words-requires
zeroed-words-requires c =
    let h = c.args.heap.now in
    let s = c.args.cache.now in
    let memory : Memory = c.take_laid-memory.result in
    let lent : LentBlock = c.new.result in
    let stands : Stands h s.pass (Some (kept.Laid memory)) = subst (Stands h s.pass) c.take_laid-memory.ensures.value (c.requires.tends.stand c.args.index) in
    let at : lent.place ≡ memory.block.place = c.new.ensures.0 ∙ c.place-place.ensures in
    let need : lent.need ≡ memory.block.need = c.new.ensures.1 ∙ c.need-need.ensures in
    room-on h memory.block.place lent.place memory.block.need lent.need memory.words c.into_words.result (sym at) (sym need) (sym c.into_words.ensures) stands.1

pub bring_home-homed-requires-clause-memory : goal.bring_home-homed-requires-clause-memory
bring_home-homed-requires-clause-memory c =
    let h = c.args.heap.now in
    let s = c.args.cache.now in
    let t = c.args.table.now in
    let i = c.args.index in
    let memory : Memory = c.take_laid-memory.result in
    let given : Memory = c.of_words.result in
    let lent : LentBlock = c.new.result in
    let is : block_at t.slots.items i ≡ Some (kept.Laid memory) = c.take_laid-memory.ensures.value in
    let stands : Stands h s.pass (Some (kept.Laid memory)) = subst (Stands h s.pass) is (c.requires.tends.stand i) in
    let at : lent.place ≡ memory.block.place = c.new.ensures.0 ∙ c.place-place.ensures in
    let need : lent.need ≡ memory.block.need = c.new.ensures.1 ∙ c.need-need.ensures in
    let token : block_of (kept.Out lent) ≡ given.block =
    block-same (block_of (kept.Out lent)) given.block (c.new.ensures.0 ∙ sym c.of_words.ensures.block.0) (c.new.ensures.1 ∙ sym c.of_words.ensures.block.1) in
    let block : given.block ≡ memory.block =
    block-same given.block memory.block (c.of_words.ensures.block.0 ∙ c.place-place.ensures) (c.of_words.ensures.block.1 ∙ c.need-need.ensures) in
    let room : IsRoomFor h lent c.into_words.result =
    room-on h memory.block.place lent.place memory.block.need lent.need memory.words c.into_words.result (sym at) (sym need) (sym c.into_words.ensures) stands.1 in
    let z = c.zeroed-words.ensures in
    let whole : record { block = block_of (kept.Out lent); words = c.zeroed-words.result } ≡ given =
    λ j. record { block = token j; words = (sym c.of_words.ensures.words) j } in
    subst (IsMemoryOf h) whole (zeros-memory h lent c.into_words.result c.zeroed-words.result room z.0 z.1 z.2)

pub bring_home-homed-requires-clause-taken : goal.bring_home-homed-requires-clause-taken
bring_home-homed-requires-clause-taken c =
    let h = c.args.heap.now in
    let s = c.args.cache.now in
    let t = c.args.table.now in
    let i = c.args.index in
    let memory : Memory = c.take_laid-memory.result in
    let given : Memory = c.of_words.result in
    let lent : LentBlock = c.new.result in
    let is : block_at t.slots.items i ≡ Some (kept.Laid memory) = c.take_laid-memory.ensures.value in
    let stands : Stands h s.pass (Some (kept.Laid memory)) = subst (Stands h s.pass) is (c.requires.tends.stand i) in
    let at : lent.place ≡ memory.block.place = c.new.ensures.0 ∙ c.place-place.ensures in
    let need : lent.need ≡ memory.block.need = c.new.ensures.1 ∙ c.need-need.ensures in
    let token : block_of (kept.Out lent) ≡ given.block =
    block-same (block_of (kept.Out lent)) given.block (c.new.ensures.0 ∙ sym c.of_words.ensures.block.0) (c.new.ensures.1 ∙ sym c.of_words.ensures.block.1) in
    let block : given.block ≡ memory.block =
    block-same given.block memory.block (c.of_words.ensures.block.0 ∙ c.place-place.ensures) (c.of_words.ensures.block.1 ∙ c.need-need.ensures) in
    let room : IsRoomFor h lent c.into_words.result =
    room-on h memory.block.place lent.place memory.block.need lent.need memory.words c.into_words.result (sym at) (sym need) (sym c.into_words.ensures) stands.1 in
    subst (λ (b : Block). IsTaken s.pass b.place b.need) (sym block) stands.0.0

pub returns : goal.returns
returns c =
    let h = c.args.heap.now in
    let s = c.args.cache.now in
    let t = c.args.table.now in
    let i = c.args.index in
    let memory : Memory = c.take_laid-memory.result in
    let given : Memory = c.of_words.result in
    let lent : LentBlock = c.new.result in
    let is : block_at t.slots.items i ≡ Some (kept.Laid memory) = c.take_laid-memory.ensures.value in
    let stands : Stands h s.pass (Some (kept.Laid memory)) = subst (Stands h s.pass) is (c.requires.tends.stand i) in
    let at : lent.place ≡ memory.block.place = c.new.ensures.0 ∙ c.place-place.ensures in
    let need : lent.need ≡ memory.block.need = c.new.ensures.1 ∙ c.need-need.ensures in
    let token : block_of (kept.Out lent) ≡ given.block =
    block-same (block_of (kept.Out lent)) given.block (c.new.ensures.0 ∙ sym c.of_words.ensures.block.0) (c.new.ensures.1 ∙ sym c.of_words.ensures.block.1) in
    let block : given.block ≡ memory.block =
    block-same given.block memory.block (c.of_words.ensures.block.0 ∙ c.place-place.ensures) (c.of_words.ensures.block.1 ∙ c.need-need.ensures) in
    let room : IsRoomFor h lent c.into_words.result =
    room-on h memory.block.place lent.place memory.block.need lent.need memory.words c.into_words.result (sym at) (sym need) (sym c.into_words.ensures) stands.1 in
    let d = c.bring_home-homed.new.self in
    let u = c.set.new.self in
    let m = c.bring_home-homed.ensures in
    let same : c.bring_home-homed.result ≡ memory.block = m.block ∙ block in
    let middle = c.take_laid-memory.new.self.slots.items in
    let turned : HasTurned t.slots.items i (kept.Home memory.block) u.slots.items =
    subst (λ (b : Block). HasTurned t.slots.items i (kept.Home b) u.slots.items) same
    (turned-set t.slots.items middle u.slots.items i (kept.Home c.bring_home-homed.result) c.requires.within c.take_laid-memory.ensures.slots c.set.ensures.slots) in
    let holds : numbers given.words.places ≡ replicate (usable_words memory.block.need) 0 =
    ap (λ (w : PlainWords). numbers w.places) c.of_words.ensures.words ∙ ap numbers c.zeroed-words.ensures.2 ∙ numbers-laids (zeros c.into_words.result)
    ∙ ap (λ (n : ℕ). replicate n 0) (ap (λ (w : PlainWords). length w.places) c.into_words.ensures ∙ stands.1.long) in
    let wrote : LeadsBy (CallsOnWord h) (before_taking s.pass memory.block.place)
    (writes_from memory.block.place memory.block.need 0 (replicate (usable_words memory.block.need) 0)) d.pass =
    subst (λ (ns : List ℕ). LeadsBy (CallsOnWord h) (before_taking s.pass memory.block.place) (writes_from memory.block.place memory.block.need 0 ns) d.pass) holds
    (subst (λ (b : Block). LeadsBy (CallsOnWord h) (before_taking s.pass b.place) (writes_from b.place b.need 0 (numbers given.words.places)) d.pass) block m.wrote) in
    let others = subst (λ (b : Block). (other : Memory) → HasTaken s.pass other → other.block.place ≢ b.place → HasTaken d.pass other) block m.others in
    record {
      tends = home-tends h s d t.slots.items middle u.slots.items i (kept.Laid memory) memory.block.place memory.block.need c.bring_home-homed.result memory.words
          (replicate (usable_words memory.block.need) 0) c.requires.tends c.requires.idle c.requires.within is refl c.take_laid-memory.ensures.slots
          c.set.ensures.slots same m.cache m.keeps wrote m.owned others m.owns;
      packed = turned-packed t u i (kept.Laid memory) (kept.Home memory.block) c.requires.packed is turned refl
          (c.set.ensures.spare ∙ c.take_laid-memory.ensures.spare);
      idle = m.idle;
      homed = (memory, is, record { heap = h; of = c.requires.tends.cache.hand.of; wrote = wrote; keeps = m.keeps }, turned);
    }
