use Rattle.std.proofs.Common.{rules, ◌≡◌, ◌≤◌, ◌+◌, Some, length, sym, ◌∙◌, refl}
use Rattle.errand_steps.specs.Begins.{IsIdle}
use Rattle.live_heap.specs.Memory.{writes_from}
use Rattle.balloc_c.proofs.Going.{words-goes, writes-on}
use Rattle.balloc_c.specs.Slots.{block_at, lots_of}
use Rattle.balloc_c.specs.Numbers.{named}
use Rattle.balloc_c.specs.declared.kept.Kept.TheVariants as kept
use Rattle.balloc_c.proofs.Tending.{held-at, same-tends}
use Rattle.heap_geometry.specs.Need.{usable_words}
use Rattle.balloc_c.proofs.MadeCalls.{writes-answers}
use Rattle.balloc_c.proofs.LendingLemmas.{home-slot}
use Rattle.balloc_c.proofs.Numbers.{found-seen}
use Rattle.balloc_c.proofs.ranges.write_range.Goals as goal

pub write_slice-requires-clause-held : goal.write_slice-requires-clause-held
write_slice-requires-clause-held c =
    let h = c.args.heap.now in
    let s = c.args.cache.now in
    let t = c.args.table.now in
    let block = c.home-block.result.now in
    let is : block_at t.slots.items c.in-Some.index ≡ Some (kept.Home block) = c.home-block.ensures in
    let idle : IsIdle s.pass.errand = search rules in
    held-at h s t.slots.items c.in-Some.index block c.requires.tends idle c.in-Some.ensures.found.0 is

pub returns-clause-tends : goal.returns-clause-tends
returns-clause-tends c =
    let h = c.args.heap.now in
    let s = c.args.cache.now in
    let t = c.args.table.now in
    let block = c.home-block.result.now in
    let idle : IsIdle s.pass.errand = search rules in
    same-tends h s c.write_slice.new.self t.slots.items t.slots.items c.requires.tends c.write_slice.ensures.cache
    (words-goes h s c.write_slice.new.self (writes_from block.place block.need c.args.from c.args.words.now) (lots_of t.slots.items) c.requires.tends.cache idle
    (writes-on block.place block.need c.args.from c.args.words.now) c.write_slice.ensures.wrote c.write_slice.ensures.keeps)
    refl (λ i. refl)

pub returns-clause-answers : goal.returns-clause-answers
returns-clause-answers c =
    let h = c.args.heap.now in
    let s = c.args.cache.now in
    let t = c.args.table.now in
    let block = c.home-block.result.now in
    let is : block_at t.slots.items c.in-Some.index ≡ Some (kept.Home block) = c.home-block.ensures in
    let idle : IsIdle s.pass.errand = search rules in
    let names : named t c.args.number ≡ Some (kept.Home block) = c.in-Some.ensures.found.2 ∙ is in
    let has : c.args.from + length c.args.words.now ≤ usable_words block.need = search rules in
    writes-answers h s t c.args.number c.args.from c.args.words.now block c.write_slice.new.self idle names has c.requires.tends.cache.hand.of (c.write_slice.ensures.wrote, c.write_slice.ensures.keeps)

pub home-block-requires-clause-home : goal.home-block-requires-clause-home
home-block-requires-clause-home c =
    let t = c.args.table.now in
    let index = c.in-Some.index in
    home-slot (block_at t.slots.items index) (found-seen t c.args.number index c.in-Some.ensures.found.1 c.in-Some.ensures.found.3)
    (sym c.is_out.ensures ∙ c.if-is_out.false)
