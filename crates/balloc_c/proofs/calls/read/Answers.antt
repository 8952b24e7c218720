use Rattle.std.proofs.Common.{arith, rules, ◌≡◌, ◌<◌, Some, sym, ◌∙◌, refl}
use Rattle.errand_steps.specs.Begins.{IsIdle}
use Rattle.errand_steps.specs.declared.reply.Reply.TheVariants as reply
use Rattle.errand_steps.specs.Calls.{read}
use Rattle.balloc_c.proofs.Going.{word-goes}
use Rattle.balloc_c.specs.Slots.{block_at, lots_of}
use Rattle.balloc_c.specs.Numbers.{named}
use Rattle.balloc_c.specs.declared.kept.Kept.TheVariants as kept
use Rattle.balloc_c.proofs.Tending.{held-at, same-tends}
use Rattle.heap_geometry.specs.Need.{usable_words}
use Rattle.balloc_c.proofs.MadeCalls.{read-answers}
use Rattle.balloc_c.proofs.LendingLemmas.{home-slot}
use Rattle.balloc_c.proofs.Numbers.{found-seen}
use Rattle.balloc_c.proofs.calls.read.Goals as goal

pub read-requires-clause-held : goal.read-requires-clause-held
read-requires-clause-held c =
    let h = c.args.heap.now in
    let s = c.args.cache.now in
    let t = c.args.table.now in
    let block = c.home-block.result.now in
    let is : block_at t.slots.items c.in-Some.index ≡ Some (kept.Home block) = c.home-block.ensures in
    let idle : IsIdle s.pass.errand = search rules in
    held-at h s t.slots.items c.in-Some.index block c.requires.tends idle c.in-Some.ensures.found.0 is

pub returns-clause-tends : goal.returns-clause-tends
returns-clause-tends c =
    let h = c.args.heap.now in
    let s = c.args.cache.now in
    let t = c.args.table.now in
    let block = c.home-block.result.now in
    let idle : IsIdle s.pass.errand = search rules in
    same-tends h s c.read.new.self t.slots.items t.slots.items c.requires.tends c.read.ensures.cache
    (word-goes h s c.read.new.self (read block.place block.need c.args.i) (reply.Word c.read.result) (lots_of t.slots.items) c.requires.tends.cache c.read.ensures.cache idle tt c.read.ensures.called c.read.ensures.keeps)
    refl (λ i. refl)

pub returns-clause-answers : goal.returns-clause-answers
returns-clause-answers c =
    let h = c.args.heap.now in
    let s = c.args.cache.now in
    let t = c.args.table.now in
    let block = c.home-block.result.now in
    let is : block_at t.slots.items c.in-Some.index ≡ Some (kept.Home block) = c.home-block.ensures in
    let idle : IsIdle s.pass.errand = search rules in
    let names : named t c.args.number ≡ Some (kept.Home block) = c.in-Some.ensures.found.2 ∙ is in
    let has : c.args.i < usable_words block.need = omega (arith, c.if-i-usable_words.false, c.usable_words.ensures) in
    read-answers s t c.args.number c.args.i block c.read.result c.read.new.self idle names has c.read.ensures.called c.read.ensures.contents c.read.ensures.keeps

pub home-block-requires-clause-home : goal.home-block-requires-clause-home
home-block-requires-clause-home c =
    let t = c.args.table.now in
    let index = c.in-Some.index in
    home-slot (block_at t.slots.items index) (found-seen t c.args.number index c.in-Some.ensures.found.1 c.in-Some.ensures.found.3)
    (sym c.is_out.ensures ∙ c.if-is_out.false)
