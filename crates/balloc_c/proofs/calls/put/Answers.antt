use Rattle.std.proofs.Common.{arith, rules, ◌≡◌, ◌<◌, Some, Result, Ok, Err, refl, sym, ◌∙◌}
use Rattle.errand_steps.specs.Begins.{IsIdle}
use Rattle.balloc_c.specs.Slots.{block_at}
use Rattle.balloc_c.specs.Numbers.{NamesOneLess, named}
use Rattle.live_heap.specs.declared.answers.Full.{Full}
use Rattle.balloc_c.specs.declared.kept.Kept.TheVariants as kept
use Rattle.balloc_c.proofs.Going.{put-goes}
use Rattle.balloc_c.proofs.LendingLemmas.{home-slot}
use Rattle.balloc_c.proofs.Tending.{back-tends, gone-tends, held-at}
use Rattle.heap_geometry.specs.declared.limits.TheConstants.{SHELVES}
use Rattle.balloc_c.proofs.MadeCalls.{full-answers, loses-at, put-answers}
use Rattle.balloc_c.proofs.Packing.{back-packed, few-gone, few-out, few-set, gone-packed}
use Rattle.balloc_c.proofs.Numbers.{found-seen}
use Rattle.balloc_c.proofs.calls.put.Goals as goal

pub put-requires-clause-held : goal.put-requires-clause-held
put-requires-clause-held c =
    let h = c.args.heap.now in
    let s = c.args.cache.now in
    let t = c.args.table.now in
    let index = c.in-Some.index in
    let block = c.take_home-block.result in
    let is : block_at t.slots.items index ≡ Some (kept.Home block) = c.take_home-block.ensures.value in
    let idle : IsIdle s.pass.errand = search rules in
    held-at h s t.slots.items index block c.requires.tends idle c.in-Some.ensures.found.0 is

pub returns-in-Ok-clause-tends : goal.returns-in-Ok-clause-tends
returns-in-Ok-clause-tends c =
    let h = c.args.heap.now in
    let s = c.args.cache.now in
    let t = c.args.table.now in
    let index = c.in-Some.index in
    let block = c.take_home-block.result in
    let is : block_at t.slots.items index ≡ Some (kept.Home block) = c.take_home-block.ensures.value in
    let idle : IsIdle s.pass.errand = search rules in
    let done : Result (Unit {0}) Full = Ok tt in
    gone-tends h s c.put.new.self t.slots.items c.take_home-block.new.self.slots.items c.retire.new.self.slots.items index (kept.Home block) c.requires.tends
    c.in-Some.ensures.found.0 is c.take_home-block.ensures.slots c.retire.ensures.aged.blocks c.retire.ensures.aged.same c.put.ensures.cache
    (λ held. put-goes h s c.put.new.self block c.args.shelf done held c.requires.tends.cache c.put.ensures.cache idle c.in-Ok.ensures.put tt c.put.ensures.keeps)

pub returns-in-Ok-clause-answers : goal.returns-in-Ok-clause-answers
returns-in-Ok-clause-answers c =
    let h = c.args.heap.now in
    let s = c.args.cache.now in
    let t = c.args.table.now in
    let index = c.in-Some.index in
    let block = c.take_home-block.result in
    let is : block_at t.slots.items index ≡ Some (kept.Home block) = c.take_home-block.ensures.value in
    let idle : IsIdle s.pass.errand = search rules in
    let names : named t c.args.number ≡ Some (kept.Home block) = c.in-Some.ensures.found.2 ∙ is in
    let loses : NamesOneLess t c.args.number c.retire.new.self =
    loses-at t c.retire.new.self c.take_home-block.new.self.slots.items index c.args.number c.in-Some.ensures.found.1 c.in-Some.ensures.found.3
    c.in-Some.ensures.found.0 c.take_home-block.ensures.slots c.retire.ensures.aged in
    let has : c.args.shelf < SHELVES = omega (arith, c.if-shelf-ge-SHELVES.false) in
    put-answers s t c.args.number c.args.shelf block c.put.new.self c.retire.new.self idle names has c.in-Ok.ensures.put c.put.ensures.keeps loses

pub returns-in-Err-clause-tends : goal.returns-in-Err-clause-tends
returns-in-Err-clause-tends c =
    let h = c.args.heap.now in
    let s = c.args.cache.now in
    let t = c.args.table.now in
    let index = c.in-Some.index in
    let block = c.take_home-block.result in
    let is : block_at t.slots.items index ≡ Some (kept.Home block) = c.take_home-block.ensures.value in
    let idle : IsIdle s.pass.errand = search rules in
    let full : Result (Unit {0}) Full = Err c.in-Err.field-0 in
    back-tends h s c.put.new.self t.slots.items c.take_home-block.new.self.slots.items c.set.new.self.slots.items index block c.in-Err.field-0.block
    c.requires.tends c.in-Some.ensures.found.0 is c.take_home-block.ensures.slots c.set.ensures.slots c.put.ensures.cache
    (λ held. put-goes h s c.put.new.self block c.args.shelf full held c.requires.tends.cache c.put.ensures.cache idle tt c.in-Err.ensures.full c.put.ensures.keeps)
    c.in-Err.ensures.full.owned.1

pub returns-in-Err-clause-answers : goal.returns-in-Err-clause-answers
returns-in-Err-clause-answers c =
    let h = c.args.heap.now in
    let s = c.args.cache.now in
    let t = c.args.table.now in
    let index = c.in-Some.index in
    let block = c.take_home-block.result in
    let is : block_at t.slots.items index ≡ Some (kept.Home block) = c.take_home-block.ensures.value in
    let idle : IsIdle s.pass.errand = search rules in
    let names : named t c.args.number ≡ Some (kept.Home block) = c.in-Some.ensures.found.2 ∙ is in
    let has : c.args.shelf < SHELVES = omega (arith, c.if-shelf-ge-SHELVES.false) in
    full-answers s t c.args.number c.args.shelf block c.in-Err.field-0.block c.in-Err.field-0 c.put.new.self c.set.new.self
    c.take_home-block.new.self.slots.items index idle names has c.in-Err.ensures.full c.put.ensures.keeps c.in-Some.ensures.found.0 is c.take_home-block.ensures.slots
    c.set.ensures.slots refl

pub returns-in-Ok-clause-packed : goal.returns-in-Ok-clause-packed
returns-in-Ok-clause-packed c =
    let t = c.args.table.now in
    let index = c.in-Some.index in
    let block = c.take_home-block.result in
    let is : block_at t.slots.items index ≡ Some (kept.Home block) = c.take_home-block.ensures.value in
    gone-packed t c.take_home-block.new.self c.retire.new.self index (kept.Home block) c.requires.packed c.in-Some.ensures.found.0 is c.take_home-block.ensures.slots c.take_home-block.ensures.spare
    c.retire.ensures.aged c.retire.ensures.linked

pub returns-in-Ok-clause-few : goal.returns-in-Ok-clause-few
returns-in-Ok-clause-few c =
    few-gone c.args.table.now c.take_home-block.new.self c.retire.new.self c.in-Some.index c.take_home-block.ensures.slots c.retire.ensures.aged

pub returns-in-Err-clause-packed : goal.returns-in-Err-clause-packed
returns-in-Err-clause-packed c =
    let t = c.args.table.now in
    let index = c.in-Some.index in
    let block = c.take_home-block.result in
    let is : block_at t.slots.items index ≡ Some (kept.Home block) = c.take_home-block.ensures.value in
    back-packed t c.take_home-block.new.self c.set.new.self index (kept.Home block) (kept.Home c.in-Err.field-0.block) c.requires.packed c.in-Some.ensures.found.0 is
    c.take_home-block.ensures.slots c.take_home-block.ensures.spare c.set.ensures.slots c.set.ensures.spare

pub returns-in-Err-clause-few : goal.returns-in-Err-clause-few
returns-in-Err-clause-few c =
    few-set c.args.table.now c.take_home-block.new.self c.set.new.self c.in-Some.index (Some (kept.Home c.in-Err.field-0.block))
    (few-out c.args.table.now c.take_home-block.new.self c.in-Some.index c.take_home-block.ensures.slots) c.set.ensures.slots

pub take_home-block-requires-clause-home : goal.take_home-block-requires-clause-home
take_home-block-requires-clause-home c =
    home-slot (block_at c.args.table.now.slots.items c.in-Some.index)
    (found-seen c.args.table.now c.args.number c.in-Some.index c.in-Some.ensures.found.1 c.in-Some.ensures.found.3) (sym c.is_out.ensures ∙ c.if-is_out.false)
