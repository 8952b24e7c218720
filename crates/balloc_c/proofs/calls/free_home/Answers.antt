use Rattle.std.proofs.Common.{◌≡◌, Some, sym, ◌∙◌}
use Rattle.balloc_c.specs.Slots.{block_at}
use Rattle.balloc_c.specs.Numbers.{NamesOneLess, named}
use Rattle.balloc_c.specs.declared.kept.Kept.TheVariants as kept
use Rattle.balloc_c.proofs.Going.{free-goes}
use Rattle.balloc_c.proofs.Tending.{gone-tends, held-at}
use Rattle.live_heap.specs.declared.answers.FreeAnswer.TheVariants as free_answer
use Rattle.balloc_c.specs.Through.{IsFree}
use Rattle.balloc_c.proofs.MadeCalls.{free-answers, free-stops, loses-at}
use Rattle.balloc_c.proofs.Numbers.{some-not-none}
use Rattle.balloc_c.proofs.Packing.{few-gone, gone-packed}
use Rattle.balloc_c.proofs.calls.free_home.Goals as goal

pub free-requires-clause-held : goal.free-requires-clause-held
free-requires-clause-held c =
    let h = c.args.heap.now in
    let s = c.args.cache.now in
    let t = c.args.table.now in
    let index = c.args.index in
    let block = c.take_home-block.result in
    let is : block_at t.slots.items index ≡ Some (kept.Home block) = c.take_home-block.ensures.value in
    held-at h s t.slots.items index block c.requires.tends c.requires.idle c.requires.within is

pub returns-in-Freed-clause-tends : goal.returns-in-Freed-clause-tends
returns-in-Freed-clause-tends c =
    let h = c.args.heap.now in
    let s = c.args.cache.now in
    let t = c.args.table.now in
    let index = c.args.index in
    let block = c.take_home-block.result in
    let is : block_at t.slots.items index ≡ Some (kept.Home block) = c.take_home-block.ensures.value in
    let told : IsFree s block free_answer.Freed c.free.new.self =
    record { kept = c.in-Freed.ensures.kept; asked = c.in-Freed.ensures.asked; depth = c.free.ensures.depth } in
    gone-tends h s c.free.new.self t.slots.items c.take_home-block.new.self.slots.items c.retire.new.self.slots.items index (kept.Home block) c.requires.tends
    c.requires.within is c.take_home-block.ensures.slots c.retire.ensures.aged.blocks c.retire.ensures.aged.same c.free.ensures.cache
    (λ held. free-goes h s c.free.new.self block free_answer.Freed held c.requires.tends.cache c.free.ensures.cache c.requires.idle told)

pub returns-in-Freed-clause-answers : goal.returns-in-Freed-clause-answers
returns-in-Freed-clause-answers c =
    let h = c.args.heap.now in
    let s = c.args.cache.now in
    let t = c.args.table.now in
    let index = c.args.index in
    let block = c.take_home-block.result in
    let is : block_at t.slots.items index ≡ Some (kept.Home block) = c.take_home-block.ensures.value in
    let names : named t c.args._number ≡ Some (kept.Home block) = c.requires.named ∙ is in
    let loses : NamesOneLess t c.args._number c.retire.new.self =
    loses-at t c.retire.new.self c.take_home-block.new.self.slots.items index c.args._number c.requires.is (λ none. some-not-none (kept.Home block) (sym names ∙ none))
    c.requires.within c.take_home-block.ensures.slots c.retire.ensures.aged in
    let told : IsFree s block free_answer.Freed c.free.new.self =
    record { kept = c.in-Freed.ensures.kept; asked = c.in-Freed.ensures.asked; depth = c.free.ensures.depth } in
    free-answers s t c.args._number block c.free.new.self c.retire.new.self c.requires.idle names told loses

pub returns-in-Busy-clause-tends : goal.returns-in-Busy-clause-tends
returns-in-Busy-clause-tends c =
    let h = c.args.heap.now in
    let s = c.args.cache.now in
    let t = c.args.table.now in
    let index = c.args.index in
    let block = c.take_home-block.result in
    let is : block_at t.slots.items index ≡ Some (kept.Home block) = c.take_home-block.ensures.value in
    let told : IsFree s block free_answer.Busy c.free.new.self =
    record { kept = c.in-Busy.ensures.kept; asked = c.in-Busy.ensures.asked; depth = c.free.ensures.depth } in
    gone-tends h s c.free.new.self t.slots.items c.take_home-block.new.self.slots.items c.retire.new.self.slots.items index (kept.Home block) c.requires.tends
    c.requires.within is c.take_home-block.ensures.slots c.retire.ensures.aged.blocks c.retire.ensures.aged.same c.free.ensures.cache
    (λ held. free-goes h s c.free.new.self block free_answer.Busy held c.requires.tends.cache c.free.ensures.cache c.requires.idle told)

pub returns-in-Busy-clause-answers : goal.returns-in-Busy-clause-answers
returns-in-Busy-clause-answers c =
    let h = c.args.heap.now in
    let s = c.args.cache.now in
    let t = c.args.table.now in
    let index = c.args.index in
    let block = c.take_home-block.result in
    let is : block_at t.slots.items index ≡ Some (kept.Home block) = c.take_home-block.ensures.value in
    let names : named t c.args._number ≡ Some (kept.Home block) = c.requires.named ∙ is in
    let loses : NamesOneLess t c.args._number c.retire.new.self =
    loses-at t c.retire.new.self c.take_home-block.new.self.slots.items index c.args._number c.requires.is (λ none. some-not-none (kept.Home block) (sym names ∙ none))
    c.requires.within c.take_home-block.ensures.slots c.retire.ensures.aged in
    let told : IsFree s block free_answer.Busy c.free.new.self =
    record { kept = c.in-Busy.ensures.kept; asked = c.in-Busy.ensures.asked; depth = c.free.ensures.depth } in
    free-stops s t c.args._number block c.free.new.self c.retire.new.self c.requires.idle names told loses

pub returns-in-Freed-clause-packed : goal.returns-in-Freed-clause-packed
returns-in-Freed-clause-packed c =
    let t = c.args.table.now in
    let index = c.args.index in
    let block = c.take_home-block.result in
    let is : block_at t.slots.items index ≡ Some (kept.Home block) = c.take_home-block.ensures.value in
    gone-packed t c.take_home-block.new.self c.retire.new.self index (kept.Home block) c.requires.packed c.requires.within is c.take_home-block.ensures.slots c.take_home-block.ensures.spare
    c.retire.ensures.aged c.retire.ensures.linked

pub returns-in-Freed-clause-few : goal.returns-in-Freed-clause-few
returns-in-Freed-clause-few c =
    few-gone c.args.table.now c.take_home-block.new.self c.retire.new.self c.args.index c.take_home-block.ensures.slots c.retire.ensures.aged

pub returns-in-Busy-clause-packed : goal.returns-in-Busy-clause-packed
returns-in-Busy-clause-packed c =
    let t = c.args.table.now in
    let index = c.args.index in
    let block = c.take_home-block.result in
    let is : block_at t.slots.items index ≡ Some (kept.Home block) = c.take_home-block.ensures.value in
    gone-packed t c.take_home-block.new.self c.retire.new.self index (kept.Home block) c.requires.packed c.requires.within is c.take_home-block.ensures.slots c.take_home-block.ensures.spare
    c.retire.ensures.aged c.retire.ensures.linked

pub returns-in-Busy-clause-few : goal.returns-in-Busy-clause-few
returns-in-Busy-clause-few c =
    few-gone c.args.table.now c.take_home-block.new.self c.retire.new.self c.args.index c.take_home-block.ensures.slots c.retire.ensures.aged
