use Rattle.std.proofs.Common.{arith, rules, ◌≤◌}
use Rattle.errand_steps.specs.Begins.{IsIdle}
use Rattle.heap_geometry.specs.declared.limits.TheConstants.{LARGE_MOST}
use Rattle.live_heap.specs.declared.answers.AllocAnswer.TheVariants as alloc_answer
use Rattle.balloc_c.specs.declared.kept.Kept.TheVariants as kept
use Rattle.balloc_c.specs.Slots.{lots_of}
use Rattle.balloc_c.specs.Through.{IsAllocation}
use Rattle.balloc_c.proofs.Going.{alloc-goes, given-home}
use Rattle.balloc_c.proofs.MadeCalls.{busy-answers, given-answers, refused-answers, spent-answers}
use Rattle.balloc_c.proofs.Numbers.{gains-behind}
use Rattle.balloc_c.proofs.Packing.{few-set}
use Rattle.balloc_c.proofs.Tending.{filled-tends, same-tends}
use Rattle.std.specs.Prelude.{Some}
use Rattle.balloc_c.proofs.calls.alloc_new.Goals as goal

pub returns-in-Given-clause-tends : goal.returns-in-Given-clause-tends
returns-in-Given-clause-tends c =
    let h = c.args.heap.now in
    let s = c.args.cache.now in
    let t = c.args.table.now in
    let d = c.alloc.new.self in
    let block = c.in-Given.block in
    let idle : IsIdle s.pass.errand = search rules in
    let told : IsAllocation s c.args.words (alloc_answer.Given block) d =
    record { served = c.in-Given.ensures.served; asked = c.in-Given.ensures.asked; depth = c.alloc.ensures.depth } in
    filled-tends h s d t.slots.items c.vacant.new.self.slots.items c.fill.new.self.slots.items c.in-Ok.index block c.requires.tends c.alloc.ensures.cache
    (alloc-goes h s d c.args.words (alloc_answer.Given block) (lots_of t.slots.items) c.requires.tends.cache c.alloc.ensures.cache idle told)
    (given-home h s d c.args.words block c.requires.tends.cache idle told) c.vacant.ensures.blocks c.vacant.ensures.same c.in-Ok.ensures.vacant.0
    c.fill.ensures.slots

pub returns-in-Refused-clause-tends : goal.returns-in-Refused-clause-tends
returns-in-Refused-clause-tends c =
    let h = c.args.heap.now in
    let s = c.args.cache.now in
    let t = c.args.table.now in
    let d = c.alloc.new.self in
    let idle : IsIdle s.pass.errand = search rules in
    let told : IsAllocation s c.args.words alloc_answer.Refused d =
    record { served = c.in-Refused.ensures.served; asked = c.in-Refused.ensures.asked; depth = c.alloc.ensures.depth } in
    same-tends h s d t.slots.items c.vacant.new.self.slots.items c.requires.tends c.alloc.ensures.cache
    (alloc-goes h s d c.args.words alloc_answer.Refused (lots_of t.slots.items) c.requires.tends.cache c.alloc.ensures.cache idle told)
    c.vacant.ensures.blocks c.vacant.ensures.same

pub returns-in-Spent-clause-tends : goal.returns-in-Spent-clause-tends
returns-in-Spent-clause-tends c =
    let h = c.args.heap.now in
    let s = c.args.cache.now in
    let t = c.args.table.now in
    let d = c.alloc.new.self in
    let idle : IsIdle s.pass.errand = search rules in
    let told : IsAllocation s c.args.words alloc_answer.Spent d =
    record { served = c.in-Spent.ensures.served; asked = c.in-Spent.ensures.asked; depth = c.alloc.ensures.depth } in
    same-tends h s d t.slots.items c.vacant.new.self.slots.items c.requires.tends c.alloc.ensures.cache
    (alloc-goes h s d c.args.words alloc_answer.Spent (lots_of t.slots.items) c.requires.tends.cache c.alloc.ensures.cache idle told)
    c.vacant.ensures.blocks c.vacant.ensures.same

pub returns-in-Busy-clause-tends : goal.returns-in-Busy-clause-tends
returns-in-Busy-clause-tends c =
    let h = c.args.heap.now in
    let s = c.args.cache.now in
    let t = c.args.table.now in
    let d = c.alloc.new.self in
    let idle : IsIdle s.pass.errand = search rules in
    let told : IsAllocation s c.args.words alloc_answer.Busy d =
    record { served = c.in-Busy.ensures.served; asked = c.in-Busy.ensures.asked; depth = c.alloc.ensures.depth } in
    same-tends h s d t.slots.items c.vacant.new.self.slots.items c.requires.tends c.alloc.ensures.cache
    (alloc-goes h s d c.args.words alloc_answer.Busy (lots_of t.slots.items) c.requires.tends.cache c.alloc.ensures.cache idle told)
    c.vacant.ensures.blocks c.vacant.ensures.same

pub returns-in-Given-clause-answers : goal.returns-in-Given-clause-answers
returns-in-Given-clause-answers c =
    let s = c.args.cache.now in
    let t = c.args.table.now in
    let d = c.alloc.new.self in
    let idle : IsIdle s.pass.errand = search rules in
    let few : c.args.words ≤ LARGE_MOST = omega (arith, c.if-words-gt-LARGE_MOST.false) in
    let told : IsAllocation s c.args.words (alloc_answer.Given c.in-Given.block) d =
    record { served = c.in-Given.ensures.served; asked = c.in-Given.ensures.asked; depth = c.alloc.ensures.depth } in
    let u = c.fill.new.self in
    given-answers s t c.args.words c.fill.result c.in-Given.block d u idle few
    (gains-behind t c.vacant.new.self c.fill.result (kept.Home c.in-Given.block) u c.vacant.ensures.keeps c.fill.ensures.gains) told

pub returns-in-Refused-clause-answers : goal.returns-in-Refused-clause-answers
returns-in-Refused-clause-answers c =
    let s = c.args.cache.now in
    let t = c.args.table.now in
    let d = c.alloc.new.self in
    let idle : IsIdle s.pass.errand = search rules in
    let few : c.args.words ≤ LARGE_MOST = omega (arith, c.if-words-gt-LARGE_MOST.false) in
    let told : IsAllocation s c.args.words alloc_answer.Refused d =
    record { served = c.in-Refused.ensures.served; asked = c.in-Refused.ensures.asked; depth = c.alloc.ensures.depth } in
    refused-answers s t c.args.words d c.vacant.new.self idle few c.in-Ok.ensures.ready told

pub returns-in-Spent-clause-answers : goal.returns-in-Spent-clause-answers
returns-in-Spent-clause-answers c =
    let s = c.args.cache.now in
    let t = c.args.table.now in
    let d = c.alloc.new.self in
    let idle : IsIdle s.pass.errand = search rules in
    let few : c.args.words ≤ LARGE_MOST = omega (arith, c.if-words-gt-LARGE_MOST.false) in
    let told : IsAllocation s c.args.words alloc_answer.Spent d =
    record { served = c.in-Spent.ensures.served; asked = c.in-Spent.ensures.asked; depth = c.alloc.ensures.depth } in
    spent-answers s t c.args.words d c.vacant.new.self idle few c.in-Ok.ensures.ready told

pub returns-in-Busy-clause-answers : goal.returns-in-Busy-clause-answers
returns-in-Busy-clause-answers c =
    let s = c.args.cache.now in
    let t = c.args.table.now in
    let d = c.alloc.new.self in
    let idle : IsIdle s.pass.errand = search rules in
    let few : c.args.words ≤ LARGE_MOST = omega (arith, c.if-words-gt-LARGE_MOST.false) in
    let told : IsAllocation s c.args.words alloc_answer.Busy d =
    record { served = c.in-Busy.ensures.served; asked = c.in-Busy.ensures.asked; depth = c.alloc.ensures.depth } in
    busy-answers s t c.args.words d c.vacant.new.self idle few c.in-Ok.ensures.ready told

pub returns-in-Given-clause-few : goal.returns-in-Given-clause-few
returns-in-Given-clause-few c =
    few-set c.args.table.now c.vacant.new.self c.fill.new.self c.in-Ok.index (Some (kept.Home c.in-Given.block)) c.vacant.ensures.few c.fill.ensures.slots
