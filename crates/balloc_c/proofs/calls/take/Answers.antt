use Rattle.std.proofs.Common.{arith, rules, ◌<◌}
use Rattle.errand_steps.specs.Begins.{IsIdle}
use Rattle.heap_geometry.specs.declared.limits.TheConstants.{SHELVES}
use Rattle.live_heap.specs.declared.answers.Taken.TheVariants as taken
use Rattle.balloc_c.specs.declared.kept.Kept.TheVariants as kept
use Rattle.balloc_c.specs.Slots.{lots_of}
use Rattle.balloc_c.proofs.Going.{take-goes}
use Rattle.balloc_c.proofs.MadeCalls.{taken-answers}
use Rattle.balloc_c.proofs.Numbers.{gains-behind}
use Rattle.balloc_c.proofs.Packing.{few-set}
use Rattle.balloc_c.proofs.Tending.{filled-tends, same-tends}
use Rattle.std.specs.Prelude.{Some}
use Rattle.balloc_c.proofs.calls.take.Goals as goal

pub returns-in-Got-clause-tends : goal.returns-in-Got-clause-tends
returns-in-Got-clause-tends c =
    let h = c.args.heap.now in
    let s = c.args.cache.now in
    let t = c.args.table.now in
    let d = c.take.new.self in
    let block = c.in-Got.block in
    let idle : IsIdle s.pass.errand = search rules in
    filled-tends h s d t.slots.items c.vacant.new.self.slots.items c.fill.new.self.slots.items c.in-Ok.index block c.requires.tends c.take.ensures.cache
    (take-goes h s d c.args.shelf (taken.Got block) (lots_of t.slots.items) c.requires.tends.cache c.take.ensures.cache idle c.in-Got.ensures.tells c.take.ensures.keeps)
    c.in-Got.ensures.tells.1.1 c.vacant.ensures.blocks c.vacant.ensures.same c.in-Ok.ensures.vacant.0 c.fill.ensures.slots

pub returns-in-Empty-clause-tends : goal.returns-in-Empty-clause-tends
returns-in-Empty-clause-tends c =
    let h = c.args.heap.now in
    let s = c.args.cache.now in
    let t = c.args.table.now in
    let d = c.take.new.self in
    let idle : IsIdle s.pass.errand = search rules in
    same-tends h s d t.slots.items c.vacant.new.self.slots.items c.requires.tends c.take.ensures.cache
    (take-goes h s d c.args.shelf taken.Empty (lots_of t.slots.items) c.requires.tends.cache c.take.ensures.cache idle c.in-Empty.ensures.tells c.take.ensures.keeps)
    c.vacant.ensures.blocks c.vacant.ensures.same

pub returns-in-Missed-clause-tends : goal.returns-in-Missed-clause-tends
returns-in-Missed-clause-tends c =
    let h = c.args.heap.now in
    let s = c.args.cache.now in
    let t = c.args.table.now in
    let d = c.take.new.self in
    let idle : IsIdle s.pass.errand = search rules in
    same-tends h s d t.slots.items c.vacant.new.self.slots.items c.requires.tends c.take.ensures.cache
    (take-goes h s d c.args.shelf (taken.Missed c.in-Missed.expected c.in-Missed.found) (lots_of t.slots.items) c.requires.tends.cache c.take.ensures.cache idle
    c.in-Missed.ensures.tells c.take.ensures.keeps)
    c.vacant.ensures.blocks c.vacant.ensures.same

pub returns-in-Got-clause-answers : goal.returns-in-Got-clause-answers
returns-in-Got-clause-answers c =
    let s = c.args.cache.now in
    let t = c.args.table.now in
    let u = c.fill.new.self in
    let idle : IsIdle s.pass.errand = search rules in
    let has : c.args.shelf < SHELVES = omega (arith, c.if-shelf-ge-SHELVES.false) in
    taken-answers s t c.args.shelf c.fill.result c.in-Got.block c.take.new.self u idle has
    (gains-behind t c.vacant.new.self c.fill.result (kept.Home c.in-Got.block) u c.vacant.ensures.keeps c.fill.ensures.gains) c.in-Got.ensures.tells c.take.ensures.keeps

pub returns-in-Got-clause-few : goal.returns-in-Got-clause-few
returns-in-Got-clause-few c =
    few-set c.args.table.now c.vacant.new.self c.fill.new.self c.in-Ok.index (Some (kept.Home c.in-Got.block)) c.vacant.ensures.few c.fill.ensures.slots
