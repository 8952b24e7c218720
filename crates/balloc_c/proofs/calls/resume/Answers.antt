use Rattle.std.proofs.Common.{rules, ◌≡◌, false}
use Rattle.errand_steps.specs.Points.{is_idle}
use Rattle.live_heap.specs.declared.answers.Resumed.TheVariants as resumed
use Rattle.balloc_c.specs.declared.kept.Kept.TheVariants as kept
use Rattle.balloc_c.specs.Slots.{lots_of}
use Rattle.balloc_c.proofs.Going.{resume-goes, resumed-home}
use Rattle.balloc_c.proofs.MadeCalls.{resumed-answers}
use Rattle.balloc_c.proofs.Numbers.{gains-behind}
use Rattle.balloc_c.proofs.Packing.{few-set}
use Rattle.balloc_c.proofs.Tending.{filled-tends, same-tends}
use Rattle.std.specs.Prelude.{Some}
use Rattle.balloc_c.proofs.calls.resume.Goals as goal

pub returns-in-Given-clause-tends : goal.returns-in-Given-clause-tends
returns-in-Given-clause-tends c =
    let h = c.args.heap.now in
    let s = c.args.cache.now in
    let t = c.args.table.now in
    let d = c.resume.new.self in
    let block = c.in-Given.block in
    let busy : is_idle s.pass.errand.point ≡ false = search rules in
    filled-tends h s d t.slots.items c.vacant.new.self.slots.items c.fill.new.self.slots.items c.in-Ok.index block c.requires.tends c.resume.ensures.cache
    (resume-goes h s d (resumed.Given block) (lots_of t.slots.items) c.requires.tends.cache c.resume.ensures.cache busy c.in-Given.ensures.tells c.resume.ensures.keeps)
    (resumed-home h s d block c.requires.tends.cache busy c.in-Given.ensures.tells) c.vacant.ensures.blocks c.vacant.ensures.same c.in-Ok.ensures.vacant.0
    c.fill.ensures.slots

pub returns-in-Freed-clause-tends : goal.returns-in-Freed-clause-tends
returns-in-Freed-clause-tends c =
    let h = c.args.heap.now in
    let s = c.args.cache.now in
    let t = c.args.table.now in
    let d = c.resume.new.self in
    let busy : is_idle s.pass.errand.point ≡ false = search rules in
    same-tends h s d t.slots.items c.vacant.new.self.slots.items c.requires.tends c.resume.ensures.cache
    (resume-goes h s d resumed.Freed (lots_of t.slots.items) c.requires.tends.cache c.resume.ensures.cache busy c.in-Freed.ensures.tells c.resume.ensures.keeps)
    c.vacant.ensures.blocks c.vacant.ensures.same

pub returns-in-Refused-clause-tends : goal.returns-in-Refused-clause-tends
returns-in-Refused-clause-tends c =
    let h = c.args.heap.now in
    let s = c.args.cache.now in
    let t = c.args.table.now in
    let d = c.resume.new.self in
    let busy : is_idle s.pass.errand.point ≡ false = search rules in
    same-tends h s d t.slots.items c.vacant.new.self.slots.items c.requires.tends c.resume.ensures.cache
    (resume-goes h s d resumed.Refused (lots_of t.slots.items) c.requires.tends.cache c.resume.ensures.cache busy c.in-Refused.ensures.tells c.resume.ensures.keeps)
    c.vacant.ensures.blocks c.vacant.ensures.same

pub returns-in-Spent-clause-tends : goal.returns-in-Spent-clause-tends
returns-in-Spent-clause-tends c =
    let h = c.args.heap.now in
    let s = c.args.cache.now in
    let t = c.args.table.now in
    let d = c.resume.new.self in
    let busy : is_idle s.pass.errand.point ≡ false = search rules in
    same-tends h s d t.slots.items c.vacant.new.self.slots.items c.requires.tends c.resume.ensures.cache
    (resume-goes h s d resumed.Spent (lots_of t.slots.items) c.requires.tends.cache c.resume.ensures.cache busy c.in-Spent.ensures.tells c.resume.ensures.keeps)
    c.vacant.ensures.blocks c.vacant.ensures.same

pub returns-in-Busy-clause-tends : goal.returns-in-Busy-clause-tends
returns-in-Busy-clause-tends c =
    let h = c.args.heap.now in
    let s = c.args.cache.now in
    let t = c.args.table.now in
    let d = c.resume.new.self in
    let busy : is_idle s.pass.errand.point ≡ false = search rules in
    same-tends h s d t.slots.items c.vacant.new.self.slots.items c.requires.tends c.resume.ensures.cache
    (resume-goes h s d resumed.Busy (lots_of t.slots.items) c.requires.tends.cache c.resume.ensures.cache busy c.in-Busy.ensures.tells c.resume.ensures.keeps)
    c.vacant.ensures.blocks c.vacant.ensures.same

pub returns-in-Given-clause-answers : goal.returns-in-Given-clause-answers
returns-in-Given-clause-answers c =
    let s = c.args.cache.now in
    let t = c.args.table.now in
    let u = c.fill.new.self in
    let busy : is_idle s.pass.errand.point ≡ false = search rules in
    resumed-answers c.args.heap.now s t c.fill.result c.in-Given.block c.resume.new.self u busy
    (gains-behind t c.vacant.new.self c.fill.result (kept.Home c.in-Given.block) u c.vacant.ensures.keeps c.fill.ensures.gains) (c.in-Given.ensures.tells, c.resume.ensures.keeps)

pub returns-in-Given-clause-few : goal.returns-in-Given-clause-few
returns-in-Given-clause-few c =
    few-set c.args.table.now c.vacant.new.self c.fill.new.self c.in-Ok.index (Some (kept.Home c.in-Given.block)) c.vacant.ensures.few c.fill.ensures.slots
