use Rattle.std.proofs.Common.{refl}
use Rattle.errand_steps.specs.Calls.{free}
use Rattle.errand_steps.specs.declared.reply.Reply.TheVariants as reply
use Rattle.typed_store.proofs.ResumeLemmas.{busy-on, freed-again, frees, never, resumed-freed}
use Rattle.typed_store.proofs.StoreLemmas.{list-stays, words-stay}
use Rattle.typed_store.proofs.store.Store.resume_free.Goals as goal

pub unreachable-requires : goal.unreachable-requires
unreachable-requires c =
    let s = c.args.self.now in
    let u = c.requires.under_way in
    let f = frees c.args.heap.now s u c.requires.pending in
    let t = c.in-Given.ensures.tells f.first (free f.block.place f.block.need) f.steps f.was f.calling in
    never f.first c.resume.new.pass (free f.block.place f.block.need) t.0.steps (reply.Given c.in-Given.field-0.place c.in-Given.field-0.need) refl t.0.called

pub unreachable-requires-in-Refused : goal.unreachable-requires-in-Refused
unreachable-requires-in-Refused c =
    let s = c.args.self.now in
    let u = c.requires.under_way in
    let f = frees c.args.heap.now s u c.requires.pending in
    let t = c.in-Refused.ensures.tells f.first (free f.block.place f.block.need) f.steps f.was f.calling in
    never f.first c.resume.new.pass (free f.block.place f.block.need) t.steps (reply.Refused) refl t.called

pub unreachable-requires-in-Spent : goal.unreachable-requires-in-Spent
unreachable-requires-in-Spent c =
    let s = c.args.self.now in
    let u = c.requires.under_way in
    let f = frees c.args.heap.now s u c.requires.pending in
    let t = c.in-Spent.ensures.tells f.first (free f.block.place f.block.need) f.steps f.was f.calling in
    never f.first c.resume.new.pass (free f.block.place f.block.need) t.0.steps (reply.Spent) refl t.0.called

pub returns-in-Freed-clause-left : goal.returns-in-Freed-clause-left
returns-in-Freed-clause-left c =
    let s = c.args.self.now in
    let u = c.requires.under_way in
    let f = frees c.args.heap.now s u c.requires.pending in
    let e = c.in-Freed.ensures in
    let o = resumed-freed c.args.heap.now s c.args.tries c.resume.new.pass f u.of e.of u.built (e.tells f.first (free f.block.place f.block.need) f.steps f.was f.calling) in
    o.ready

pub returns-in-Freed-clause-list : goal.returns-in-Freed-clause-list
returns-in-Freed-clause-list c = λ pairs has.
    let s = c.args.self.now in
    let u = c.requires.under_way in
    let f = frees c.args.heap.now s u c.requires.pending in
    let e = c.in-Freed.ensures in
    let o = resumed-freed c.args.heap.now s c.args.tries c.resume.new.pass f u.of e.of u.built (e.tells f.first (free f.block.place f.block.need) f.steps f.was f.calling) in
    list-stays s c.resume.new.pass pairs o.same has

pub returns-in-Freed-clause-records : goal.returns-in-Freed-clause-records
returns-in-Freed-clause-records c = λ records has.
    let s = c.args.self.now in
    let u = c.requires.under_way in
    let f = frees c.args.heap.now s u c.requires.pending in
    let e = c.in-Freed.ensures in
    let o = resumed-freed c.args.heap.now s c.args.tries c.resume.new.pass f u.of e.of u.built (e.tells f.first (free f.block.place f.block.need) f.steps f.was f.calling) in
    words-stay s c.resume.new.pass records o.same has

pub returns-in-Busy-clause-left : goal.returns-in-Busy-clause-left
returns-in-Busy-clause-left c =
    let s = c.args.self.now in
    let u = c.requires.under_way in
    let f = frees c.args.heap.now s u c.requires.pending in
    let e = c.in-Busy.ensures in
    let same = freed-again c.args.heap.now s c.args.tries c.resume.new.pass f u.of e.of (e.tells f.first (free f.block.place f.block.need) f.steps f.was f.calling) in
    (busy-on c.args.heap.now s c.args.tries c.resume.new.pass u same e.of (e.tells u.first u.call u.steps u.was u.calling), c.requires.pending)

pub returns-in-Busy-clause-list : goal.returns-in-Busy-clause-list
returns-in-Busy-clause-list c = λ pairs has.
    let s = c.args.self.now in
    let u = c.requires.under_way in
    let f = frees c.args.heap.now s u c.requires.pending in
    let e = c.in-Busy.ensures in
    let same = freed-again c.args.heap.now s c.args.tries c.resume.new.pass f u.of e.of (e.tells f.first (free f.block.place f.block.need) f.steps f.was f.calling) in
    list-stays s c.resume.new.pass pairs same has

pub returns-in-Busy-clause-records : goal.returns-in-Busy-clause-records
returns-in-Busy-clause-records c = λ records has.
    let s = c.args.self.now in
    let u = c.requires.under_way in
    let f = frees c.args.heap.now s u c.requires.pending in
    let e = c.in-Busy.ensures in
    let same = freed-again c.args.heap.now s c.args.tries c.resume.new.pass f u.of e.of (e.tells f.first (free f.block.place f.block.need) f.steps f.was f.calling) in
    words-stay s c.resume.new.pass records same has
