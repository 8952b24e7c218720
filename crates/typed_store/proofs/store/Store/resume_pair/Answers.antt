use Rattle.std.proofs.Common.{refl}
use Rattle.errand_steps.specs.Calls.{alloc}
use Rattle.errand_steps.specs.declared.reply.Reply.TheVariants as reply
use Rattle.typed_store.proofs.ResumeLemmas.{asks-pair, asked-again, busy-on, never, resumed-given, resumed-refused, resumed-spent}
use Rattle.typed_store.proofs.StoreLemmas.{built-stays, list-stays, words-stay}
use Rattle.typed_store.proofs.store.Store.resume_pair.Goals as goal

pub link-requires-clause-idle : goal.link-requires-clause-idle
link-requires-clause-idle c =
    let s = c.args.self.now in
    let u = c.requires.under_way in
    let a = (asks-pair c.args.heap.now s c.args.key c.args.value u c.requires.pending).0 in
    let e = c.in-Given.ensures in
    let g = resumed-given c.args.heap.now s 3 c.args.tries c.in-Given.block c.resume.new.pass a u.of e.of (e.tells a.first (alloc 3) a.steps a.was a.calling) in
    g.idle

pub link-requires-clause-exactly : goal.link-requires-clause-exactly
link-requires-clause-exactly c =
    let s = c.args.self.now in
    let u = c.requires.under_way in
    let a = (asks-pair c.args.heap.now s c.args.key c.args.value u c.requires.pending).0 in
    let e = c.in-Given.ensures in
    let g = resumed-given c.args.heap.now s 3 c.args.tries c.in-Given.block c.resume.new.pass a u.of e.of (e.tells a.first (alloc 3) a.steps a.was a.calling) in
    g.exactly

pub link-requires-clause-words : goal.link-requires-clause-words
link-requires-clause-words c =
    let s = c.args.self.now in
    let u = c.requires.under_way in
    let a = (asks-pair c.args.heap.now s c.args.key c.args.value u c.requires.pending).0 in
    let e = c.in-Given.ensures in
    let g = resumed-given c.args.heap.now s 3 c.args.tries c.in-Given.block c.resume.new.pass a u.of e.of (e.tells a.first (alloc 3) a.steps a.was a.calling) in
    g.enough

pub link-requires-clause-blank : goal.link-requires-clause-blank
link-requires-clause-blank c =
    let s = c.args.self.now in
    let u = c.requires.under_way in
    let a = (asks-pair c.args.heap.now s c.args.key c.args.value u c.requires.pending).0 in
    let e = c.in-Given.ensures in
    let g = resumed-given c.args.heap.now s 3 c.args.tries c.in-Given.block c.resume.new.pass a u.of e.of (e.tells a.first (alloc 3) a.steps a.was a.calling) in
    g.blank

pub link-requires-clause-built : goal.link-requires-clause-built
link-requires-clause-built c =
    let s = c.args.self.now in
    let u = c.requires.under_way in
    let a = (asks-pair c.args.heap.now s c.args.key c.args.value u c.requires.pending).0 in
    let e = c.in-Given.ensures in
    let g = resumed-given c.args.heap.now s 3 c.args.tries c.in-Given.block c.resume.new.pass a u.of e.of (e.tells a.first (alloc 3) a.steps a.was a.calling) in
    built-stays s c.resume.new.pass s.pending g.same u.built

pub link-requires-clause-room : goal.link-requires-clause-room
link-requires-clause-room c =
    (asks-pair c.args.heap.now c.args.self.now c.args.key c.args.value c.requires.under_way c.requires.pending).1

pub unreachable-requires : goal.unreachable-requires
unreachable-requires c =
    let s = c.args.self.now in
    let u = c.requires.under_way in
    let a = (asks-pair c.args.heap.now s c.args.key c.args.value u c.requires.pending).0 in
    let e = c.in-Freed.ensures in
    let t = e.tells a.first (alloc 3) a.steps a.was a.calling in
    never a.first c.resume.new.pass (alloc 3) t.steps reply.Freed refl t.called

pub returns-in-Given-clause-list : goal.returns-in-Given-clause-list
returns-in-Given-clause-list c = λ pairs has.
    let s = c.args.self.now in
    let u = c.requires.under_way in
    let a = (asks-pair c.args.heap.now s c.args.key c.args.value u c.requires.pending).0 in
    let e = c.in-Given.ensures in
    let g = resumed-given c.args.heap.now s 3 c.args.tries c.in-Given.block c.resume.new.pass a u.of e.of (e.tells a.first (alloc 3) a.steps a.was a.calling) in
    c.link.ensures.list pairs (list-stays s c.resume.new.pass pairs g.same has)

pub returns-in-Given-clause-records : goal.returns-in-Given-clause-records
returns-in-Given-clause-records c = λ records has.
    let s = c.args.self.now in
    let u = c.requires.under_way in
    let a = (asks-pair c.args.heap.now s c.args.key c.args.value u c.requires.pending).0 in
    let e = c.in-Given.ensures in
    let g = resumed-given c.args.heap.now s 3 c.args.tries c.in-Given.block c.resume.new.pass a u.of e.of (e.tells a.first (alloc 3) a.steps a.was a.calling) in
    c.link.ensures.records records (words-stay s c.resume.new.pass records g.same has)

pub returns-in-Given-clause-cause : goal.returns-in-Given-clause-cause
returns-in-Given-clause-cause c =
    (c.in-Given.block, c.resume.new.pass, c.in-Given.ensures.tells, c.link.ensures.rests)

pub returns-in-Refused-clause-left : goal.returns-in-Refused-clause-left
returns-in-Refused-clause-left c =
    let s = c.args.self.now in
    let u = c.requires.under_way in
    let a = (asks-pair c.args.heap.now s c.args.key c.args.value u c.requires.pending).0 in
    let e = c.in-Refused.ensures in
    let o = resumed-refused c.args.heap.now s 3 c.args.tries c.resume.new.pass a u.of e.of u.built (e.tells a.first (alloc 3) a.steps a.was a.calling) in
    o.ready

pub returns-in-Refused-clause-list : goal.returns-in-Refused-clause-list
returns-in-Refused-clause-list c = λ pairs has.
    let s = c.args.self.now in
    let u = c.requires.under_way in
    let a = (asks-pair c.args.heap.now s c.args.key c.args.value u c.requires.pending).0 in
    let e = c.in-Refused.ensures in
    let o = resumed-refused c.args.heap.now s 3 c.args.tries c.resume.new.pass a u.of e.of u.built (e.tells a.first (alloc 3) a.steps a.was a.calling) in
    list-stays s c.resume.new.pass pairs o.same has

pub returns-in-Refused-clause-records : goal.returns-in-Refused-clause-records
returns-in-Refused-clause-records c = λ records has.
    let s = c.args.self.now in
    let u = c.requires.under_way in
    let a = (asks-pair c.args.heap.now s c.args.key c.args.value u c.requires.pending).0 in
    let e = c.in-Refused.ensures in
    let o = resumed-refused c.args.heap.now s 3 c.args.tries c.resume.new.pass a u.of e.of u.built (e.tells a.first (alloc 3) a.steps a.was a.calling) in
    words-stay s c.resume.new.pass records o.same has

pub returns-in-Spent-clause-left : goal.returns-in-Spent-clause-left
returns-in-Spent-clause-left c =
    let s = c.args.self.now in
    let u = c.requires.under_way in
    let a = (asks-pair c.args.heap.now s c.args.key c.args.value u c.requires.pending).0 in
    let e = c.in-Spent.ensures in
    let o = resumed-spent c.args.heap.now s 3 c.args.tries c.resume.new.pass a u.of e.of u.built (e.tells a.first (alloc 3) a.steps a.was a.calling) in
    o.ready

pub returns-in-Spent-clause-list : goal.returns-in-Spent-clause-list
returns-in-Spent-clause-list c = λ pairs has.
    let s = c.args.self.now in
    let u = c.requires.under_way in
    let a = (asks-pair c.args.heap.now s c.args.key c.args.value u c.requires.pending).0 in
    let e = c.in-Spent.ensures in
    let o = resumed-spent c.args.heap.now s 3 c.args.tries c.resume.new.pass a u.of e.of u.built (e.tells a.first (alloc 3) a.steps a.was a.calling) in
    list-stays s c.resume.new.pass pairs o.same has

pub returns-in-Spent-clause-records : goal.returns-in-Spent-clause-records
returns-in-Spent-clause-records c = λ records has.
    let s = c.args.self.now in
    let u = c.requires.under_way in
    let a = (asks-pair c.args.heap.now s c.args.key c.args.value u c.requires.pending).0 in
    let e = c.in-Spent.ensures in
    let o = resumed-spent c.args.heap.now s 3 c.args.tries c.resume.new.pass a u.of e.of u.built (e.tells a.first (alloc 3) a.steps a.was a.calling) in
    words-stay s c.resume.new.pass records o.same has

pub returns-in-Busy-clause-left : goal.returns-in-Busy-clause-left
returns-in-Busy-clause-left c =
    let s = c.args.self.now in
    let u = c.requires.under_way in
    let a = (asks-pair c.args.heap.now s c.args.key c.args.value u c.requires.pending).0 in
    let e = c.in-Busy.ensures in
    let same = asked-again c.args.heap.now s 3 c.args.tries c.resume.new.pass a u.of e.of (e.tells a.first (alloc 3) a.steps a.was a.calling) in
    (busy-on c.args.heap.now s c.args.tries c.resume.new.pass u same e.of (e.tells u.first u.call u.steps u.was u.calling), c.requires.pending)

pub returns-in-Busy-clause-list : goal.returns-in-Busy-clause-list
returns-in-Busy-clause-list c = λ pairs has.
    let s = c.args.self.now in
    let u = c.requires.under_way in
    let a = (asks-pair c.args.heap.now s c.args.key c.args.value u c.requires.pending).0 in
    let e = c.in-Busy.ensures in
    let same = asked-again c.args.heap.now s 3 c.args.tries c.resume.new.pass a u.of e.of (e.tells a.first (alloc 3) a.steps a.was a.calling) in
    list-stays s c.resume.new.pass pairs same has

pub returns-in-Busy-clause-records : goal.returns-in-Busy-clause-records
returns-in-Busy-clause-records c = λ records has.
    let s = c.args.self.now in
    let u = c.requires.under_way in
    let a = (asks-pair c.args.heap.now s c.args.key c.args.value u c.requires.pending).0 in
    let e = c.in-Busy.ensures in
    let same = asked-again c.args.heap.now s 3 c.args.tries c.resume.new.pass a u.of e.of (e.tells a.first (alloc 3) a.steps a.was a.calling) in
    words-stay s c.resume.new.pass records same has
