use Rattle.std.proofs.Common.{◌+◌, length, refl, arith}
use Rattle.errand_steps.specs.Calls.{alloc}
use Rattle.errand_steps.specs.declared.reply.Reply.TheVariants as reply
use Rattle.typed_store.proofs.ResumeLemmas.{asks-record, asked-again, busy-on, never, resumed-given, resumed-refused, resumed-spent}
use Rattle.typed_store.proofs.StoreLemmas.{built-stays, list-stays, words-stay}
use Rattle.typed_store.proofs.store.Store.resume_record.Goals as goal

pub file-requires-clause-idle : goal.file-requires-clause-idle
file-requires-clause-idle c =
    let s = c.args.self.now in
    let u = c.requires.under_way in
    let a = (asks-record c.args.heap.now s (length c.args.words.now) u c.requires.pending).0 in
    let e = c.in-Given.ensures in
    let g = resumed-given c.args.heap.now s (length c.args.words.now + 1) c.args.tries c.in-Given.block c.resume.new.pass a u.of e.of (e.tells a.first (alloc (length c.args.words.now + 1)) a.steps a.was a.calling) in
    g.idle

pub file-requires-clause-exactly : goal.file-requires-clause-exactly
file-requires-clause-exactly c =
    let s = c.args.self.now in
    let u = c.requires.under_way in
    let a = (asks-record c.args.heap.now s (length c.args.words.now) u c.requires.pending).0 in
    let e = c.in-Given.ensures in
    let g = resumed-given c.args.heap.now s (length c.args.words.now + 1) c.args.tries c.in-Given.block c.resume.new.pass a u.of e.of (e.tells a.first (alloc (length c.args.words.now + 1)) a.steps a.was a.calling) in
    g.exactly

pub file-requires-clause-words : goal.file-requires-clause-words
file-requires-clause-words c =
    let s = c.args.self.now in
    let u = c.requires.under_way in
    let a = (asks-record c.args.heap.now s (length c.args.words.now) u c.requires.pending).0 in
    let e = c.in-Given.ensures in
    let g = resumed-given c.args.heap.now s (length c.args.words.now + 1) c.args.tries c.in-Given.block c.resume.new.pass a u.of e.of (e.tells a.first (alloc (length c.args.words.now + 1)) a.steps a.was a.calling) in
    omega (arith, g.enough)

pub file-requires-clause-blank : goal.file-requires-clause-blank
file-requires-clause-blank c =
    let s = c.args.self.now in
    let u = c.requires.under_way in
    let a = (asks-record c.args.heap.now s (length c.args.words.now) u c.requires.pending).0 in
    let e = c.in-Given.ensures in
    let g = resumed-given c.args.heap.now s (length c.args.words.now + 1) c.args.tries c.in-Given.block c.resume.new.pass a u.of e.of (e.tells a.first (alloc (length c.args.words.now + 1)) a.steps a.was a.calling) in
    g.blank

pub file-requires-clause-built : goal.file-requires-clause-built
file-requires-clause-built c =
    let s = c.args.self.now in
    let u = c.requires.under_way in
    let a = (asks-record c.args.heap.now s (length c.args.words.now) u c.requires.pending).0 in
    let e = c.in-Given.ensures in
    let g = resumed-given c.args.heap.now s (length c.args.words.now + 1) c.args.tries c.in-Given.block c.resume.new.pass a u.of e.of (e.tells a.first (alloc (length c.args.words.now + 1)) a.steps a.was a.calling) in
    built-stays s c.resume.new.pass s.pending g.same u.built

pub file-requires-clause-reserved : goal.file-requires-clause-reserved
file-requires-clause-reserved c =
    (asks-record c.args.heap.now c.args.self.now (length c.args.words.now) c.requires.under_way c.requires.pending).1

pub file-requires-clause-room : goal.file-requires-clause-room
file-requires-clause-room c =
    (asks-record c.args.heap.now c.args.self.now (length c.args.words.now) c.requires.under_way c.requires.pending).2

pub unreachable-requires : goal.unreachable-requires
unreachable-requires c =
    let s = c.args.self.now in
    let u = c.requires.under_way in
    let a = (asks-record c.args.heap.now s (length c.args.words.now) u c.requires.pending).0 in
    let e = c.in-Freed.ensures in
    let t = e.tells a.first (alloc (length c.args.words.now + 1)) a.steps a.was a.calling in
    never a.first c.resume.new.pass (alloc (length c.args.words.now + 1)) t.steps reply.Freed refl t.called

pub returns-in-Given-clause-list : goal.returns-in-Given-clause-list
returns-in-Given-clause-list c = λ pairs has.
    let s = c.args.self.now in
    let u = c.requires.under_way in
    let a = (asks-record c.args.heap.now s (length c.args.words.now) u c.requires.pending).0 in
    let e = c.in-Given.ensures in
    let g = resumed-given c.args.heap.now s (length c.args.words.now + 1) c.args.tries c.in-Given.block c.resume.new.pass a u.of e.of (e.tells a.first (alloc (length c.args.words.now + 1)) a.steps a.was a.calling) in
    c.file.ensures.list pairs (list-stays s c.resume.new.pass pairs g.same has)

pub returns-in-Given-clause-records : goal.returns-in-Given-clause-records
returns-in-Given-clause-records c = λ records has.
    let s = c.args.self.now in
    let u = c.requires.under_way in
    let a = (asks-record c.args.heap.now s (length c.args.words.now) u c.requires.pending).0 in
    let e = c.in-Given.ensures in
    let g = resumed-given c.args.heap.now s (length c.args.words.now + 1) c.args.tries c.in-Given.block c.resume.new.pass a u.of e.of (e.tells a.first (alloc (length c.args.words.now + 1)) a.steps a.was a.calling) in
    c.file.ensures.records records (words-stay s c.resume.new.pass records g.same has)

pub returns-in-Given-clause-cause : goal.returns-in-Given-clause-cause
returns-in-Given-clause-cause c =
    (c.in-Given.block, c.resume.new.pass, c.in-Given.ensures.tells, c.file.ensures.rests)

pub returns-in-Refused-clause-left : goal.returns-in-Refused-clause-left
returns-in-Refused-clause-left c =
    let s = c.args.self.now in
    let u = c.requires.under_way in
    let a = (asks-record c.args.heap.now s (length c.args.words.now) u c.requires.pending).0 in
    let e = c.in-Refused.ensures in
    let o = resumed-refused c.args.heap.now s (length c.args.words.now + 1) c.args.tries c.resume.new.pass a u.of e.of u.built (e.tells a.first (alloc (length c.args.words.now + 1)) a.steps a.was a.calling) in
    o.ready

pub returns-in-Refused-clause-list : goal.returns-in-Refused-clause-list
returns-in-Refused-clause-list c = λ pairs has.
    let s = c.args.self.now in
    let u = c.requires.under_way in
    let a = (asks-record c.args.heap.now s (length c.args.words.now) u c.requires.pending).0 in
    let e = c.in-Refused.ensures in
    let o = resumed-refused c.args.heap.now s (length c.args.words.now + 1) c.args.tries c.resume.new.pass a u.of e.of u.built (e.tells a.first (alloc (length c.args.words.now + 1)) a.steps a.was a.calling) in
    list-stays s c.resume.new.pass pairs o.same has

pub returns-in-Refused-clause-records : goal.returns-in-Refused-clause-records
returns-in-Refused-clause-records c = λ records has.
    let s = c.args.self.now in
    let u = c.requires.under_way in
    let a = (asks-record c.args.heap.now s (length c.args.words.now) u c.requires.pending).0 in
    let e = c.in-Refused.ensures in
    let o = resumed-refused c.args.heap.now s (length c.args.words.now + 1) c.args.tries c.resume.new.pass a u.of e.of u.built (e.tells a.first (alloc (length c.args.words.now + 1)) a.steps a.was a.calling) in
    words-stay s c.resume.new.pass records o.same has

pub returns-in-Spent-clause-left : goal.returns-in-Spent-clause-left
returns-in-Spent-clause-left c =
    let s = c.args.self.now in
    let u = c.requires.under_way in
    let a = (asks-record c.args.heap.now s (length c.args.words.now) u c.requires.pending).0 in
    let e = c.in-Spent.ensures in
    let o = resumed-spent c.args.heap.now s (length c.args.words.now + 1) c.args.tries c.resume.new.pass a u.of e.of u.built (e.tells a.first (alloc (length c.args.words.now + 1)) a.steps a.was a.calling) in
    o.ready

pub returns-in-Spent-clause-list : goal.returns-in-Spent-clause-list
returns-in-Spent-clause-list c = λ pairs has.
    let s = c.args.self.now in
    let u = c.requires.under_way in
    let a = (asks-record c.args.heap.now s (length c.args.words.now) u c.requires.pending).0 in
    let e = c.in-Spent.ensures in
    let o = resumed-spent c.args.heap.now s (length c.args.words.now + 1) c.args.tries c.resume.new.pass a u.of e.of u.built (e.tells a.first (alloc (length c.args.words.now + 1)) a.steps a.was a.calling) in
    list-stays s c.resume.new.pass pairs o.same has

pub returns-in-Spent-clause-records : goal.returns-in-Spent-clause-records
returns-in-Spent-clause-records c = λ records has.
    let s = c.args.self.now in
    let u = c.requires.under_way in
    let a = (asks-record c.args.heap.now s (length c.args.words.now) u c.requires.pending).0 in
    let e = c.in-Spent.ensures in
    let o = resumed-spent c.args.heap.now s (length c.args.words.now + 1) c.args.tries c.resume.new.pass a u.of e.of u.built (e.tells a.first (alloc (length c.args.words.now + 1)) a.steps a.was a.calling) in
    words-stay s c.resume.new.pass records o.same has

pub returns-in-Busy-clause-left : goal.returns-in-Busy-clause-left
returns-in-Busy-clause-left c =
    let s = c.args.self.now in
    let u = c.requires.under_way in
    let a = (asks-record c.args.heap.now s (length c.args.words.now) u c.requires.pending).0 in
    let e = c.in-Busy.ensures in
    let same = asked-again c.args.heap.now s (length c.args.words.now + 1) c.args.tries c.resume.new.pass a u.of e.of (e.tells a.first (alloc (length c.args.words.now + 1)) a.steps a.was a.calling) in
    (busy-on c.args.heap.now s c.args.tries c.resume.new.pass u same e.of (e.tells u.first u.call u.steps u.was u.calling), c.requires.pending)

pub returns-in-Busy-clause-list : goal.returns-in-Busy-clause-list
returns-in-Busy-clause-list c = λ pairs has.
    let s = c.args.self.now in
    let u = c.requires.under_way in
    let a = (asks-record c.args.heap.now s (length c.args.words.now) u c.requires.pending).0 in
    let e = c.in-Busy.ensures in
    let same = asked-again c.args.heap.now s (length c.args.words.now + 1) c.args.tries c.resume.new.pass a u.of e.of (e.tells a.first (alloc (length c.args.words.now + 1)) a.steps a.was a.calling) in
    list-stays s c.resume.new.pass pairs same has

pub returns-in-Busy-clause-records : goal.returns-in-Busy-clause-records
returns-in-Busy-clause-records c = λ records has.
    let s = c.args.self.now in
    let u = c.requires.under_way in
    let a = (asks-record c.args.heap.now s (length c.args.words.now) u c.requires.pending).0 in
    let e = c.in-Busy.ensures in
    let same = asked-again c.args.heap.now s (length c.args.words.now + 1) c.args.tries c.resume.new.pass a u.of e.of (e.tells a.first (alloc (length c.args.words.now + 1)) a.steps a.was a.calling) in
    words-stay s c.resume.new.pass records same has
