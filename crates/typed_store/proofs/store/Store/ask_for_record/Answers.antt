use Rattle.std.proofs.Common.{suc, ◌+◌, length, refl, arith}
use Rattle.errand_steps.specs.Calls.{alloc}
use Rattle.typed_store.specs.declared.store.Pending.TheVariants.{Record}
use Rattle.typed_store.specs.Stores.{blocks_of}
use Rattle.typed_store.proofs.AskLemmas.{given-to, refused-stays, spent-stays}
use Rattle.typed_store.proofs.StayLemmas.{calling-alloc-same, same-all}
use Rattle.typed_store.proofs.StoreLemmas.{built-stays, list-stays, ready-stays, words-stay}
use Rattle.typed_store.proofs.store.Store.ask_for_record.Goals as goal

pub file-requires-clause-exactly : goal.file-requires-clause-exactly
file-requires-clause-exactly c =
    let s = c.args.self.now in
    let e = c.in-Given.ensures in
    (given-to c.args.heap.now s.pass c.alloc.new.pass (length c.args.words.now + 1) e.tells.0.steps (blocks_of s) c.in-Given.block c.requires.ready.of e.of e.tells.0.called c.requires.ready.exactly).exactly

pub file-requires-clause-words : goal.file-requires-clause-words
file-requires-clause-words c =
    let s = c.args.self.now in
    let e = c.in-Given.ensures in
    let g = given-to c.args.heap.now s.pass c.alloc.new.pass (length c.args.words.now + 1) e.tells.0.steps (blocks_of s) c.in-Given.block c.requires.ready.of e.of e.tells.0.called c.requires.ready.exactly in
    omega (arith, g.enough)

pub file-requires-clause-blank : goal.file-requires-clause-blank
file-requires-clause-blank c =
    let s = c.args.self.now in
    let e = c.in-Given.ensures in
    let g = given-to c.args.heap.now s.pass c.alloc.new.pass (length c.args.words.now + 1) e.tells.0.steps (blocks_of s) c.in-Given.block c.requires.ready.of e.of e.tells.0.called c.requires.ready.exactly in
    g.blank

pub file-requires-clause-built : goal.file-requires-clause-built
file-requires-clause-built c =
    let s = c.args.self.now in
    let e = c.in-Given.ensures in
    let g =
    given-to c.args.heap.now s.pass c.alloc.new.pass (length c.args.words.now + 1) e.tells.0.steps (blocks_of s) c.in-Given.block c.requires.ready.of e.of e.tells.0.called c.requires.ready.exactly in
    built-stays s c.alloc.new.pass s.pending g.same c.requires.ready.built

pub returns-in-Given-clause-list : goal.returns-in-Given-clause-list
returns-in-Given-clause-list c = λ pairs has.
    let s = c.args.self.now in
    let e = c.in-Given.ensures in
    let g =
    given-to c.args.heap.now s.pass c.alloc.new.pass (length c.args.words.now + 1) e.tells.0.steps (blocks_of s) c.in-Given.block c.requires.ready.of e.of e.tells.0.called c.requires.ready.exactly in
    c.file.ensures.list pairs (list-stays s c.alloc.new.pass pairs g.same has)

pub returns-in-Given-clause-records : goal.returns-in-Given-clause-records
returns-in-Given-clause-records c = λ records has.
    let s = c.args.self.now in
    let e = c.in-Given.ensures in
    let g =
    given-to c.args.heap.now s.pass c.alloc.new.pass (length c.args.words.now + 1) e.tells.0.steps (blocks_of s) c.in-Given.block c.requires.ready.of e.of e.tells.0.called c.requires.ready.exactly in
    c.file.ensures.records records (words-stay s c.alloc.new.pass records g.same has)

pub returns-in-Refused-clause-left : goal.returns-in-Refused-clause-left
returns-in-Refused-clause-left c =
    let s = c.args.self.now in
    let e = c.in-Refused.ensures in
    ready-stays c.args.heap.now s c.alloc.new.pass c.requires.ready
    (refused-stays c.args.heap.now s.pass c.alloc.new.pass (length c.args.words.now + 1) e.tells.steps c.requires.ready.of e.of e.tells.called)

pub returns-in-Refused-clause-list : goal.returns-in-Refused-clause-list
returns-in-Refused-clause-list c = λ pairs has.
    let s = c.args.self.now in
    let e = c.in-Refused.ensures in
    let r = refused-stays c.args.heap.now s.pass c.alloc.new.pass (length c.args.words.now + 1) e.tells.steps c.requires.ready.of e.of e.tells.called in
    list-stays s c.alloc.new.pass pairs (same-all s.pass c.alloc.new.pass r.same (blocks_of s)) has

pub returns-in-Refused-clause-records : goal.returns-in-Refused-clause-records
returns-in-Refused-clause-records c = λ records has.
    let s = c.args.self.now in
    let e = c.in-Refused.ensures in
    let r = refused-stays c.args.heap.now s.pass c.alloc.new.pass (length c.args.words.now + 1) e.tells.steps c.requires.ready.of e.of e.tells.called in
    words-stay s c.alloc.new.pass records (same-all s.pass c.alloc.new.pass r.same (blocks_of s)) has

pub returns-in-Spent-clause-left : goal.returns-in-Spent-clause-left
returns-in-Spent-clause-left c =
    let s = c.args.self.now in
    let e = c.in-Spent.ensures in
    ready-stays c.args.heap.now s c.alloc.new.pass c.requires.ready
    (spent-stays c.args.heap.now s.pass c.alloc.new.pass (length c.args.words.now + 1) c.args.tries c.requires.ready.of c.requires.ready.idle e.of e.tells)

pub returns-in-Spent-clause-list : goal.returns-in-Spent-clause-list
returns-in-Spent-clause-list c = λ pairs has.
    let s = c.args.self.now in
    let e = c.in-Spent.ensures in
    let r = spent-stays c.args.heap.now s.pass c.alloc.new.pass (length c.args.words.now + 1) c.args.tries c.requires.ready.of c.requires.ready.idle e.of e.tells in
    list-stays s c.alloc.new.pass pairs (same-all s.pass c.alloc.new.pass r.same (blocks_of s)) has

pub returns-in-Spent-clause-records : goal.returns-in-Spent-clause-records
returns-in-Spent-clause-records c = λ records has.
    let s = c.args.self.now in
    let e = c.in-Spent.ensures in
    let r = spent-stays c.args.heap.now s.pass c.alloc.new.pass (length c.args.words.now + 1) c.args.tries c.requires.ready.of c.requires.ready.idle e.of e.tells in
    words-stay s c.alloc.new.pass records (same-all s.pass c.alloc.new.pass r.same (blocks_of s)) has

pub returns-in-Busy-clause-left : goal.returns-in-Busy-clause-left
returns-in-Busy-clause-left c =
    let s = c.args.self.now in
    let e = c.in-Busy.ensures in
    let ready = c.requires.ready in
    let same =
    calling-alloc-same c.args.heap.now s.pass c.alloc.new.pass (length c.args.words.now + 1) (suc e.tells.steps) (blocks_of s) e.of e.tells.calling ready.exactly.0 in (
      record {
        of = e.of;
        first = s.pass;
        was = ready.of;
        call = alloc (length c.args.words.now + 1);
        steps = suc e.tells.steps;
        calling = e.tells.calling;
        waits = (refl, ready.exactly, c.requires.reserved, c.requires.room);
        built = built-stays s c.alloc.new.pass (Record (length c.args.words.now)) same ready.built;
      },
      refl,
    )

pub returns-in-Busy-clause-list : goal.returns-in-Busy-clause-list
returns-in-Busy-clause-list c = λ pairs has.
    let s = c.args.self.now in
    let e = c.in-Busy.ensures in
    list-stays s c.alloc.new.pass pairs
    (calling-alloc-same c.args.heap.now s.pass c.alloc.new.pass (length c.args.words.now + 1) (suc e.tells.steps) (blocks_of s) e.of e.tells.calling c.requires.ready.exactly.0) has

pub returns-in-Busy-clause-records : goal.returns-in-Busy-clause-records
returns-in-Busy-clause-records c = λ records has.
    let s = c.args.self.now in
    let e = c.in-Busy.ensures in
    words-stay s c.alloc.new.pass records
    (calling-alloc-same c.args.heap.now s.pass c.alloc.new.pass (length c.args.words.now + 1) (suc e.tells.steps) (blocks_of s) e.of e.tells.calling c.requires.ready.exactly.0) has
