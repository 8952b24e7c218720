use Rattle.std.proofs.Common.{refl}
use Rattle.typed_store.specs.Stores.{blocks_of}
use Rattle.typed_store.proofs.StayLemmas.{same-all}
use Rattle.typed_store.proofs.StoreLemmas.{list-stays, ready-reads, words-stay}
use Rattle.typed_store.proofs.store.Store.list.Goals as goal

pub list_pairs-requires-clause-held : goal.list_pairs-requires-clause-held
list_pairs-requires-clause-held c = (c.args.self.now.records.items, c.requires.exactly)

pub list_pairs-requires-clause-spelled : goal.list_pairs-requires-clause-spelled
list_pairs-requires-clause-spelled c = (c.requires.built.pairs, c.requires.built.list.0, c.requires.built.list.1)

pub returns-clause-ready : goal.returns-clause-ready
returns-clause-ready c = ready-reads c.args.heap.now c.args.self.now c.list_pairs.new.pass c.requires c.list_pairs.ensures.reads

pub returns-clause-list : goal.returns-clause-list
returns-clause-list c = λ pairs has.
    let s = c.args.self.now in
    list-stays s c.list_pairs.new.pass pairs (same-all s.pass c.list_pairs.new.pass c.list_pairs.ensures.reads.same (blocks_of s)) has

pub returns-clause-records : goal.returns-clause-records
returns-clause-records c = λ records has.
    let s = c.args.self.now in
    words-stay s c.list_pairs.new.pass records (same-all s.pass c.list_pairs.new.pass c.list_pairs.ensures.reads.same (blocks_of s)) has

pub returns-clause-rests : goal.returns-clause-rests
returns-clause-rests c = c.list_pairs.ensures.reads.rests

pub returns-clause-stays : goal.returns-clause-stays
returns-clause-stays c = (c.list_pairs.ensures.reads, refl)
