use Rattle.std.proofs.Common.{ℕ, List, Some, refl, sym, ap, ◌∙◌, arith}
use Rattle.typed_store.specs.Nodes.{tokens_in}
use Rattle.typed_store.specs.Stores.{blocks_of}
use Rattle.typed_store.proofs.RecordLemmas.{got, holds-back, record-at, records-counted}
use Rattle.typed_store.proofs.StayLemmas.{same-all}
use Rattle.typed_store.proofs.StoreLemmas.{list-stays, ready-reads, words-stay}
use Rattle.typed_store.proofs.PassLemmas.{reads-self}
use Rattle.typed_store.proofs.store.Store.record.Goals as goal

pub record_token-block-requires : goal.record_token-block-requires
record_token-block-requires c =
    let s = c.args.self.now in
    let b = c.requires.built in
    got s.records.items c.args.number
    (omega (arith, c.if-number-self.false, b.records.1, records-counted s.pass s.records.items b.words b.records.0))

pub read_record-requires-clause-owned : goal.read_record-requires-clause-owned
read_record-requires-clause-owned c =
    let s = c.args.self.now in
    holds-back s.pass (tokens_in s.slots.items) s.records.items c.args.number c.record_token-block.result.now c.requires.exactly.0 c.record_token-block.ensures

pub read_record-requires-clause-record : goal.read_record-requires-clause-record
read_record-requires-clause-record c =
    let s = c.args.self.now in
    let b = c.requires.built in
    let r = record-at s.pass s.records.items b.words c.args.number c.record_token-block.result.now b.records.0 c.record_token-block.ensures in
    (r.0, r.2)

pub returns-in_err-read_record-clause-ready : goal.returns-in_err-read_record-clause-ready
returns-in_err-read_record-clause-ready c = ready-reads c.args.heap.now c.args.self.now c.read_record.new.pass c.requires c.read_record.ensures.reads

pub returns-in_err-read_record-clause-records : goal.returns-in_err-read_record-clause-records
returns-in_err-read_record-clause-records c = λ records has.
    let s = c.args.self.now in
    words-stay s c.read_record.new.pass records (same-all s.pass c.read_record.new.pass c.read_record.ensures.reads.same (blocks_of s)) has

pub returns-in_err-read_record-clause-list : goal.returns-in_err-read_record-clause-list
returns-in_err-read_record-clause-list c = λ pairs has.
    let s = c.args.self.now in
    list-stays s c.read_record.new.pass pairs (same-all s.pass c.read_record.new.pass c.read_record.ensures.reads.same (blocks_of s)) has

pub returns-clause-ready : goal.returns-clause-ready
returns-clause-ready c = ready-reads c.args.heap.now c.args.self.now c.read_record.new.pass c.requires c.read_record.ensures.reads

pub returns-clause-records : goal.returns-clause-records
returns-clause-records c = λ records has.
    let s = c.args.self.now in
    words-stay s c.read_record.new.pass records (same-all s.pass c.read_record.new.pass c.read_record.ensures.reads.same (blocks_of s)) has

pub returns-clause-list : goal.returns-clause-list
returns-clause-list c = λ pairs has.
    let s = c.args.self.now in
    list-stays s c.read_record.new.pass pairs (same-all s.pass c.read_record.new.pass c.read_record.ensures.reads.same (blocks_of s)) has

pub returns-clause-found : goal.returns-clause-found
returns-clause-found c = λ records has.
    let s = c.args.self.now in
    let r = record-at s.pass s.records.items records c.args.number c.record_token-block.result.now has.0 c.record_token-block.ensures in
    ap (λ (l : List ℕ). Some l) (c.in_ok-read_record.ensures.words r.0 r.2) ∙ sym r.1

pub returns-in_err-read_record-clause-rests : goal.returns-in_err-read_record-clause-rests
returns-in_err-read_record-clause-rests c = c.read_record.ensures.reads.rests

pub returns-clause-rests : goal.returns-clause-rests
returns-clause-rests c = c.read_record.ensures.reads.rests

pub returns-in_err-read_record-clause-stays : goal.returns-in_err-read_record-clause-stays
returns-in_err-read_record-clause-stays c = (c.read_record.ensures.reads, refl)

pub returns-clause-stays : goal.returns-clause-stays
returns-clause-stays c = (c.read_record.ensures.reads, refl)

pub returns-clause-read : goal.returns-clause-read
returns-clause-read c = (c.record_token-block.result.now, c.record_token-block.ensures, c.in_ok-read_record.ensures.found)

pub returns-then-number-self-clause-rests : goal.returns-then-number-self-clause-rests
returns-then-number-self-clause-rests c = (reads-self c.args.heap.now c.args.self.now.pass c.requires.of c.requires.idle).rests

pub returns-then-number-self-clause-stays : goal.returns-then-number-self-clause-stays
returns-then-number-self-clause-stays c = (reads-self c.args.heap.now c.args.self.now.pass c.requires.of c.requires.idle, refl)
