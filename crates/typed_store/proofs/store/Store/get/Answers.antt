use Rattle.std.proofs.Common.{ℕ, List, refl, sym, ap, ◌∙◌}
use Rattle.std.specs.Prelude.{option_map}
use Rattle.typed_store.specs.Nodes.{first_with}
use Rattle.typed_store.specs.Stores.{blocks_of}
use Rattle.typed_store.proofs.StayLemmas.{same-all}
use Rattle.typed_store.proofs.StoreLemmas.{list-stays, ready-reads, words-stay}
use Rattle.typed_store.proofs.WalkLemmas.{first-found}
use Rattle.typed_store.proofs.store.Store.get.Goals as goal

pub seek-requires-clause-held : goal.seek-requires-clause-held
seek-requires-clause-held c = (c.args.self.now.records.items, c.requires.exactly)

pub seek-requires-clause-spelled : goal.seek-requires-clause-spelled
seek-requires-clause-spelled c = (c.requires.built.pairs, c.requires.built.list.0, c.requires.built.list.1)

pub returns-in-Some-clause-ready : goal.returns-in-Some-clause-ready
returns-in-Some-clause-ready c = ready-reads c.args.heap.now c.args.self.now c.seek.new.pass c.requires c.seek.ensures.reads

pub returns-in-Some-clause-list : goal.returns-in-Some-clause-list
returns-in-Some-clause-list c = λ pairs has.
    let s = c.args.self.now in
    let f = c.in-Some.ensures.found pairs has.0 in
    let found = first-found c.args.key f.before f.after (c.in-Some.sought.node.key, c.in-Some.sought.node.value) f.first f.key_is in (
      sym (ap (λ (l : List (ℕ × ℕ)). option_map (λ (pair : ℕ × ℕ). pair.1) (first_with c.args.key l)) f.whole
          ∙ ap (option_map (λ (pair : ℕ × ℕ). pair.1)) found.0),
      list-stays s c.seek.new.pass pairs (same-all s.pass c.seek.new.pass c.seek.ensures.reads.same (blocks_of s)) has,
    )

pub returns-in-Some-clause-records : goal.returns-in-Some-clause-records
returns-in-Some-clause-records c = λ records has.
    let s = c.args.self.now in
    words-stay s c.seek.new.pass records (same-all s.pass c.seek.new.pass c.seek.ensures.reads.same (blocks_of s)) has

pub returns-in-None-clause-ready : goal.returns-in-None-clause-ready
returns-in-None-clause-ready c = ready-reads c.args.heap.now c.args.self.now c.seek.new.pass c.requires c.seek.ensures.reads

pub returns-in-None-clause-list : goal.returns-in-None-clause-list
returns-in-None-clause-list c = λ pairs has.
    let s = c.args.self.now in (
      sym (ap (option_map (λ (pair : ℕ × ℕ). pair.1)) (c.in-None.ensures.none pairs has.0)),
      list-stays s c.seek.new.pass pairs (same-all s.pass c.seek.new.pass c.seek.ensures.reads.same (blocks_of s)) has,
    )

pub returns-in-None-clause-records : goal.returns-in-None-clause-records
returns-in-None-clause-records c = λ records has.
    let s = c.args.self.now in
    words-stay s c.seek.new.pass records (same-all s.pass c.seek.new.pass c.seek.ensures.reads.same (blocks_of s)) has

pub returns-in-Some-clause-rests : goal.returns-in-Some-clause-rests
returns-in-Some-clause-rests c = c.seek.ensures.reads.rests

pub returns-in-None-clause-rests : goal.returns-in-None-clause-rests
returns-in-None-clause-rests c = c.seek.ensures.reads.rests

pub returns-in-Some-clause-stays : goal.returns-in-Some-clause-stays
returns-in-Some-clause-stays c = (c.seek.ensures.reads, refl)

pub returns-in-None-clause-stays : goal.returns-in-None-clause-stays
returns-in-None-clause-stays c = (c.seek.ensures.reads, refl)
