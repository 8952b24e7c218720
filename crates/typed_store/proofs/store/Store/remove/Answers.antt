use Rattle.std.proofs.Common.{ℕ, ◌≡◌, ◌++◌, List, Some, sym, ap, ◌∙◌, subst}
use Rattle.typed_store.specs.Nodes.{first_with, without_first}
use Rattle.typed_store.specs.Stores.{HasList, TellsPopped, blocks_of}
use Rattle.typed_store.proofs.StayLemmas.{same-all}
use Rattle.typed_store.proofs.StoreLemmas.{list-stays, ready-reads, words-stay}
use Rattle.typed_store.proofs.UnlinkLemmas.{freed-behind, stands-read}
use Rattle.typed_store.proofs.WalkLemmas.{first-found, first-kept}
use Rattle.typed_store.proofs.store.Store.remove.Goals as goal

pub seek-requires-clause-held : goal.seek-requires-clause-held
seek-requires-clause-held c = (c.args.self.now.records.items, c.requires.ready.exactly)

pub seek-requires-clause-spelled : goal.seek-requires-clause-spelled
seek-requires-clause-spelled c = (c.requires.ready.built.pairs, c.requires.ready.built.list.0, c.requires.ready.built.list.1)

pub unlink-requires-clause-ready : goal.unlink-requires-clause-ready
unlink-requires-clause-ready c = ready-reads c.args.heap.now c.args.self.now c.seek.new.pass c.requires.ready c.seek.ensures.reads

pub unlink-requires-clause-stands : goal.unlink-requires-clause-stands
unlink-requires-clause-stands c =
    let s = c.args.self.now in
    let b = c.requires.ready.built in
    let f = c.in-Some.ensures.found b.pairs b.list.0 in
    (f.before, f.after, stands-read c.args.heap.now s c.seek.new.pass f.before c.in-Some.sought f.after c.seek.ensures.reads f.stands)

pub returns-in-Some-clause-list : goal.returns-in-Some-clause-list
returns-in-Some-clause-list c = λ pairs has.
    let s = c.args.self.now in
    let node = c.in-Some.sought.node in
    let f = c.in-Some.ensures.found pairs has.0 in
    let found = first-found c.args.key f.before f.after (node.key, node.value) f.first f.key_is in
    let first : first_with c.args.key pairs ≡ Some (node.key, node.value) = ap (first_with c.args.key) f.whole ∙ found.0 in
    let rest : without_first c.args.key pairs ≡ f.before ++ f.after = ap (without_first c.args.key) f.whole ∙ found.1 in
    let stands = stands-read c.args.heap.now s c.seek.new.pass f.before c.in-Some.sought f.after c.seek.ensures.reads f.stands in
    let left = c.unlink.ensures.list f.before f.after stands in (
      subst (λ o. TellsPopped o c.unlink.result) (sym first) c.unlink.ensures.told,
      subst (λ (l : List (ℕ × ℕ)). HasList c.unlink.new.self l) (sym rest) left,
    )

pub returns-in-Some-clause-records : goal.returns-in-Some-clause-records
returns-in-Some-clause-records c = λ records has.
    let s = c.args.self.now in
    c.unlink.ensures.records records (words-stay s c.seek.new.pass records (same-all s.pass c.seek.new.pass c.seek.ensures.reads.same (blocks_of s)) has)

pub returns-in-Some-clause-cause : goal.returns-in-Some-clause-cause
returns-in-Some-clause-cause c =
    freed-behind c.args.heap.now c.args.self.now c.seek.new.pass c.args.tries c.unlink.result c.unlink.new.self c.seek.ensures.reads c.unlink.ensures.cause

pub returns-in-None-clause-left : goal.returns-in-None-clause-left
returns-in-None-clause-left c = ready-reads c.args.heap.now c.args.self.now c.seek.new.pass c.requires.ready c.seek.ensures.reads

pub returns-in-None-clause-list : goal.returns-in-None-clause-list
returns-in-None-clause-list c = λ pairs has.
    let s = c.args.self.now in
    let none = c.in-None.ensures.none pairs has.0 in (
      subst (λ o. TellsPopped o Rattle.typed_store.specs.declared.store.Popped.TheVariants.Empty) (sym none) Rattle.std.proofs.Common.refl,
      list-stays s c.seek.new.pass (without_first c.args.key pairs) (same-all s.pass c.seek.new.pass c.seek.ensures.reads.same (blocks_of s))
          (subst (HasList s) (sym (first-kept c.args.key pairs none)) has),
    )

pub returns-in-None-clause-records : goal.returns-in-None-clause-records
returns-in-None-clause-records c = λ records has.
    let s = c.args.self.now in
    words-stay s c.seek.new.pass records (same-all s.pass c.seek.new.pass c.seek.ensures.reads.same (blocks_of s)) has

pub returns-in-None-clause-cause : goal.returns-in-None-clause-cause
returns-in-None-clause-cause c = c.seek.ensures.reads.rests
