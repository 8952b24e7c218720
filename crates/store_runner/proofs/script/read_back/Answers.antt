use Rattle.std.proofs.Common.{ℕ, [], ◌∷◌, Option, Vec, Global, sym, subst}
use Rattle.std.specs.Prelude.{option_map}
use Rattle.live_heap.specs.declared.pass.Pass.{Pass}
use Rattle.live_heap.specs.Contents.{owned_in}
use Rattle.typed_store.specs.Passings.{Rests}
use Rattle.typed_store.specs.Walks.{ReadsRecord}
use Rattle.typed_store.proofs.PassLemmas.{rests-on}
use Rattle.store_runner.proofs.KeepLemmas.{KeepsRead, store-keeps}
use Rattle.store_runner.proofs.script.read_back.Goals as goal

pub returns-clause-rests : goal.returns-clause-rests
returns-clause-rests c =
    let h = c.args.heap.now in
    let s = c.args.store in
    subst (λ (p : Pass). Rests h s.pass p) (sym c.close.ensures)
    (rests-on h s.pass c.list.new.self.pass c.record.new.self.pass c.list.ensures.rests c.record.ensures.rests)

pub returns-clause-keeps : goal.returns-clause-keeps
returns-clause-keeps c = λ pairs words has are.
    let h = c.args.heap.now in
    let listed = c.in_ok-pairs.pairs.items in
    let found = c.in-Some.words.items in
    let read =
    subst (λ (o : Option (Vec ℕ Global)). ReadsRecord h c.list.new.self.pass c.list.new.self.records.items 0 (option_map (λ (w : Vec ℕ Global). w.items) o) c.record.new.self.pass)
    c.in-Some.is c.in_ok-found.ensures.read in
    subst (λ (p : Pass). KeepsRead (owned_in p) h pairs words listed found p) (sym c.close.ensures)
    (store-keeps h c.args.store c.list.new.self c.record.new.self listed pairs found words c.list.ensures.stays.1 c.record.ensures.stays.1
    c.in_ok-pairs.ensures.found read c.record.ensures.ready
    (c.record.ensures.list pairs (c.list.ensures.list pairs has))
    (c.record.ensures.records (words ∷ []) (c.list.ensures.records (words ∷ []) are)))
