use Rattle.std.proofs.Common.{◌∙◌, sym, subst}
use Rattle.typed_store.specs.Stores.{LeavesStore}
use Rattle.embedding_tests.proofs.driver.finish.Goals as goal

pub resume-stored-requires-clause-under_way : goal.resume-stored-requires-clause-under_way
resume-stored-requires-clause-under_way g c =
    let i = c.loop-resumed.invariant in
    (subst (λ s. LeavesStore c.args.heap.now s i.0 c.loop-resumed.store) c.in-Busy.is i.1).0

pub resume-stored-requires-clause-words : goal.resume-stored-requires-clause-words
resume-stored-requires-clause-words g c = λ many is.
    let i = c.loop-resumed.invariant in
    let left = subst (λ s. LeavesStore c.args.heap.now s i.0 c.loop-resumed.store) c.in-Busy.is i.1 in
    i.2 many (sym left.1 ∙ is)
