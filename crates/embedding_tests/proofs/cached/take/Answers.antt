use Rattle.std.proofs.Common.{◌++◌, ◌∷◌, [], List, ap, ◌∙◌}
use Rattle.live_heap.specs.declared.block.Block.{Block}
use Rattle.embedding_tests.proofs.CachedHands.{held-more}
use Rattle.embedding_tests.proofs.cached.take.Goals as goal

pub returns-in-Got-clause-holds : goal.returns-in-Got-clause-holds
returns-in-Got-clause-holds c =
    let b = c.in-Got.block in
    held-more c.take.new.self c.args.held.now.items c.push_reserved.new.self.items b
    (c.push_reserved.ensures.items ∙ ap (λ (xs : List Block). xs ++ b ∷ []) c.reserve.ensures.items)
    (c.in-Got.ensures.holds c.args.held.now.items c.requires.holds)
