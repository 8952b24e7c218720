use Rattle.std.proofs.Common.{subst}
use Rattle.pool_model.specs.Legal.{IsLegal}
use Rattle.plain_pool.specs.Plain.{PlainState}
use Rattle.plain_pool.proofs.pool.PlainPool.alloc.Goals as goal

pub returns-in-TooLarge-clause-legal : goal.returns-in-TooLarge-clause-legal
returns-in-TooLarge-clause-legal c = subst (λ (s : PlainState). IsLegal s.geometry s.events) c.self.view_is c.self.invariant.legal
