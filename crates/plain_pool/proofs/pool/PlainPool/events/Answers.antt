use Rattle.std.proofs.Common.{subst}
use Rattle.pool_model.specs.Legal.{IsLegal}
use Rattle.plain_pool.specs.Plain.{PlainState}
use Rattle.plain_pool.proofs.pool.PlainPool.events.Goals as goal

pub returns-clause-legal : goal.returns-clause-legal
returns-clause-legal c = subst (λ (s : PlainState). IsLegal s.geometry s.events) c.self.view_is c.self.invariant.legal
