use Rattle.std.proofs.Common.{refl}
use Rattle.errand_steps.specs.Calls.{alloc}
use Rattle.live_heap.proofs.Begun.{begins-of}
use Rattle.live_heap.proofs.PutsNone.{begun-puts}
use Rattle.live_heap.proofs.heap.Heap.begin_alloc.Goals as goal

pub returns-clause-of : goal.returns-clause-of
returns-clause-of g c =
    begins-of c.args.self.now c.args.pass.now (record { seat = c.args.pass.now.seat; errand = c.begin_alloc.new.self; out = c.args.pass.now.out })
    (alloc c.args.need) c.requires.of c.requires.idle tt (λ place about. absurd about) refl refl c.begin_alloc.ensures.errand

pub returns-clause-puts : goal.returns-clause-puts
returns-clause-puts g c =
    begun-puts g.R.ShelfRule.allows c.args.pass.now (record { seat = c.args.pass.now.seat; errand = c.begin_alloc.new.self; out = c.args.pass.now.out })
    (alloc c.args.need) c.requires.idle (record { seat = refl; errand = c.begin_alloc.ensures.errand; out = refl }) tt
