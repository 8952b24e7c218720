use Rattle.std.proofs.Common.{refl, subst}
use Rattle.errand_steps.specs.Calls.{free}
use Rattle.live_heap.specs.Passes.{IsHome}
use Rattle.live_heap.proofs.Begun.{begins-of, heap-block}
use Rattle.live_heap.proofs.PutsNone.{begun-puts}
use Rattle.live_heap.proofs.heap.Heap.begin_free.Goals as goal

pub begin_free-requires-clause-block : goal.begin_free-requires-clause-block
begin_free-requires-clause-block g c = heap-block c.args.self.now c.args.pass.now c.args.block c.requires.of c.requires.owned

pub returns-clause-of : goal.returns-clause-of
returns-clause-of g c =
    begins-of c.args.self.now c.args.pass.now (record { seat = c.args.pass.now.seat; errand = c.begin_free.new.self; out = c.args.pass.now.out })
    (free c.args.block.place c.args.block.need) c.requires.of c.requires.idle (record { block = c.requires.owned.0 }) (λ place about. subst (IsHome c.args.pass.now) about c.requires.owned.1) refl refl c.begin_free.ensures

pub returns-clause-puts : goal.returns-clause-puts
returns-clause-puts g c =
    begun-puts g.R.ShelfRule.allows c.args.pass.now (record { seat = c.args.pass.now.seat; errand = c.begin_free.new.self; out = c.args.pass.now.out })
    (free c.args.block.place c.args.block.need) c.requires.idle (record { seat = refl; errand = c.begin_free.ensures; out = refl }) tt
