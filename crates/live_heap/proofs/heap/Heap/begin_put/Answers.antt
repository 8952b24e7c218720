use Rattle.std.proofs.Common.{refl, subst}
use Rattle.errand_steps.specs.Calls.{put}
use Rattle.live_heap.specs.Passes.{IsHome}
use Rattle.live_heap.proofs.Begun.{begins-of, heap-block}
use Rattle.live_heap.proofs.PutsNone.{put-puts}
use Rattle.live_heap.proofs.heap.Heap.begin_put.Goals as goal

pub begin_put-requires-clause-block : goal.begin_put-requires-clause-block
begin_put-requires-clause-block g c = heap-block c.args.self.now c.args.pass.now c.args.block c.requires.of c.requires.owned

pub returns-clause-of : goal.returns-clause-of
returns-clause-of g c =
    begins-of c.args.self.now c.args.pass.now (record { seat = c.args.pass.now.seat; errand = c.begin_put.new.self; out = c.args.pass.now.out })
    (put c.args.block.place c.args.block.need c.args.shelf) c.requires.of c.requires.idle (record { block = c.requires.owned.0 }, c.requires.shelf) (λ place about. subst (IsHome c.args.pass.now) about c.requires.owned.1) refl refl c.begin_put.ensures

pub returns-clause-puts : goal.returns-clause-puts
returns-clause-puts g c =
    put-puts g.R.ShelfRule.allows c.args.pass.now (record { seat = c.args.pass.now.seat; errand = c.begin_put.new.self; out = c.args.pass.now.out })
    c.args.block.place c.args.block.need c.args.shelf (record { seat = refl; errand = c.begin_put.ensures; out = refl }) c.requires.words
