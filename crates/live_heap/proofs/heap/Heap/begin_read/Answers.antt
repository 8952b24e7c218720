use Rattle.std.proofs.Common.{subst, refl}
use Rattle.errand_steps.specs.Calls.{read}
use Rattle.live_heap.specs.Passes.{IsHome}
use Rattle.live_heap.proofs.Begun.{begins-of, heap-block}
use Rattle.live_heap.proofs.PutsNone.{begun-puts}
use Rattle.live_heap.proofs.heap.Heap.begin_read.Goals as goal

pub begin_read-requires-clause-block : goal.begin_read-requires-clause-block
begin_read-requires-clause-block g c = heap-block c.args.self.now c.args.pass.now c.args.block.now c.requires.of c.requires.owned

pub returns-clause-of : goal.returns-clause-of
returns-clause-of g c =
    begins-of c.args.self.now c.args.pass.now (record { seat = c.args.pass.now.seat; errand = c.begin_read.new.self; out = c.args.pass.now.out })
    (read c.args.block.now.place c.args.block.now.need c.args.i) c.requires.of c.requires.idle (record { block = c.requires.owned.0 }, c.requires.word) (λ place about. subst (IsHome c.args.pass.now) about c.requires.owned.1) refl refl c.begin_read.ensures

pub returns-clause-puts : goal.returns-clause-puts
returns-clause-puts g c =
    begun-puts g.R.ShelfRule.allows c.args.pass.now (record { seat = c.args.pass.now.seat; errand = c.begin_read.new.self; out = c.args.pass.now.out })
    (read c.args.block.now.place c.args.block.now.need c.args.i) c.requires.idle (record { seat = refl; errand = c.begin_read.ensures; out = refl }) tt
