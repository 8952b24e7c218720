use Rattle.std.proofs.Common.{refl}
use Rattle.workloads.specs.Lanes.{produced}
use Rattle.workloads.proofs.LaneLemmas.{produced-more}
use Rattle.workloads.proofs.pipeline.producer.Goals as goal

pub loop-round-init : goal.loop-round-init
unfolding produced
loop-round-init c = rw c.new-ops.ensures.items refl

pub loop-round-preserved : goal.loop-round-preserved
loop-round-preserved c =
    rw (c.in_ok-push-2.ensures.items, c.in_ok-push.ensures.items, c.from-v.ensures)
    (produced-more c.args.pair c.loop-round.round c.drawn.result c.shelf.result c.loop-round.ops.items c.args.draws.now c.loop-round.draws c.drawn.new.draws c.loop-round.invariant c.drawn.ensures c.shelf.ensures)
