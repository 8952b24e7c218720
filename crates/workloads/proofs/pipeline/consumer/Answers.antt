use Rattle.workloads.specs.Lanes.{consumed}
use Rattle.workloads.proofs.LaneLemmas.{consumed-more}
use Rattle.workloads.proofs.pipeline.consumer.Goals as goal

pub loop-round-init : goal.loop-round-init
unfolding consumed
loop-round-init c = c.new-ops.ensures.items

pub loop-round-preserved : goal.loop-round-preserved
loop-round-preserved c =
    rw (c.in_ok-push-3.ensures.items, c.in_ok-push-2.ensures.items, c.in_ok-push.ensures.items)
    (consumed-more c.args.pair c.loop-round.round c.shelf.result c.loop-round.ops.items c.loop-round.invariant c.shelf.ensures)
