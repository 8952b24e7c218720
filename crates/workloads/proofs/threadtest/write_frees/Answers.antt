use Rattle.std.proofs.lemmas.List.{append-nil}
use Rattle.workloads.specs.Lanes.{batch_frees}
use Rattle.workloads.proofs.LaneLemmas.{batch_frees-more}
use Rattle.workloads.proofs.threadtest.write_frees.Goals as goal

pub loop-r-init : goal.loop-r-init
unfolding batch_frees
loop-r-init c = simp append-nil

pub loop-r-preserved : goal.loop-r-preserved
loop-r-preserved c =
    rw (c.in_ok-push-2.ensures.items, c.in_ok-push.ensures.items)
    (batch_frees-more c.loop-r.r c.args.ops.now.items c.loop-r.ops.items c.loop-r.invariant)
