use Rattle.workloads.proofs.LaneLemmas.{batch_allocs-start, batch_allocs-more}
use Rattle.workloads.proofs.threadtest.write_allocs.Goals as goal

pub loop-r-init : goal.loop-r-init
loop-r-init c = batch_allocs-start c.args.ops.now.items c.args.draws.now

pub loop-r-preserved : goal.loop-r-preserved
loop-r-preserved c =
    let more = batch_allocs-more c.loop-r.r c.drawn.result c.args.ops.now.items c.loop-r.ops.items c.args.draws.now c.loop-r.draws c.drawn.new.draws c.loop-r.invariant c.drawn.ensures in
    rw (c.in_ok-push.ensures.items, c.from-v.ensures) more
