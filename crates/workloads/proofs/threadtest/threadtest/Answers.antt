use Rattle.std.proofs.Common.{◌≡◌, ◌/◌, refl, arith}
use Rattle.workloads.specs.Lanes.{full_batches}
use Rattle.workloads.proofs.LaneLemmas.{full_batches-more, threadtest-last}
use Rattle.workloads.proofs.threadtest.threadtest.Goals as goal

pub loop-full-init : goal.loop-full-init
unfolding full_batches
loop-full-init c = rw c.new-ops.ensures.items refl

pub loop-full-preserved : goal.loop-full-preserved
loop-full-preserved c =
    full_batches-more c.loop-full._full c.args.draws.now c.loop-full.draws c.loop-full.ops.items _ c.loop-full.invariant c.in_ok-write_batch.ensures

pub returns : goal.returns
returns c =
    let at_end : c.loop-full._full ≡ c.args.rounds / 64 = omega arith in
    threadtest-last c.args.rounds c.args.draws.now c.loop-full.draws c.loop-full.ops.items _
    (rw at_end at c.loop-full.invariant) c.in_ok-write_batch-2.ensures
