use Rattle.std.proofs.Common.{refl}
use Rattle.workloads.specs.Lanes.{scalability}
use Rattle.workloads.proofs.LaneLemmas.{scalability-more}
use Rattle.workloads.proofs.scalability.scalability.Goals as goal

pub loop-round-init : goal.loop-round-init
unfolding scalability
loop-round-init c = rw c.new-ops.ensures.items refl

pub loop-round-preserved : goal.loop-round-preserved
loop-round-preserved c =
    scalability-more c.loop-round._round c.args.draws.now c.loop-round.draws c.loop-round.ops.items _ c.loop-round.invariant c.in_ok-write_round.ensures
