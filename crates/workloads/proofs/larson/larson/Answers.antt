use Rattle.std.proofs.Common.{◌≡◌, refl, arith}
use Rattle.workloads.specs.Lanes.{larson_rounds}
use Rattle.workloads.proofs.HeldLemmas.{flags_start, larson_rounds-more, larson-last}
use Rattle.workloads.proofs.larson.larson.Goals as goal

pub loop-round-init : goal.loop-round-init
unfolding larson_rounds
loop-round-init c = record {
  ops = rw c.new-ops.ensures.items refl;
  held = flags_start c.new-ops.result.items c.new-ops.ensures.items;
}

pub loop-round-preserved : goal.loop-round-preserved
loop-round-preserved c = record {
  ops = larson_rounds-more c.loop-round._round c.args.draws.now c.loop-round.draws c.loop-round.ops.items _ c.loop-round.invariant.ops c.in_ok-write_round.ensures.ops;
  held = c.in_ok-write_round.ensures.held;
}

pub returns : goal.returns
returns c =
    let at_end : c.loop-round._round ≡ c.args.rounds = omega arith in
    larson-last c.args.rounds c.args.draws.now c.loop-round.draws c.loop-round.ops.items _
    (rw at_end at c.loop-round.invariant.ops) c.in_ok-write_frees.ensures
