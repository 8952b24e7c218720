use Rattle.std.proofs.lemmas.Result.{on_ok_weaker}
use Rattle.workloads.proofs.LaneLemmas.{batch-both}
use Rattle.workloads.proofs.threadtest.write_batch.Goals as goal

pub returns : goal.returns
returns c =
    on_ok_weaker c.write_frees.result
    (batch-both c.args.rounds c.args.ops.now.items c.write_allocs.new.ops.items c.write_frees.new.ops.items c.args.draws.now c.write_allocs.new.draws c.in_ok-write_allocs.ensures)
    c.write_frees.ensures
