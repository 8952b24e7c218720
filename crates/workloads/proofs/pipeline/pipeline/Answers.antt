use Rattle.std.proofs.lemmas.Result.{IfOk-weaker}
use Rattle.workloads.proofs.LaneLemmas.{pipeline-even, pipeline-odd}
use Rattle.workloads.proofs.pipeline.pipeline.Goals as goal

pub returns-then-lane-eq0 : goal.returns-then-lane-eq0
returns-then-lane-eq0 c = rw (pipeline-even c.args.lane c.args.rounds c.args.draws.now c.if-lane-eq0.true) c.producer.ensures

pub returns-else-lane-eq0 : goal.returns-else-lane-eq0
returns-else-lane-eq0 c =
    IfOk-weaker c.consumer.result _ _ (λ ops is. rw is (pipeline-odd c.args.lane c.args.rounds c.args.draws.now c.if-lane-eq0.false)) c.consumer.ensures
