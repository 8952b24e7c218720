use Rattle.std.proofs.Common.{subst, rules, arith}
use Rattle.std.specs.Prelude.{All}
use Rattle.std.proofs.lemmas.List.Elements.{All-head, All-tail}
use Rattle.pipe_runner.specs.declared.sender.SenderThread.{SenderThread}
use Rattle.pipe_runner.specs.Senders.{MaySend, SendsUntil}
use Rattle.pipe_runner.proofs.RoundLemmas.{all-sent}
use Rattle.pipe_runner.proofs.rounds.+beside.Goals as goal

pub send_beside-returns-in-None-clause-sent : goal.send_beside-returns-in-None-clause-sent
send_beside-returns-in-None-clause-sent g t c = λ i d below. absurd (omega (arith, below, c.in-None.ensures.cases))

pub send_beside-send_first-requires : goal.send_beside-send_first-requires
send_beside-send_first-requires g t c κs within =
    let P : SenderThread → Type 0 = λ w. MaySend (g.G.Gate.passed c.args.gate.now) c.args.heap.now c.args.pipe.now c.args.start c.args.until w in
    let parts = c.in-Some.ensures.cases in
    let may = subst (All P) parts.0 c.requires.may in
    (search rules, (within.0, (within.1, (search rules, (search rules, (All-head P _ _ may, (All-tail P _ _ may, c.requires.receives)))))))

pub send_beside-returns-in-Some-clause-sent : goal.send_beside-returns-in-Some-clause-sent
send_beside-returns-in-Some-clause-sent g t c =
    all-sent (SendsUntil (g.G.Gate.passed c.args.gate.now) c.args.heap.now c.args.pipe.now c.args.start c.args.until) _ _ _ _ _
    c.in-Some.ensures.cases.0 c.send_first.ensures.first c.send_first.ensures.others
