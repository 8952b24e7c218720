use Rattle.store_runner.proofs.RoundLemmas.{round-at}
use Rattle.store_runner.proofs.script.play_round.Goals as goal

pub returns : goal.returns
returns g c =
    let out = c.take_out.ensures in
    let in_front = c.in_ok-push.ensures in
    round-at c.args.heap.now c.args.rounds c.from-number.result c.args.store.now c.take_out.new.store c.push.new.store c.from-number.ensures
    c.requires.behind out.list out.records out.counts in_front.ready in_front.list in_front.records in_front.counts
