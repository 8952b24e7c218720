use Rattle.balloc_malloc.proofs.Calling.{takes_by}
use Rattle.balloc_malloc.proofs.calls.take.Goals as goal

pub returns-in-Some : goal.returns-in-Some
returns-in-Some c =
    takes_by c.args.seat.now.held.tenant c.in-Some.tenant.now c.take.new.self c.args.bytes c.take.result.code c.take.result.words c.take.result.memory
    c.in-Some.ensures.value c.take.ensures
