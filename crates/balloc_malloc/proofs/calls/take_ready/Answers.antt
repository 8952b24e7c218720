use Rattle.balloc_malloc.proofs.Calling.{serves_by}
use Rattle.balloc_malloc.proofs.calls.take_ready.Goals as goal

pub returns-in-Some : goal.returns-in-Some
returns-in-Some c =
    serves_by c.args.seat.now.held.tenant c.in-Some.tenant.now c.take_ready.new.self c.args.bytes c.take_ready.result.code c.take_ready.result.words c.take_ready.result.memory
    c.in-Some.ensures.value c.take_ready.ensures
