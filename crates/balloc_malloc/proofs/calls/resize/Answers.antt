use Rattle.balloc_malloc.proofs.Calling.{resizes_by}
use Rattle.balloc_malloc.proofs.calls.resize.Goals as goal

pub returns-in-Some : goal.returns-in-Some
returns-in-Some c =
    resizes_by c.args.seat.now.held.tenant c.in-Some.tenant.now c.resize.new.self c.args.words c.args.size c.args.bytes c.resize.result.code c.resize.result.words
    c.resize.result.memory c.in-Some.ensures.value c.resize.ensures
