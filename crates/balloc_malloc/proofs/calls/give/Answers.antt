use Rattle.balloc_malloc.proofs.Calling.{gives_by, out_some}
use Rattle.balloc_malloc.proofs.calls.give.Goals as goal

pub known-requires : goal.known-requires
known-requires c = out_some c.args.seat.now.held.tenant c.args.words c.args.first c.args.size c.requires

pub returns : goal.returns
returns c = gives_by c.args.seat.now.held.tenant c.known.result.now c.give.new.self c.args.first c.known.ensures.value c.give.ensures
