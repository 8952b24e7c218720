use Rattle.std.proofs.Common.{sym, ◌∙◌}
use Rattle.balloc_malloc.proofs.SeatLemmas.{some-of}
use Rattle.balloc_malloc.proofs.seat.ThreadSeat.tenant.Goals as goal

pub tenant-requires : goal.tenant-requires
tenant-requires c = some-of c.args.self.now.held.tenant (sym c.args.self.now.is_live ∙ c.if-self.true)
