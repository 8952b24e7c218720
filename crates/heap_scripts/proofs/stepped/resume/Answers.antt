use Rattle.std.proofs.Common.{List, sym, subst}
use Rattle.live_heap.specs.Hands.{IsHand}
use Rattle.heap_scripts.proofs.stepped.resume.Goals as goal

pub go_on-requires-clause-hand : goal.go_on-requires-clause-hand
go_on-requires-clause-hand c = subst (IsHand c.args.heap.now c.args.pass.now) (sym c.reserve.ensures.items) c.requires
