use Rattle.std.proofs.Common.{◌≡◌, ◌+◌, ap, arith, ◌∙◌}
use Rattle.block_pipe.proofs.TurnLemmas.{turns-on, turns-over}
use Rattle.block_pipe.proofs.sender.next_turn.Goals as goal

pub returns-then-next-shelves-clause-next : goal.returns-then-next-shelves-clause-next
returns-then-next-shelves-clause-next c = λ sent is. turns-on c.args.turn c.args.shelves sent c.if-next-shelves.true is

pub returns-else-next-shelves-clause-next : goal.returns-else-next-shelves-clause-next
returns-else-next-shelves-clause-next c = λ sent is. turns-over c.args.turn c.args.shelves sent (omega (arith, c.if-next-shelves.false, c.requires)) is
