use Rattle.std.proofs.Common.{rules}
use Rattle.edge_io.proofs.calls.Calls.next_call.Goals as goal

pub returns-then-must_fail-clause-fails : goal.returns-then-must_fail-clause-fails
returns-then-must_fail-clause-fails c = search rules

pub returns-then-must_fail-clause-plan : goal.returns-then-must_fail-clause-plan
returns-then-must_fail-clause-plan c = search rules

pub returns-clause-fails : goal.returns-clause-fails
returns-clause-fails c = search rules

pub returns-clause-plan : goal.returns-clause-plan
returns-clause-plan c = search rules
