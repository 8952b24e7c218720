use Rattle.worked_programs.specs.Pipes.{IsLine}
use Rattle.embedding_tests.proofs.piping.come_to.Given as goal

abbrev pub invariant-loop-row : goal.invariant-loop-row
invariant-loop-row g l = IsLine l.line
