use Rattle.std.proofs.Common.{[]}
use Rattle.benches.proofs.heap.rounds.make_blocks.Given as goal

abbrev pub invariant-loop : goal.invariant-loop
invariant-loop g l = record { rests : g.F.Front.rests l.heap l.front; none : g.F.Front.holds l.front [] }
