use Rattle.benches.specs.Hands.{Keeps}
use Rattle.benches.proofs.heap.stamps.wrong_words.Given as goal

abbrev pub invariant-loop-i : goal.invariant-loop-i
invariant-loop-i g l = record { rests : g.F.Front.rests l.heap l.front; keeps : Keeps g.F.Front.holds l.fn.front l.front }
