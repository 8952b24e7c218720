use Rattle.std.proofs.Common.{List, ◌≡◌}
use Rattle.trace_lane.proofs.Common.{LeadsBy, Made, AreMisses}
use Rattle.trace_lane.proofs.serve.take.Given as goal

abbrev pub invariant-loop : goal.invariant-loop
invariant-loop g l = record {
  can_next : (goal.iterator-loop g).can_next l.iterator';
  is_finite : (goal.iterator-loop g).is_finite l.iterator';
  stands : g.C.Calls.maker.stands l.calls;
  base : g.C.Calls.maker.runs_on l.calls ≡ g.C.Calls.maker.runs_on l.initial.calls;
  missed : (misses : List Made) × AreMisses l.shelf misses × LeadsBy g.C.Calls.maker.called l.initial.calls misses l.calls;
}
