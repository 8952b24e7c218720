use Rattle.std.proofs.Common.{◌≡◌}
use Rattle.block_pipe.specs.Ends.{IsSender, pushed_by}
use Rattle.pipe_runner.proofs.sender.flush_out.Given as goal

abbrev pub invariant-loop : goal.invariant-loop
invariant-loop g l = record {
  can_next : (goal.iterator-loop g).can_next l.iterator';
  is_finite : (goal.iterator-loop g).is_finite l.iterator';
  of : IsSender l.pipe l.end;
  number : l.end.number ≡ l.initial.end.number;
  pending : l.end.pending ≡ l.initial.end.pending;
  pushed : pushed_by l.end ≡ pushed_by l.initial.end;
}
