use Rattle.std.proofs.Common.{◌≡◌}
use Rattle.live_heap.specs.Contents.{OwnsSame}
use Rattle.block_pipe.specs.Notes.{shelf_for}
use Rattle.pipe_runner.specs.EndCalls.{FoundFull, HasTried}
use Rattle.pipe_runner.specs.Moves.{KeepsBlocks}
use Rattle.pipe_runner.proofs.sender.hand_over.Given as goal

abbrev pub invariant-loop : goal.invariant-loop
invariant-loop g l = record {
  can_next : (goal.iterator-loop g).can_next l.iterator';
  is_finite : (goal.iterator-loop g).is_finite l.iterator';
  end : l.end ≡ l.initial.end;
  left : l.left ≡ l.fn.block;
  keeps : KeepsBlocks l.heap l.initial.pass l.pass;
  same : OwnsSame l.initial.pass l.pass;
  full : HasTried (FoundFull l.fn.block (shelf_for l.pipe.shelves l.initial.end.number l.initial.end.sent)) l.initial.pass l.pass;
}
