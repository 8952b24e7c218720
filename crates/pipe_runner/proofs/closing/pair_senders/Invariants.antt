use Rattle.std.proofs.Common.{◌≡◌, ◌+◌, length, vec_capacity}
use Rattle.live_heap.specs.Passes.{AreFrom}
use Rattle.block_pipe.specs.Ends.{AreNewFrom}
use Rattle.pipe_runner.specs.Senders.{AreSending}
use Rattle.pipe_runner.proofs.closing.pair_senders.Given as goal

abbrev pub invariant-loop-end : goal.invariant-loop-end
invariant-loop-end g l = record {
  ends : AreNewFrom l._pipe 0 l.ends.items;
  passes : AreFrom l._heap 0 l.passes.items;
  as_many : length l.passes.items ≡ length l.ends.items;
  threads : AreSending (g.G.Gate.passed l._gate) l._heap l._pipe l._start 0 (length l.ends.items) l.threads.items;
  all : length l.threads.items + length l.ends.items ≡ length l.fn.ends.items;
  room : vec_capacity l.threads ≡ vec_capacity l.initial.threads;
}

abbrev pub decreases-loop-end : goal.decreases-loop-end
decreases-loop-end g l = length l.ends.items
