use Rattle.std.proofs.Common.{◌≡◌, ◌+◌, length, vec_capacity}
use Rattle.pipe_runner.specs.Runs.{AreDone}
use Rattle.pipe_runner.specs.Senders.{AreSending}
use Rattle.pipe_runner.proofs.closing.take_apart.Given as goal

abbrev pub invariant-loop-thread : goal.invariant-loop-thread
invariant-loop-thread g l = record {
  left : AreSending (g.G.Gate.passed l._gate) l._heap l._pipe l._start l._messages (length l.passes.items) l.threads.items;
  all : length l.passes.items + length l.threads.items ≡ length l.fn.threads.items;
  done : AreDone (g.G.Gate.passed l._gate) l._heap l._pipe l._start l._messages 0 l.passes.items l.ends.items;
  room : vec_capacity l.passes ≡ vec_capacity l.initial.passes;
  room_too : vec_capacity l.ends ≡ vec_capacity l.initial.ends;
}

abbrev pub decreases-loop-thread : goal.decreases-loop-thread
decreases-loop-thread g l = length l.threads.items
