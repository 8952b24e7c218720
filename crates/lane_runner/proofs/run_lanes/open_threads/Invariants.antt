use Rattle.std.proofs.Common.{◌≡◌, ◌≤◌, ◌+◌, ◌++◌, length, vec_capacity}
use Rattle.live_heap.specs.Passes.{AreFrom}
use Rattle.lane_runner.specs.Threads.{AreReady, passes_behind}
use Rattle.lane_runner.proofs.run_lanes.open_threads.Given as goal

abbrev pub invariant-loop-pass : goal.invariant-loop-pass
invariant-loop-pass l = record {
  passes : AreFrom l.heap 0 l.passes.items;
  all : length l.threads.items + length l.passes.items ≡ length l.trace.lanes;
  threads : AreReady l.trace l.heap l.depth (length l.passes.items) l.threads.items;
  whole : l.passes.items ++ passes_behind l.threads.items ≡ l.initial.passes.items;
  back : length l.passes.items + length l.threads.items ≤ vec_capacity l.passes;
  room : length l.trace.lanes ≤ vec_capacity l.threads;
}

abbrev pub decreases-loop-pass : goal.decreases-loop-pass
decreases-loop-pass l = length l.passes.items
