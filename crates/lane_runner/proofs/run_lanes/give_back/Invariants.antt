use Rattle.std.proofs.Common.{◌≡◌, ◌≤◌, ◌+◌, ◌++◌, length, vec_capacity}
use Rattle.lane_runner.specs.Threads.{passes_behind}
use Rattle.lane_runner.proofs.run_lanes.give_back.Given as goal

abbrev pub invariant-loop-thread : goal.invariant-loop-thread
invariant-loop-thread l = record {
  all : l.passes.items ++ passes_behind l.threads.items ≡ l.initial.passes.items ++ passes_behind l.initial.threads.items;
  room : length l.passes.items + length l.threads.items ≤ vec_capacity l.passes;
}

abbrev pub decreases-loop-thread : goal.decreases-loop-thread
decreases-loop-thread l = length l.threads.items
