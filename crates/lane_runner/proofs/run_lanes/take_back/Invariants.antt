use Rattle.std.proofs.Common.{◌≡◌, ◌+◌, length, vec_capacity}
use Rattle.lane_runner.specs.Threads.{AreDone, AreEnded}
use Rattle.lane_runner.proofs.run_lanes.take_back.Given as goal

abbrev pub invariant-loop-thread : goal.invariant-loop-thread
invariant-loop-thread l = record {
  left : AreDone l._trace l._heap l._depth (length l.run.passes.items) l.threads.items;
  all : length l.run.passes.items + length l.threads.items ≡ length l._trace.lanes;
  ended : AreEnded l._trace l._heap l._depth 0 l.run.passes.items l.run.outcomes.items l.run.hits.items;
  room : vec_capacity l.run.passes ≡ vec_capacity l.fn.run.passes;
  room_too : vec_capacity l.run.outcomes ≡ vec_capacity l.fn.run.outcomes;
  room_of_hits : vec_capacity l.run.hits ≡ vec_capacity l.fn.run.hits;
}

abbrev pub decreases-loop-thread : goal.decreases-loop-thread
decreases-loop-thread l = length l.threads.items
