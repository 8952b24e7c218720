-- The run of a trace on threads that share a heap.
use Rattle.std.specs.Prelude.{ℕ, ◌≡◌, List}
use Rattle.trace_text.specs.declared.trace.Trace.{Trace}
use Rattle.lane_outcomes.specs.declared.outcome.Outcome.{Outcome}
use Rattle.live_heap.specs.Heaps.{HeapFields}
use Rattle.live_heap.specs.declared.pass.Pass.{Pass}
use Rattle.live_heap.specs.Endings.{ClosedFields, HasAccesses, HasClosed, IsResting}
use Rattle.lane_runner.specs.Passes.{HaveRun}
use Rattle.lane_runner.specs.Threads.{HaveRunThrough}

-- threads ran the lanes of a trace over one heap, through no magazines, and it was closed with their passes: moves of its callers led to it from its opening on, in the order that the hardware made; each lane made just the whole calls of its script, with the answers that its outcomes tell; and what they left of its pass, the caller's events and its errand with all its counts, stands in the closed heap, and as many steps of its caller as those calls made are among the moves
pub record IsShared (trace : Trace) (c : ClosedFields) (outcomes : List (List Outcome)) : Type 0 where
  pub rests : IsResting c
  pub heap : HeapFields
  pub laid : heap.layout ≡ trace.heap
  pub passes : List Pass
  pub ran : HaveRun trace heap passes outcomes
  pub closed : HasClosed heap passes c
  pub accesses : HasAccesses c passes

-- threads ran the lanes of a trace over one heap, each through a cache of this depth, which it emptied at its end; and the heap was closed with their passes: moves of its callers led to it from its opening on, in the order that the hardware made; each lane made just the whole calls of its script, with the answers that its outcomes tell, and its cache served so many of its allocations; and what they left of its pass, the caller's events and its errand with all its counts, stands in the closed heap, and as many steps of its caller as the heap's calls made are among the moves
pub record IsSharedThrough (trace : Trace) (depth : ℕ) (c : ClosedFields) (outcomes : List (List Outcome)) (hits : List ℕ) : Type 0 where
  pub rests : IsResting c
  pub heap : HeapFields
  pub laid : heap.layout ≡ trace.heap
  pub passes : List Pass
  pub ran : HaveRunThrough trace heap depth passes outcomes hits
  pub closed : HasClosed heap passes c
  pub accesses : HasAccesses c passes
