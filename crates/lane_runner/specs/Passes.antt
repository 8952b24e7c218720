-- Lanes on threads, each with a pass of one heap and no magazine in front of it.
use Rattle.std.specs.Prelude.{ℕ, ◌≡◌, ◌<◌, ◌≤◌, List, [], None, Contains, length, replicate}
use Rattle.std.specs.List.{slice_index_or}
use Rattle.errand_steps.specs.Begins.{IsIdle}
use Rattle.errand_steps.specs.Calls.{Call}
use Rattle.errand_steps.specs.declared.reply.Reply.{Reply}
use Rattle.trace_text.specs.declared.limits.TheConstants.{REGISTERS}
use Rattle.trace_text.specs.declared.trace.Op.{Op}
use Rattle.trace_text.specs.declared.trace.Trace.{Trace}
use Rattle.lane_outcomes.specs.declared.outcome.Outcome.{Outcome}
use Rattle.lane_outcomes.specs.declared.outcome.Outcome.TheVariants.{Spent}
use Rattle.lane_outcomes.specs.Fits.{Fits}
use Rattle.lane_outcomes.specs.Standing.{setting_in}
use Rattle.live_heap.specs.Heaps.{HeapFields}
use Rattle.live_heap.specs.declared.pass.Pass.{Pass}
use Rattle.live_heap.specs.Passes.{IsFresh, IsOf, seen}
use Rattle.live_heap.specs.Whole.{IsAtRest, MadeByPass, OwnsFor}
use Rattle.trace_lane.specs.Made.{AllMade}
use Rattle.lane_runner.specs.Running.{operations_in}

-- a whole call of a pass of this heap, which leaves it in no call
abbrev pub WholeAt : HeapFields → Pass → Call → Reply → Pass → Type 0
WholeAt h p call answer q = MadeByPass p call answer q × OwnsFor p call × IsAtRest h q

-- the pass of this lane has made the whole calls of these operations with these outcomes since it was new, in the script's order, each with its answer, and no other
pub record HasMadeCalls (h : HeapFields) (operations : List Op) (lane : ℕ) (outcomes : List Outcome) (p : Pass) : Type 0 where
  pub first : Pass
  pub fresh : IsFresh h first
  pub caller : first.errand.caller ≡ lane
  pub made : AllMade (WholeAt h) (replicate REGISTERS None) operations outcomes first p

-- a pass whose lane has ended with these outcomes, which use up all events of its caller that it has seen; it is in no call and has no block's words out, and a lane that was told to have no turn left has taken them all
pub record HasEndedOver (h : HeapFields) (operations : List Op) (lane : ℕ) (p : Pass) (outcomes : List Outcome) : Type 0 where
  pub of : IsOf h p
  pub idle : IsIdle p.errand
  pub home : p.out ≡ 0
  pub caller : p.errand.caller ≡ lane
  pub all : length outcomes ≡ length operations
  pub fit : Fits (setting_in (seen p) lane h.layout.turn_limit p.errand.lost) operations outcomes
  pub spent : Contains outcomes Spent → p.errand.turns ≡ h.layout.turn_limit
  pub calls : HasMadeCalls h operations lane outcomes p

-- all lanes of a trace have ended; a pass without a lane has made no step
pub record HaveRun (trace : Trace) (h : HeapFields) (passes : List Pass) (outcomes : List (List Outcome)) : Type 0 where
  pub all : length passes ≡ trace.heap.callers
  pub lists : length outcomes ≡ length trace.lanes
  pub each :
      (lane : ℕ) (p : Pass) → lane < length trace.lanes → p ≡ slice_index_or passes lane p
      → HasEndedOver h (operations_in trace lane) lane p (slice_index_or outcomes lane [])
  pub rest :
      (k : ℕ) (p : Pass) → length trace.lanes ≤ k → k < length passes → p ≡ slice_index_or passes k p → IsFresh h p × (p.errand.caller ≡ k)
