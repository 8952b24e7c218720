-- A new lane that has run through a cache.
use Rattle.std.specs.Prelude.{ℕ, ◌≡◌, List, None, length, replicate}
use Rattle.trace_text.specs.declared.limits.TheConstants.{REGISTERS}
use Rattle.trace_text.specs.declared.trace.Op.{Op}
use Rattle.live_heap.specs.declared.block.Block.{Block}
use Rattle.live_heap.specs.Heaps.{HeapFields}
use Rattle.trace_lane.specs.declared.lane.LaneState.{LaneState}
use Rattle.trace_lane.specs.Made.{AllMade}
use Rattle.trace_lane.specs.Paths.{FirstPassed}
use Rattle.block_cache.specs.declared.cache.Cache.{Cache}
use Rattle.block_cache.specs.Whole.{RestsAt}
use Rattle.lane_engine.specs.Caches.{IsCachedCall}

-- a lane has made the calls of all its operations through a cache, with the outcomes that it has, and they have passed the gate
pub record HasMadeAll (passed : ℕ → ℕ → Type 0) (h : HeapFields) (operations : List Op) (before after : Cache) (old new : LaneState Block) : Type 0 where
  pub rests : RestsAt h after
  pub same : new.caller ≡ old.caller
  pub made : AllMade (IsCachedCall h) (replicate REGISTERS None) operations new.outcomes.items before after
  pub all : length new.outcomes.items ≡ length operations
  pub gate : FirstPassed passed old.caller (length operations)
