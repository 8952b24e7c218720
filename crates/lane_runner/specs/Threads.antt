-- Lanes on threads, each through a cache of its own in front of one heap.
use Rattle.std.specs.Prelude.{ℕ, suc, ◌≡◌, ◌<◌, ◌≤◌, ◌+◌, ◌^◌, List, [], ◌∷◌, ◌++◌, None, Vec, length, replicate}
use Rattle.std.specs.declared.alloc.Global.{Global}
use Rattle.std.specs.List.{slice_index_or}
use Rattle.crossbeam_utils.specs.declared.cache_padded.CachePadded.{CachePadded}
use Rattle.crossbeam_utils.specs.Padded.{padded_value}
use Rattle.trace_text.specs.declared.limits.TheConstants.{REGISTERS}
use Rattle.trace_text.specs.declared.trace.Op.{Op}
use Rattle.trace_text.specs.declared.trace.Trace.{Trace}
use Rattle.lane_outcomes.specs.declared.outcome.Outcome.{Outcome}
use Rattle.live_heap.specs.Heaps.{HeapFields}
use Rattle.live_heap.specs.declared.pass.Pass.{Pass}
use Rattle.live_heap.specs.Passes.{IsFresh}
use Rattle.trace_lane.specs.Made.{AllMade}
use Rattle.trace_lane.specs.Paths.{FirstPassed}
use Rattle.lane_runner.specs.Running.{operations_in}
use Rattle.block_cache.specs.declared.cache.Cache.{Cache}
use Rattle.block_cache.specs.Caches.{cached_in}
use Rattle.block_cache.specs.Whole.{RestsAt}
use Rattle.lane_engine.specs.Caches.{HasEmptied, IsCachedCall}
use Rattle.lane_runner.specs.declared.run_lanes.CacheThread.{CacheThread}
use Rattle.trace_lane.specs.States.{IsNew}

-- a new cache of this depth, in front of the pass of this lane, which has made no step
pub record IsOpened (h : HeapFields) (depth lane : ℕ) (c : Cache) : Type 0 where
  pub fresh : IsFresh h c.pass
  pub caller : c.pass.errand.caller ≡ lane
  pub rests : RestsAt h c
  pub empty : cached_in c ≡ []
  pub deep : c.magazines.depth ≡ depth
  pub no_hits : c.hits ≡ 0

-- a lane has made the whole calls of these operations with these outcomes through the cache, in the script's order, each with its answer, and no other; then its magazines were emptied
pub record HasRunThrough (h : HeapFields) (operations : List Op) (outcomes : List Outcome) (before after : Cache) : Type 0 where
  pub ran : Cache
  pub made : AllMade (IsCachedCall h) (replicate REGISTERS None) operations outcomes before ran
  pub emptied : HasEmptied h ran after
  pub rests : RestsAt h after

-- a lane has run to its end through its cache since that was opened, with an outcome of each operation, of which there are fewer than 2^64
pub record HasEndedThrough (h : HeapFields) (depth : ℕ) (operations : List Op) (lane : ℕ) (outcomes : List Outcome) (c : Cache) : Type 0 where
  pub first : Cache
  pub opened : IsOpened h depth lane first
  pub through : HasRunThrough h operations outcomes first c
  pub all : length outcomes ≡ length operations
  pub few : length operations < 2 ^ 64

-- the pass of a lane that has ended through its cache, and how many of its allocations its magazines have served
pub record HasEndedWith (h : HeapFields) (depth : ℕ) (operations : List Op) (lane : ℕ) (p : Pass) (outcomes : List Outcome) (hits : ℕ) : Type 0 where
  pub cache : Cache
  pub pass : p ≡ cache.pass
  pub counted : hits ≡ cache.hits
  pub ended : HasEndedThrough h depth operations lane outcomes cache

-- all lanes of a trace have ended; a pass without a lane has made no step
pub record HaveRunThrough (trace : Trace) (h : HeapFields) (depth : ℕ) (passes : List Pass) (outcomes : List (List Outcome)) (hits : List ℕ) : Type 0 where
  pub all : length passes ≡ trace.heap.callers
  pub lists : length outcomes ≡ length trace.lanes
  pub counts : length hits ≡ length trace.lanes
  pub each :
      (lane : ℕ) (p : Pass) → lane < length trace.lanes → p ≡ slice_index_or passes lane p
      → HasEndedWith h depth (operations_in trace lane) lane p (slice_index_or outcomes lane []) (slice_index_or hits lane 0)
  pub rest :
      (k : ℕ) (p : Pass) → length trace.lanes ≤ k → k < length passes → p ≡ slice_index_or passes k p → IsFresh h p × (p.errand.caller ≡ k)

-- a new lane of a trace and a new cache in front of the pass of its caller, as a thread has them
pub record IsPaired (trace : Trace) (h : HeapFields) (depth : ℕ) (t : CacheThread) : Type 0 where
  pub has : t.lane.caller < length trace.lanes
  pub new : IsNew t.lane.caller (length (operations_in trace t.lane.caller)) t.lane
  pub opened : IsOpened h depth t.lane.caller t.cache

-- a thread has run its lane to its end, and emptied its cache
pub record HasRunOn (passed : ℕ → ℕ → Type 0) (trace : Trace) (h : HeapFields) (before after : CacheThread) : Type 0 where
  pub same : after.lane.caller ≡ before.lane.caller
  pub through : HasRunThrough h (operations_in trace before.lane.caller) after.lane.outcomes.items before.cache after.cache
  pub all : length after.lane.outcomes.items ≡ length (operations_in trace before.lane.caller)
  pub few : length (operations_in trace before.lane.caller) < 2 ^ 64
  pub gate : FirstPassed passed before.lane.caller (length (operations_in trace before.lane.caller))

-- the lane of this number is before its first operation
pub record IsReady (trace : Trace) (h : HeapFields) (depth lane : ℕ) (t : CacheThread) : Type 0 where
  pub number : t.lane.caller ≡ lane
  pub paired : IsPaired trace h depth t

-- the lane of this number has ended through its cache
pub record IsDone (trace : Trace) (h : HeapFields) (depth lane : ℕ) (t : CacheThread) : Type 0 where
  pub ended : HasEndedThrough h depth (operations_in trace lane) lane t.lane.outcomes.items t.cache

module _ {X : Type 0} (P : ℕ → X → Type 0) where
  -- P holds of each element and its number: the last one has this number, and each other one the next number after the one behind it
  abbrev pub AreDown : ℕ → List X → Type 0
  AreDown last [] = Unit {0}
  AreDown last (x ∷ xs) = P (last + length xs) x × AreDown last xs

-- the lanes of a trace from this number on, with the last one first, are ready; such lanes are done
abbrev pub AreReady : Trace → HeapFields → ℕ → ℕ → List (CachePadded CacheThread) → Type 0
AreReady trace h depth lane threads = AreDown (λ k t. IsReady trace h depth k (padded_value t)) lane threads

abbrev pub AreDone : Trace → HeapFields → ℕ → ℕ → List (CachePadded CacheThread) → Type 0
AreDone trace h depth lane threads = AreDown (λ k t. IsDone trace h depth k (padded_value t)) lane threads

-- the passes, the outcomes and the hits of the lanes from this number on, each of which has ended
abbrev pub AreEnded : Trace → HeapFields → ℕ → ℕ → List Pass → List (Vec Outcome Global) → List ℕ → Type 0
AreEnded trace h depth lane [] [] [] = Unit {0}
AreEnded trace h depth lane (p ∷ ps) (o ∷ os) (n ∷ ns) =
    HasEndedWith h depth (operations_in trace lane) lane p o.items n × AreEnded trace h depth (suc lane) ps os ns
AreEnded trace h depth lane passes outcomes hits = ⊥

-- the passes behind what the threads work on, where the last lane stands first
abbrev pub passes_behind : List (CachePadded CacheThread) → List Pass
passes_behind [] = []
passes_behind (t ∷ threads) = passes_behind threads ++ (padded_value t).cache.pass ∷ []
