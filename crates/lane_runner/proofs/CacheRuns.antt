-- A new lane that makes whole calls through a cache.
use Rattle.std.proofs.Common.{ℕ, ◌≡◌, ◌++◌, List, None, drop, length, replicate, sym, ap, ◌∙◌, subst, arith}
use Rattle.heap_geometry.specs.declared.need.Need.{Need}
use Rattle.trace_text.specs.declared.limits.TheConstants.{REGISTERS}
use Rattle.trace_text.specs.declared.trace.Op.{Op}
use Rattle.lane_outcomes.specs.declared.outcome.Outcome.{Outcome}
use Rattle.live_heap.specs.declared.block.Block.{Block}
use Rattle.live_heap.specs.Heaps.{HeapFields}
use Rattle.trace_lane.specs.declared.lane.LaneState.{LaneState}
use Rattle.trace_lane.specs.Made.{AllMade, HasRun, HoldsBlocks}
use Rattle.trace_lane.specs.Paths.{FirstPassed, held_blocks}
use Rattle.trace_lane.specs.States.{IsNew}
use Rattle.trace_lane.proofs.MadeLemmas.{made-of}
use Rattle.trace_lane.proofs.OwnLemmas.{blocks-none, none-hold}
use Rattle.block_cache.specs.declared.cache.Cache.{Cache}
use Rattle.block_cache.specs.Whole.{RestsAt}
use Rattle.lane_engine.specs.declared.over_cache.CachedCalls.{CachedCalls}
use Rattle.lane_engine.specs.Caches.{IsCachedCall, cache_maker}
use Rattle.lane_runner.specs.Runs.{HasMadeAll}

-- a new lane holds nothing
pub new-holds :
    (owns : ℕ → Need → Type 0) (caller count : ℕ) (lane : LaneState Block) → IsNew caller count lane
    → HoldsBlocks (λ (block : Block). block.place) (λ (block : Block). block.need) owns lane.registers.items
new-holds owns caller count lane new =
    subst (HoldsBlocks (λ (block : Block). block.place) (λ (block : Block). block.need) owns) (sym new.empty)
    (none-hold (λ (block : Block). block.place) (λ (block : Block). block.need) owns)

-- a new lane has run through a cache
pub made-all :
    (passed : ℕ → ℕ → Type 0) (h : HeapFields) (operations : List Op) (e f : CachedCalls) (c : Cache) (old new : LaneState Block)
    → IsNew old.caller (length operations) old → e.cache.now ≡ c → e.heap.now ≡ h → RestsAt f.heap.now f.cache.now
    → HasRun (λ (block : Block). block.place) (λ (block : Block). block.need) cache_maker.called operations e f old new
    → length new.outcomes.items ≡ length operations
    → (FirstPassed passed old.caller (length old.outcomes.items) → FirstPassed passed old.caller (length operations))
    → HasMadeAll passed h operations c f.cache.now old new
made-all passed h operations e f c old new is same_cache same_heap rests ran all gate =
    let place_of = λ (block : Block). block.place in
    let block_need = λ (block : Block). block.need in
    let regs : held_blocks place_of block_need old.registers.items ≡ replicate REGISTERS None =
    ap (held_blocks place_of block_need) is.empty ∙ blocks-none place_of block_need REGISTERS in
    let left : drop (length old.outcomes.items) operations ≡ operations = ap (λ (os : List Outcome). drop (length os) operations) is.none in
    let outcomes : new.outcomes.items ≡ ran.results = ran.outcomes ∙ ap (λ (os : List Outcome). os ++ ran.results) is.none in
    let one =
    subst (λ ops. AllMade cache_maker.called (replicate REGISTERS None) ops ran.results e f) left
    (subst (λ rs. AllMade cache_maker.called rs (drop (length old.outcomes.items) operations) ran.results e f) regs ran.made) in
    let made = made-of cache_maker.called (IsCachedCall h) (λ (x : CachedCalls). x.cache.now) (λ (x : CachedCalls). x.heap.now ≡ h)
    (λ x y call answer here called. (subst (λ k. IsCachedCall k x.cache.now call answer y.cache.now) here called.0, called.1 ∙ here))
    (replicate REGISTERS None) operations ran.results e f same_heap one in
    record {
      rests = subst (λ k. RestsAt k f.cache.now) made.1 rests;
      same = ran.same_caller;
      made =
          subst (λ os. AllMade (IsCachedCall h) (replicate REGISTERS None) operations os c f.cache.now) (sym outcomes)
          (subst (λ x. AllMade (IsCachedCall h) (replicate REGISTERS None) operations ran.results x f.cache.now) same_cache made.0);
      all = all;
      gate = gate (λ op lt. let none : length old.outcomes.items ≡ 0 = ap length is.none in absurd (omega (arith, none, lt)));
    }
