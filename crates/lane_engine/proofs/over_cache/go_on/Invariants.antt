use Rattle.std.proofs.Common.{ℕ}
use Rattle.errand_steps.specs.Calls.{Call}
use Rattle.live_heap.specs.declared.pass.Pass.{Pass}
use Rattle.live_heap.specs.Calls.{IsCalling}
use Rattle.live_heap.specs.Passes.{IsOf}
use Rattle.block_cache.specs.Caches.{IsCache, KeepsMagazines}
use Rattle.lane_engine.proofs.over_cache.go_on.Given as goal

abbrev pub invariant-loop : goal.invariant-loop
invariant-loop g l = record {
  can_next : (goal.iterator-loop g).can_next l.iterator';
  is_finite : (goal.iterator-loop g).is_finite l.iterator';
  cache : IsCache l.heap l.cache;
  keeps : KeepsMagazines l.fn.cache l.cache;
  calls :
      (first : Pass) (call : Call) (made : ℕ) → IsOf l.heap first → IsCalling first call made l.fn.cache.pass
      → (steps : ℕ) × IsCalling first call steps l.cache.pass;
}
