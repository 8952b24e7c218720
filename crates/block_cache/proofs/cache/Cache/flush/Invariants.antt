use Rattle.std.proofs.Common.{◌≡◌, ◌++◌, List, length}
use Rattle.errand_steps.specs.Begins.{IsIdle}
use Rattle.live_heap.specs.declared.block.Block.{Block}
use Rattle.block_cache.specs.Caches.{Holds, IsCache, stacks_in}
use Rattle.block_cache.specs.Flushes.{Frees}
use Rattle.block_cache.specs.Magazines.{leaving}
use Rattle.block_cache.proofs.cache.Cache.flush.Given as goal

abbrev pub invariant-loop-answer : goal.invariant-loop-answer
invariant-loop-answer l = record {
  cache : IsCache l.heap l.self;
  idle : IsIdle l.self.pass.errand;
  depth : l.self.magazines.depth ≡ l.fn.self.magazines.depth;
  hits : l.self.hits ≡ l.fn.self.hits;
  freed :
      (freed : List Block) × (leaving (stacks_in l.fn.self) ≡ freed ++ leaving (stacks_in l.self))
      × Frees l.heap l.fn.self.pass freed l.tries l.self.pass;
  holds : (held : List Block) → Holds l.fn.self held → Holds l.self held;
}

abbrev pub decreases-loop-answer : goal.decreases-loop-answer
decreases-loop-answer l = length (leaving (stacks_in l.self))
