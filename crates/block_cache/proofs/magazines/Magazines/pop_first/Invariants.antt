use Rattle.std.proofs.Common.{ℕ, ◌≡◌, ◌<◌, []}
use Rattle.block_cache.specs.Magazines.{stack_at, stacks_of}
use Rattle.block_cache.proofs.magazines.Magazines.pop_first.Given as goal

abbrev pub invariant-loop-class : goal.invariant-loop-class
invariant-loop-class g l = record {
  same : l.self ≡ l.fn.self;
  empty : (k : ℕ) → k < l.class → stack_at (stacks_of l.self.stacks.items) k ≡ [];
}
