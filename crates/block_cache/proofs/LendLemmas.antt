-- The magazines of a cache while words go out and come home.
use Rattle.std.proofs.Common.{◌≢◌, List, [], ◌∷◌}
use Rattle.std.specs.Prelude.{All}
use Rattle.std.proofs.lemmas.List.Elements.{All-head, All-tail}
use Rattle.errand_steps.specs.Begins.{IsIdle}
use Rattle.live_heap.specs.declared.block.Block.{Block}
use Rattle.live_heap.specs.Heaps.{HeapFields}
use Rattle.live_heap.specs.declared.pass.Pass.{Pass}
use Rattle.live_heap.specs.Hands.{IsHand}
use Rattle.live_heap.specs.Holdings.{Holds}
use Rattle.live_heap.specs.Passes.{IsOf, Owns}
use Rattle.live_heap.proofs.laws_for_builders.Hands.{idle-not_busy}
use Rattle.block_cache.specs.declared.cache.Cache.{Cache}
use Rattle.block_cache.specs.Caches.{HoldsBlock, IsCache, cached_in}
use Rattle.block_cache.proofs.CacheLemmas.{passed}

-- blocks that lie elsewhere are held where each that does is owned still
still-held :
    (p q : Pass) (block : Block) (blocks : List Block) → ((other : Block) → Owns p other → other.place ≢ block.place → Owns q other)
    → All (λ other. other.place ≢ block.place) blocks → Holds p blocks → Holds q blocks
still-held p q block [] owns apart held = tt
still-held p q block (b ∷ bs) owns apart held =
    let elsewhere : b.place ≢ block.place = All-head (λ (other : Block). other.place ≢ block.place) b bs apart in (
      owns b held.0 elsewhere,
      held.1,
      still-held p q block bs owns (All-tail (λ (other : Block). other.place ≢ block.place) b bs apart) held.2,
    )

all-held : (p q : Pass) (blocks : List Block) → ((other : Block) → Owns p other → Owns q other) → Holds p blocks → Holds q blocks
all-held p q [] owns held = tt
all-held p q (b ∷ bs) owns held = (owns b held.0, held.1, all-held p q bs owns held.2)

hand-of : (h : HeapFields) (q : Pass) (blocks : List Block) → IsOf h q → IsIdle q.errand → Holds q blocks → IsHand h q blocks
hand-of h q blocks of idle held = record { of = of; holds = λ still. held; waits = λ busy. absurd (idle-not_busy q.errand idle busy) }

-- a cache is one behind a take out, and behind a bring home
pub out-cache :
    (h : HeapFields) (c : Cache) (q : Pass) (block : Block) → IsCache h c → IsIdle c.pass.errand → HoldsBlock c block → IsOf h q → IsIdle q.errand
    → ((other : Block) → Owns c.pass other → other.place ≢ block.place → Owns q other)
    → IsCache h (record { pass = q; magazines = c.magazines; hits = c.hits })
out-cache h c q block is rests held of idle owns =
    passed h c q is (hand-of h q (cached_in c) of idle (still-held c.pass q block (cached_in c) owns held.1 (is.hand.holds rests)))

pub home-cache :
    (h : HeapFields) (c : Cache) (q : Pass) → IsCache h c → IsIdle c.pass.errand → IsOf h q → IsIdle q.errand
    → ((other : Block) → Owns c.pass other → Owns q other) → IsCache h (record { pass = q; magazines = c.magazines; hits = c.hits })
home-cache h c q is rests of idle owns =
    passed h c q is (hand-of h q (cached_in c) of idle (all-held c.pass q (cached_in c) owns (is.hand.holds rests)))
