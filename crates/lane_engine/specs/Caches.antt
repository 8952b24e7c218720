-- Whole calls through a cache, and what empties it.
use Rattle.std.specs.Prelude.{ℕ, ◌≡◌, List, [], map}
use Rattle.errand_steps.specs.declared.reply.Reply.{Reply}
use Rattle.errand_steps.specs.declared.reply.Reply.TheVariants as reply
use Rattle.errand_steps.specs.Calls.{Call, free}
use Rattle.sound_laws.specs.events.Made.{LeadsBy, Made, answered}
use Rattle.live_heap.specs.declared.block.Block.{Block}
use Rattle.live_heap.specs.Heaps.{HeapFields}
use Rattle.live_heap.specs.declared.pass.Pass.{Pass}
use Rattle.live_heap.specs.Whole.{HasEndedCall, IsAtRest}
use Rattle.block_cache.specs.declared.cache.Cache.{Cache}
use Rattle.block_cache.specs.Caches.{cached_in, stacks_in}
use Rattle.block_cache.specs.Magazines.{leaving}
use Rattle.block_cache.specs.Whole.{HoldsAt, IsWholeCall, RestsAt}
use Rattle.lane_engine.specs.Whole.{Maker}
use Rattle.lane_engine.specs.declared.over_cache.CachedCalls.{CachedCalls}

-- a whole call through a cache of this heap, whose magazines stay as deep
abbrev pub IsCachedCall : HeapFields → Cache → Call → Reply → Cache → Type 0
IsCachedCall h c call answer d = IsWholeCall h c call answer d × (d.magazines.depth ≡ c.magazines.depth)

-- a cache in front of a pass of a heap, by its whole calls
abbrev pub cache_maker : Maker CachedCalls
cache_maker =
    record {
      stands = λ e. RestsAt e.heap.now e.cache.now;
      owns = λ e place need. HoldsAt e.cache.now place need;
      Base = ℕ × HeapFields;
      runs_on = λ e. (e.cache.ghost_name, e.heap.now);
      called = λ e call answer f. IsCachedCall e.heap.now e.cache.now call answer f.cache.now × (f.heap.now ≡ e.heap.now);
    }

-- a call of a pass of this heap has ended, with what resumed it
abbrev pub HasEndedAt : HeapFields → Pass → Call → Reply → Pass → Type 0
HasEndedAt h p call answer q = HasEndedCall p call answer q × IsAtRest h q

-- the frees of these blocks, one after the other
abbrev pub frees_of : List Block → List Made
frees_of blocks = map (λ (block : Block). answered (free block.place block.need) reply.Freed) blocks

-- the heap has freed all blocks of the magazines, in the order in which they leave them, and nothing else has happened
pub record HasEmptied (h : HeapFields) (c d : Cache) : Type 0 where
  pub frees : LeadsBy (HasEndedAt h) c.pass (frees_of (leaving (stacks_in c))) d.pass
  pub empty : cached_in d ≡ []
  pub hits : d.hits ≡ c.hits
