-- A program that uses a block again and again, through a cache.
use Rattle.std.specs.Prelude.{ℕ, zero, suc, ◌≡◌, ◌<◌, ◌-◌, ◌⊎◌, ◌++◌, List, [], ◌∷◌}
use Rattle.heap_geometry.specs.Need.{need_of}
use Rattle.pool_model.specs.Pool.{pool_of}
use Rattle.errand_steps.specs.declared.reply.Reply.{Reply}
use Rattle.errand_steps.specs.declared.reply.Reply.TheVariants as reply
use Rattle.errand_steps.specs.Calls.{Call, alloc, free, read, write}
use Rattle.sound_laws.specs.events.Made.{LeadsBy, Made, answered}
use Rattle.sound_state.specs.Sums.{sum_below}
use Rattle.live_heap.specs.declared.answers.FreeAnswer.TheVariants as free_answer
use Rattle.live_heap.specs.Heaps.{HeapFields}
use Rattle.live_heap.specs.Calls.{IsInterrupted}
use Rattle.live_heap.specs.Endings.{HasClosed}
use Rattle.live_heap.specs.Passes.{IsFresh}
use Rattle.block_cache.specs.declared.cache.Cache.{Cache}
use Rattle.block_cache.specs.Caches.{KeepsMagazines, cached_in}
use Rattle.block_cache.specs.Flushes.{FlushTells}
use Rattle.block_cache.specs.Whole.{IsWholeCall, RestsAt}
use Rattle.worked_programs.specs.declared.embedded.TheConstants.{TRIES}
use Rattle.worked_programs.specs.declared.embedded.Stop.{Stop}
use Rattle.worked_programs.specs.declared.embedded.Stop.TheVariants as stop
use Rattle.worked_programs.specs.declared.reuse.TheConstants.{DEPTH, ROUNDS}
use Rattle.worked_programs.specs.declared.reuse.Reused.{Reused}
use Rattle.worked_programs.specs.declared.reuse.Stopped.{Stopped}
use Rattle.worked_programs.specs.Embedded.{HasStoppedBy}

-- a whole call through a cache of this heap, whose magazines stay as deep
abbrev pub Makes : HeapFields → Cache → Call → Reply → Cache → Type 0
Makes h c call answer d = IsWholeCall h c call answer d × (d.magazines.depth ≡ c.magazines.depth)

-- a call through a cache was answered so, and the program goes no further
abbrev pub Stops : HeapFields → Cache → Call → Stop → Cache → Type 0
Stops h c call stop.Refused d = Makes h c call reply.Refused d
Stops h c call stop.Spent d = Makes h c call reply.Spent d
Stops h c call stop.Busy d = IsInterrupted c.pass call 0 c.pass TRIES d.pass × KeepsMagazines c d
Stops h c call other d = ⊥

-- the calls of a round, on the block at this place, with this word
abbrev pub round_calls : ℕ → ℕ → List Made
round_calls place word =
    answered (alloc 3) (reply.Given place (need_of 3))
    ∷ answered (write place (need_of 3) 1 word) reply.Wrote
    ∷ answered (read place (need_of 3) 1) (reply.Word word)
    ∷ answered (free place (need_of 3)) reply.Freed
    ∷ []

-- a round has been made
abbrev pub IsRound : HeapFields → Cache → ℕ → Cache → Type 0
IsRound h c word d = (place : ℕ) × LeadsBy (Makes h) c (round_calls place word) d

-- so many rounds have been made, one after the other, each with its number as the word
abbrev pub MakesRounds : HeapFields → Cache → ℕ → Cache → Type 0
MakesRounds h c zero d = d ≡ c
MakesRounds h c (suc rounds) d = (mid : Cache) × MakesRounds h c rounds mid × IsRound h mid rounds d

-- the call is the next one of a round with this word behind such calls
abbrev pub IsNextOfRound : ℕ → List Made → Call → Type 0
IsNextOfRound word calls call =
    (place : ℕ) × (answer : Reply) × (rest : List Made) × (round_calls place word ≡ calls ++ answered call answer ∷ rest)

-- a round was stopped by the next one of its calls
abbrev pub HasStopped : HeapFields → Cache → ℕ → Stop → Cache → Type 0
HasStopped h c word told d = HasStoppedBy (Makes h) (Stops h) (IsNextOfRound word) c told d

-- behind fewer rounds than all, the next one was stopped
pub record HasStoppedRounds (h : HeapFields) (c : Cache) (told : Stop) (d : Cache) : Type 0 where
  pub rounds : ℕ
  pub few : rounds < ROUNDS
  pub mid : Cache
  pub made : MakesRounds h c rounds mid
  pub stopped : HasStopped h mid rounds told d

-- a round was stopped; or all were made, and one of the frees that empty the magazines was interrupted
abbrev pub HasStoppedWork : HeapFields → Cache → Stop → Cache → Type 0
HasStoppedWork h c told d =
    HasStoppedRounds h c told d
    ⊎ ((mid : Cache) × MakesRounds h c ROUNDS mid × FlushTells h mid TRIES free_answer.Busy d × (told ≡ stop.Busy))

-- a new heap with one caller, and a cache in front of its pass that has no block
pub record IsOpened (h : HeapFields) (c : Cache) : Type 0 where
  pub alone : h.layout.callers ≡ 1
  pub fresh : IsFresh h c.pass
  pub first : c.pass.errand.caller ≡ 0
  pub rests : RestsAt h c
  pub empty : cached_in c ≡ []
  pub depth : c.magazines.depth ≡ DEPTH
  pub hits : c.hits ≡ 0

-- all rounds have been made, in which words were read that add up to this, and then the magazines were emptied
pub record HasWorked (h : HeapFields) (c : Cache) (sum : ℕ) (d : Cache) : Type 0 where
  pub mid : Cache
  pub rounds : MakesRounds h c ROUNDS mid
  pub sum_is : sum ≡ sum_below ROUNDS (λ word. word)
  pub flushed : FlushTells h mid TRIES free_answer.Freed d
  pub hits : d.hits ≡ mid.hits
  pub rests : RestsAt h d
  pub empty : cached_in d ≡ []

-- the heap that is told was new with this cache; then a call that was answered so stopped the work, and left the cache that is told
pub record WasStopped (told : Stopped) : Type 0 where
  pub cache : Cache
  pub opened : IsOpened told.heap cache
  pub stopped : HasStoppedWork told.heap cache told.stop told.cache

-- a new heap was worked with through a cache and closed. A magazine served each allocation but the first one, which took the only turn; and no block is live
pub record HasReused (reused : Reused) : Type 0 where
  pub heap : HeapFields
  pub cache : Cache
  pub opened : IsOpened heap cache
  pub last : Cache
  pub worked : HasWorked heap cache reused.sum last
  pub closed : HasClosed heap (last.pass ∷ []) reused.closed
  pub hits : reused.hits ≡ ROUNDS - 1
  pub turns : reused.turns ≡ 1
  pub nothing : pool_of reused.closed.events ≡ []
  pub live : reused.live ≡ 0
