-- What a cache asks of its heap.
use Rattle.std.specs.Prelude.{ℕ, ◌≡◌, ◌≢◌, ◌⊎◌, Bool, true, false, replicate}
use Rattle.heap_geometry.specs.Need.{usable_words}
use Rattle.errand_steps.specs.Begins.{IsBusy, IsIdle}
use Rattle.errand_steps.specs.Calls.{Call}
use Rattle.errand_steps.specs.Points.{is_idle}
use Rattle.sound_laws.specs.events.Made.{LeadsBy}
use Rattle.live_heap.specs.declared.answers.AllocAnswer.{AllocAnswer}
use Rattle.live_heap.specs.declared.block.Block.{Block}
use Rattle.live_heap.specs.declared.answers.AllocAnswer.TheVariants as alloc_answer
use Rattle.live_heap.specs.declared.answers.FreeAnswer.{FreeAnswer}
use Rattle.live_heap.specs.declared.answers.FreeAnswer.TheVariants as free_answer
use Rattle.live_heap.specs.declared.answers.Resumed.{Resumed}
use Rattle.live_heap.specs.declared.answers.Resumed.TheVariants as resumed
use Rattle.live_heap.specs.Heaps.{HeapFields}
use Rattle.live_heap.specs.declared.pass.Pass.{Pass}
use Rattle.live_heap.specs.declared.plain.Memory.{Memory}
use Rattle.live_heap.specs.Answers.{AllocTells, FreeTells, ResumeTells}
use Rattle.live_heap.specs.Calls.{IsCalling}
use Rattle.live_heap.specs.Memory.{before_taking, writes_from}
use Rattle.live_heap.specs.Passes.{IsOf}
use Rattle.live_heap.specs.Words.{CallsOnWord}
use Rattle.memory_cache.specs.Settled.{IsPassFor}

-- the answer of a free that has ended, or not
abbrev pub free_told : Bool → FreeAnswer
free_told true = free_answer.Freed
free_told false = free_answer.Busy

-- the call under way at p, whichever it is, was resumed with so many tries: this was told, and led to r
abbrev pub IsResumed : HeapFields → Pass → ℕ → Resumed → Pass → Type 0
IsResumed h p tries told r =
    (first : Pass) (call : Call) (made : ℕ) → IsOf h first → IsCalling first call made p → ResumeTells first call made p tries told r

-- what follows a resumed call: a block that it was given is freed, and that has ended or not
abbrev pub FreesGiven : Resumed → Pass → ℕ → Bool → Pass → Type 0
FreesGiven (resumed.Given block) r tries ended q = FreeTells r block tries (free_told ended) q
FreesGiven resumed.Busy r tries ended q = (ended ≡ false) × (q ≡ r)
FreesGiven told r tries ended q = (ended ≡ true) × (q ≡ r)

-- the call that was under way at p, if one was, has ended, or not; a pass in no call stays as it is
pub record HasSettled (h : HeapFields) (p : Pass) (tries : ℕ) (ended : Bool) (q : Pass) : Type 0 where
  pub pass : IsPassFor h q
  pub idle : is_idle q.errand.point ≡ ended
  pub same : IsIdle p.errand → q ≡ p
  pub resumed : IsBusy p.errand → (told : Resumed) × (r : Pass) × IsResumed h p tries told r × FreesGiven told r tries ended q

-- once no call was under way, an allocation was asked for, and this was the answer
pub record HasAsked (h : HeapFields) (p : Pass) (words tries : ℕ) (told : AllocAnswer Block) (q : Pass) : Type 0 where
  pub settled : Pass
  pub has_settled : HasSettled h p tries true settled
  pub tells : AllocTells settled words tries told q

-- what came of asking the heap for memory: the words of a block went out that was allocated; the allocation was refused; all turns are taken; or a call is under way, the one that was or the allocation. Where no block has so many words the heap isn't asked
abbrev pub TakeTells : HeapFields → Pass → ℕ → ℕ → AllocAnswer Memory → Pass → Type 0
TakeTells h p words tries (alloc_answer.Given memory) q =
    HasAsked h p words tries (alloc_answer.Given memory.block) (before_taking q memory.block.place)
TakeTells h p words tries alloc_answer.Refused q = HasAsked h p words tries alloc_answer.Refused q
TakeTells h p words tries alloc_answer.TooLarge q = ⊥
TakeTells h p words tries alloc_answer.Spent q =
    HasAsked h p words tries alloc_answer.Spent q × (q.errand.turns ≡ q.errand.geometry.turn_limit)
TakeTells h p words tries alloc_answer.Busy q = HasSettled h p tries false q ⊎ HasAsked h p words tries alloc_answer.Busy q

-- once no call was under way, memory went home, each word with 0; and then its block was freed, or that is under way
pub record SendsHome (h : HeapFields) (p : Pass) (m : Memory) (tries : ℕ) (q : Pass) : Type 0 where
  pub settled : Pass
  pub has_settled : HasSettled h p tries true settled
  pub home : Pass
  pub wrote : LeadsBy (CallsOnWord h) (before_taking settled m.block.place)
      (writes_from m.block.place m.block.need 0 (replicate (usable_words m.block.need) 0)) home
  pub told : FreeAnswer
  pub frees : FreeTells home m.block tries told q

-- memory that is given lies at another place than this one
abbrev pub LiesElsewhere : AllocAnswer Memory → Memory → Type 0
LiesElsewhere (alloc_answer.Given memory) other = other.block.place ≢ memory.block.place
LiesElsewhere told other = Unit {0}
