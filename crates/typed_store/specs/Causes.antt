-- Which call of the heap, made in a call of a store, an answer of the store comes from.
use Rattle.std.specs.Prelude.{ℕ, Bool, true, false, ◌≡◌, Some, slice_get}
use Rattle.errand_steps.specs.Calls.{Call}
use Rattle.live_heap.specs.declared.answers.AllocAnswer.TheVariants as alloc_answer
use Rattle.live_heap.specs.declared.answers.FreeAnswer.{FreeAnswer}
use Rattle.live_heap.specs.declared.answers.FreeAnswer.TheVariants as free_answer
use Rattle.live_heap.specs.declared.answers.Resumed.{Resumed}
use Rattle.live_heap.specs.declared.answers.Resumed.TheVariants as resumed
use Rattle.live_heap.specs.declared.block.Block.{Block}
use Rattle.live_heap.specs.Heaps.{HeapFields}
use Rattle.live_heap.specs.declared.pass.Pass.{Pass}
use Rattle.live_heap.specs.Answers.{AllocTells, FreeTells, ResumeTells}
use Rattle.live_heap.specs.Calls.{IsCalling}
use Rattle.live_heap.specs.Passes.{IsOf}
use Rattle.typed_store.specs.declared.slot.Slot.TheVariants.{Node}
use Rattle.typed_store.specs.declared.store.Pending.{Pending}
use Rattle.typed_store.specs.declared.store.Pending.TheVariants.{Free}
use Rattle.typed_store.specs.declared.store.Popped.{Popped}
use Rattle.typed_store.specs.declared.store.Popped.TheVariants.{Got, Empty}
use Rattle.typed_store.specs.declared.store.Store.{Store}
use Rattle.typed_store.specs.declared.store.Stored.{Stored}
use Rattle.typed_store.specs.declared.store.Stored.TheVariants.{Done, Refused, Spent, Busy}
use Rattle.typed_store.specs.Passings.{Rests}

-- what an allocation of so many words came to; where it was given a block, reads and writes of the store's are behind it
abbrev pub IsAnswerOf : HeapFields → Pass → ℕ → ℕ → Stored → Pass → Type 0
IsAnswerOf h p words tries Done q =
    (block : Block) × (given : Pass) × AllocTells p words tries (alloc_answer.Given block) given × Rests h given q
IsAnswerOf h p words tries Refused q = AllocTells p words tries alloc_answer.Refused q
IsAnswerOf h p words tries Spent q = AllocTells p words tries alloc_answer.Spent q
IsAnswerOf h p words tries Busy q = AllocTells p words tries alloc_answer.Busy q

-- the call that was under way has gone on to this answer
abbrev pub GoesOnTo : HeapFields → Pass → ℕ → Resumed → Pass → Type 0
GoesOnTo h p tries answer q =
    (first : Pass) (call : Call) (made : ℕ) → IsOf h first → IsCalling first call made p → ResumeTells first call made p tries answer q

-- what a call of a store that goes on came to, of a free or of an allocation
abbrev pub IsResumedAnswer : HeapFields → Pending → Pass → ℕ → Stored → Pass → Type 0
IsResumedAnswer h Free p tries Done q = GoesOnTo h p tries resumed.Freed q
IsResumedAnswer h pending p tries Done q =
    (block : Block) × (given : Pass) × GoesOnTo h p tries (resumed.Given block) given × Rests h given q
IsResumedAnswer h pending p tries Refused q = GoesOnTo h p tries resumed.Refused q
IsResumedAnswer h pending p tries Spent q = GoesOnTo h p tries resumed.Spent q
IsResumedAnswer h pending p tries Busy q = GoesOnTo h p tries resumed.Busy q

-- whether a free has ended
abbrev pub free_answer_of : Bool → FreeAnswer
free_answer_of true = free_answer.Freed
free_answer_of false = free_answer.Busy

-- a node's block was freed, behind reads and writes of the store's, with this answer; where there is no node, nothing was freed
abbrev pub IsFreed : HeapFields → Store → ℕ → Popped → Store → Type 0
IsFreed h s tries Empty t = Rests h s.pass t.pass
IsFreed h s tries (Got key value freed) t =
    (slot : ℕ) × (block : Block) × (between : Pass) × (slice_get s.slots.items slot ≡ Some (Node block)) × Rests h s.pass between
    × FreeTells between block tries (free_answer_of freed) t.pass
