-- What the calls of a heap answer.
use Rattle.std.specs.Prelude.{ℕ, suc, ◌≡◌, ◌≢◌, ◌⊎◌, Option, Some, None, slice_index_or}
use Rattle.heap_geometry.specs.declared.need.Need.{Need}
use Rattle.heap_geometry.specs.declared.need.Need.TheVariants.{Small}
use Rattle.heap_geometry.specs.Need.{need_of}
use Rattle.packed_words.specs.declared.shelf.ShelfWord.TheVariants as lies
use Rattle.packed_words.specs.Shelf.{shelf_word}
use Rattle.pool_model.specs.declared.owner.Owner.TheVariants.{Shelf}
use Rattle.pool_model.specs.Pool.{Block as PoolBlock, block_at, pool_of}
use Rattle.errand_steps.specs.declared.reply.Progress.{Progress}
use Rattle.errand_steps.specs.declared.reply.Reply.{Reply}
use Rattle.errand_steps.specs.declared.reply.Reply.TheVariants as reply
use Rattle.errand_steps.specs.declared.told.Ending.{Ending}
use Rattle.errand_steps.specs.declared.told.Ending.TheVariants as ending
use Rattle.errand_steps.specs.declared.told.Stepped.{Stepped}
use Rattle.errand_steps.specs.Calls.{Call, alloc, free, put, take, begun_by}
use Rattle.errand_steps.specs.Errands.{ErrandFields, one_more}
use Rattle.errand_steps.specs.Offers.{offered_at}
use Rattle.errand_steps.specs.Told.{GivesBack, ended_as, stepped_as}
use Rattle.step_machine.specs.Moments.{IsMoment}
use Rattle.live_heap.specs.declared.answers.AllocAnswer.{AllocAnswer}
use Rattle.live_heap.specs.declared.answers.AllocAnswer.TheVariants as alloc_answer
use Rattle.live_heap.specs.declared.answers.FreeAnswer.{FreeAnswer}
use Rattle.live_heap.specs.declared.answers.FreeAnswer.TheVariants as free_answer
use Rattle.live_heap.specs.declared.answers.Full.{Full}
use Rattle.live_heap.specs.declared.answers.Resumed.{Resumed}
use Rattle.live_heap.specs.declared.answers.Resumed.TheVariants as resumed
use Rattle.live_heap.specs.declared.answers.Taken.{Taken}
use Rattle.live_heap.specs.declared.answers.Taken.TheVariants as taken
use Rattle.live_heap.specs.declared.block.Block.{Block}
use Rattle.live_heap.specs.declared.pass.Pass.{Pass}
use Rattle.live_heap.specs.Calls.{HasCalled, IsCalling, EndsInTime, IsInterrupted}
use Rattle.live_heap.specs.Passes.{Owns, accesses, seen, view}

-- the place of a block, and what it serves
abbrev pub block_place : Block → ℕ
block_place block = block.place

abbrev pub block_need : Block → Need
block_need block = block.need

-- the reply of an ending, with a block's place and need for the block; and what a step came to
abbrev pub reply_of : Ending Block → Reply
reply_of end = ended_as block_place block_need end

abbrev pub progress_of : Stepped Block → Progress
progress_of told = stepped_as block_place block_need told

-- a step of a pass that is in a call, which is one access to a shared word, and what it was told to have come to
pub record HasStepped (p q : Pass) (told : Stepped Block) : Type 0 where
  pub moment : IsMoment p.errand q.errand (seen p) (seen q) (progress_of told)
  pub accesses : accesses q ≡ suc (accesses p)
  pub back : GivesBack block_place block_need (offered_at p.errand.point) told
  pub lent : (view q).lent ≡ (view p).lent

-- the pass has begun a call, and made no step
pub record HasBegun (p : Pass) (call : Call) (q : Pass) : Type 0 where
  pub seat : q.seat ≡ p.seat
  pub errand : q.errand ≡ begun_by p.errand call
  pub out : q.out ≡ p.out

-- an allocation that took no turn, since its caller had none left: nothing has happened
pub record IsSpentAtOnce (p : Pass) (words : ℕ) (q : Pass) : Type 0 where
  pub same : q ≡ p
  pub small : (class : ℕ) × (need_of words ≡ Small class)
  pub over : p.errand.turns ≡ p.errand.geometry.turn_limit

-- how a call that is given so many tries has gone on since the pass stood at p, where it had made so many steps. A block that is given is the pass's; who is spent has taken all its turns
abbrev pub ResumeTells : Pass → Call → ℕ → Pass → ℕ → Resumed → Pass → Type 0
ResumeTells first call made p tries (resumed.Given block) q =
    EndsInTime first call made p tries (reply.Given block.place block.need) q × Owns q block
ResumeTells first call made p tries resumed.Freed q = EndsInTime first call made p tries reply.Freed q
ResumeTells first call made p tries resumed.Refused q = EndsInTime first call made p tries reply.Refused q
ResumeTells first call made p tries resumed.Spent q =
    EndsInTime first call made p tries reply.Spent q × (q.errand.turns ≡ q.errand.geometry.turn_limit)
ResumeTells first call made p tries resumed.Busy q = IsInterrupted first call made p tries q

-- how an allocation that is given so many tries has gone on; where no block has so many words nothing has happened
abbrev pub AllocTells : Pass → ℕ → ℕ → AllocAnswer Block → Pass → Type 0
AllocTells p words tries (alloc_answer.Given block) q =
    EndsInTime p (alloc words) 0 p tries (reply.Given block.place block.need) q × Owns q block
AllocTells p words tries alloc_answer.Refused q = EndsInTime p (alloc words) 0 p tries reply.Refused q
AllocTells p words tries alloc_answer.TooLarge q = q ≡ p
AllocTells p words tries alloc_answer.Spent q =
    IsSpentAtOnce p words q ⊎ (EndsInTime p (alloc words) 0 p tries reply.Spent q × (q.errand.turns ≡ q.errand.geometry.turn_limit))
AllocTells p words tries alloc_answer.Busy q = IsInterrupted p (alloc words) 0 p tries q

-- how a free that is given so many tries has gone on
abbrev pub FreeTells : Pass → Block → ℕ → FreeAnswer → Pass → Type 0
FreeTells p block tries free_answer.Freed q = EndsInTime p (free block.place block.need) 0 p tries reply.Freed q
FreeTells p block tries free_answer.Busy q = IsInterrupted p (free block.place block.need) 0 p tries q

-- an allocation or a free; these alone may be interrupted
abbrev pub IsTried : Call → Type 0
IsTried (alloc words) = Unit {0}
IsTried (free place need) = Unit {0}
IsTried call = ⊥

-- the pass has an allocation or a free under way
pub record IsResumable (p : Pass) : Type 0 where
  pub first : Pass
  pub call : Call
  pub steps : ℕ
  pub calling : IsCalling first call steps p
  pub tried : IsTried call

-- the word is what the block at the place holds there, where that was written
abbrev pub IsContents : Pass → ℕ → ℕ → ℕ → Type 0
IsContents q place i word =
    (block : PoolBlock) (written : ℕ) → block_at place (pool_of (seen q)) ≡ Some block → slice_index_or block.contents i None ≡ Some written
    → word ≡ written

-- a live block lies on the shelf, and the word names it
abbrev pub LiesOn : Pass → ℕ → ℕ → Type 0
LiesOn q shelf word =
    (block : PoolBlock) × (block_at block.place (pool_of (seen q)) ≡ Some block) × (block.owner ≡ Shelf shelf)
    × (word ≡ shelf_word (lies.Block block.place block.need))

-- a put that finds a full shelf: the same block is back, and still the pass's; and another one lies on the shelf
pub record PutTellsFull (p : Pass) (block : Block) (shelf : ℕ) (full : Full) (q : Pass) : Type 0 where
  pub called : HasCalled p (put block.place block.need shelf) 0 (reply.Full full.found) q
  pub same : full.block ≡ block
  pub owned : Owns q full.block
  pub lies : LiesOn q shelf full.found
  pub not_empty : full.found ≢ 0

-- an errand that has lost one exchange more
abbrev pub with_lost : ErrandFields → ErrandFields
with_lost e = record e { lost = one_more e.lost }

-- what a take has come to: the block that it got is the pass's; where it missed, nothing has changed but the count of lost exchanges
abbrev pub TakeTells : Pass → ℕ → Taken Block → Pass → Type 0
TakeTells p shelf (taken.Got block) q = HasCalled p (take shelf) 1 (reply.Got block.place block.need) q × Owns q block
TakeTells p shelf taken.Empty q = HasCalled p (take shelf) 1 reply.Empty q
TakeTells p shelf (taken.Missed expected found) q =
    HasCalled p (take shelf) 1 (reply.Missed expected found) q × (expected ≢ found) × (q.errand ≡ with_lost p.errand)

-- the reply of a call that has ended; none where it goes on
abbrev pub reply_in : Option (Ending Block) → Option Reply
reply_in None = None
reply_in (Some ending) = Some (reply_of ending)

-- the endings that an allocation may have; those that an allocation or a free may have
abbrev pub IsAllocEnding : Ending Block → Type 0
IsAllocEnding (ending.Given block) = Unit {0}
IsAllocEnding ending.Refused = Unit {0}
IsAllocEnding ending.Spent = Unit {0}
IsAllocEnding told = ⊥

abbrev pub IsTriedEnding : Ending Block → Type 0
IsTriedEnding ending.Freed = Unit {0}
IsTriedEnding told = IsAllocEnding told

-- what an allocation answers that has ended
abbrev pub alloc_ended : Ending Block → AllocAnswer Block
alloc_ended (ending.Given block) = alloc_answer.Given block
alloc_ended ending.Refused = alloc_answer.Refused
alloc_ended ending.Spent = alloc_answer.Spent
alloc_ended told = alloc_answer.Busy

-- what an allocation answers, a free, and a call that was resumed, where the first two may be under way still
abbrev pub alloc_answer_in : Option (Ending Block) → AllocAnswer Block
alloc_answer_in None = alloc_answer.Busy
alloc_answer_in (Some told) = alloc_ended told

abbrev pub free_answer_in : Option (Ending Block) → FreeAnswer
free_answer_in None = free_answer.Busy
free_answer_in (Some told) = free_answer.Freed

abbrev pub resumed_ended : Ending Block → Resumed
resumed_ended (ending.Given block) = resumed.Given block
resumed_ended ending.Freed = resumed.Freed
resumed_ended ending.Refused = resumed.Refused
resumed_ended ending.Spent = resumed.Spent
resumed_ended told = resumed.Busy
