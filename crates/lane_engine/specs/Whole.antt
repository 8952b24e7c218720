-- What whole calls answer, whoever makes them.
use Rattle.std.specs.Prelude.{ℕ, ◌≡◌, ◌≢◌, Option, Some, None}
use Rattle.heap_geometry.specs.declared.need.Need.{Need}
use Rattle.heap_geometry.specs.Need.{need_of}
use Rattle.errand_steps.specs.declared.reply.Reply.{Reply}
use Rattle.errand_steps.specs.declared.reply.Reply.TheVariants as reply
use Rattle.errand_steps.specs.Calls.{Call, alloc, put}
use Rattle.step_machine.specs.Keeping.{Hands, LeavesPlace}
use Rattle.lane_engine.specs.declared.calls.Allocated.{Allocated}
use Rattle.lane_engine.specs.declared.calls.Allocated.TheVariants as allocated
use Rattle.live_heap.specs.declared.answers.Taken.{Taken}
use Rattle.live_heap.specs.declared.answers.Taken.TheVariants as taken

module _ {B : Type 0} (place_of : B → ℕ) (need_of : B → Need) where
  -- the answer of an allocation
  abbrev pub allocated_as : Allocated B → Reply
  allocated_as (allocated.Given block) = reply.Given (place_of block) (need_of block)
  allocated_as allocated.Refused = reply.Refused
  allocated_as allocated.Spent = reply.Spent

  -- the answer of a put of this block: where the shelf is full the same block is back, and still the caller's
  abbrev pub PutTells : (ℕ → Need → Type 0) → (Reply → Type 0) → ℕ → Need → Option B → Type 0
  PutTells owns ended place need None = ended reply.Put
  PutTells owns ended place need (Some back) =
      (place_of back ≡ place) × (need_of back ≡ need) × owns place need × (found : ℕ) × ended (reply.Full found)

  -- the answer of a take
  abbrev pub TakeTells : (Reply → Type 0) → Taken B → Type 0
  TakeTells ended (taken.Got block) = ended (reply.Got (place_of block) (need_of block))
  TakeTells ended taken.Empty = ended reply.Empty
  TakeTells ended (taken.Missed expected found) = ended (reply.Missed expected found)

-- what makes whole calls, to a lane: where it is in no call, which blocks are its caller's, what it runs on, which no call changes, and which calls, ended with which answer, led from one state to another
pub record Maker (S : Type 0) : Type 1 where
  pub stands : S → Type 0
  pub owns : S → ℕ → Need → Type 0
  pub Base : Type 0
  pub runs_on : S → Base
  pub called : S → Call → Reply → S → Type 0

-- whole calls leave their caller its blocks, but for the one that each gives away, which a full shelf doesn't take; a block that one hands out is the caller's, and none of those that it had; and one that is given serves what was asked for
pub record KeepBlocks {S : Type 0} (called : S → Call → Reply → S → Type 0) (owns : S → ℕ → Need → Type 0) : Type 0 where
  pub keeps :
      (s t : S) (call : Call) (answer : Reply) (place : ℕ) (need : Need) → called s call answer t → LeavesPlace call place → owns s place need
      → owns t place need
  pub back :
      (s t : S) (place : ℕ) (need : Need) (shelf found at : ℕ) (had : Need) → called s (put place need shelf) (reply.Full found) t → owns s at had
      → owns t at had
  pub hands : (s t : S) (call : Call) (answer : Reply) (place : ℕ) (need : Need) → called s call answer t → Hands answer place need → owns t place need
  pub apart :
      (s t : S) (call : Call) (answer : Reply) (place other : ℕ) (need had : Need) → called s call answer t → Hands answer place need
      → owns s other had → other ≢ place
  pub serves : (s t : S) (words place : ℕ) (need : Need) → called s (alloc words) (reply.Given place need) t → need ≡ need_of words
