-- A request that is served by one call of a machine after another: which calls of it have ended, and which one is under way.
use Rattle.std.specs.Prelude.{ℕ, ◌≡◌, ◌<◌, ◌≤◌, ◌+◌, ◌*◌, ◌%◌, ◌^◌, ◌∷◌, ◌++◌, ◌⊎◌, List, [], Option, Some, None, length, min, nat_lt, sum, if◌then◌else◌}
use Rattle.heap_geometry.specs.declared.limits.TheConstants.{LARGE_MOST}
use Rattle.heap_geometry.specs.declared.need.Need.{Need}
use Rattle.heap_geometry.specs.Need.{need_of, usable_words}
use Rattle.errand_steps.specs.declared.reply.Reply.{Reply}
use Rattle.errand_steps.specs.declared.reply.Reply.TheVariants as reply
use Rattle.errand_steps.specs.declared.told.Ending.{Ending}
use Rattle.errand_steps.specs.declared.told.Ending.TheVariants as ending
use Rattle.errand_steps.specs.Calls.{Call, alloc, free, put, read, take, write}
use Rattle.sound_laws.specs.events.Made.{Made, answered, copied, found_from, wrote}
use Rattle.lane_outcomes.specs.declared.registers.HeldBlock.{HeldBlock}
use Rattle.trace_lane.specs.declared.request.Request.{Request}
use Rattle.trace_lane.specs.declared.request.Request.TheVariants as request
use Rattle.trace_lane.specs.declared.work.Work.{Work}
use Rattle.trace_lane.specs.declared.work.Work.TheVariants as work
use Rattle.trace_lane.specs.declared.work.Worked.{Worked}
use Rattle.trace_lane.specs.declared.work.Worked.TheVariants as worked
use Rattle.trace_lane.specs.Paths.{held_by}
use Rattle.trace_lane.specs.Requests.{AreMisses, Serves, answer_held}

-- the word behind this one, if the block has so many words
abbrev pub behind : ℕ → ℕ → Option ℕ
behind next words = if nat_lt (next + 1) words then Some (next + 1) else None

-- the word is one of a block of so many words, if that has any
abbrev pub IsInside : ℕ → ℕ → Type 0
IsInside next words = 0 < words → next < words

-- word `next` of a block was read, and is this one; behind the block's end none is read, and 0 stands for it
abbrev pub IsReadFor : HeldBlock → ℕ → ℕ → List Made → Type 0
IsReadFor from next word got =
    ((next < usable_words from.need) × (got ≡ answered (read from.place from.need next) (reply.Word word) ∷ []))
    ⊎ ((usable_words from.need ≤ next) × (word ≡ 0) × (got ≡ []))

-- a request under way has ended these calls
abbrev pub IsServing : Work HeldBlock → List Made → Type 0
IsServing (work.Filling held v next) made = IsInside next (usable_words held.need) × (made ≡ wrote held.place held.need v next)
IsServing (work.Summing held next total) made =
    IsInside next (usable_words held.need) × (words : List ℕ) × (length words ≡ next) × (total ≡ sum words % 2 ^ 64)
    × (made ≡ found_from held.place held.need 0 words)
IsServing (work.Reading from to next) made =
    IsInside next (usable_words from.need) × IsInside next (usable_words to.need) × (words : List ℕ) × (length words ≡ next)
    × (made ≡ copied from.place from.need to.place to.need words next)
IsServing (work.Writing from to next word) made =
    IsInside next (usable_words to.need) × (words : List ℕ) × (length words ≡ min (usable_words from.need) next) × (got : List Made)
    × IsReadFor from next word got × (made ≡ copied from.place from.need to.place to.need words next ++ got)
IsServing (work.Taking shelf) made = AreMisses shelf made
IsServing at made = made ≡ []

-- the call that is under way
abbrev pub call_in : Work HeldBlock → Call
call_in (work.Allocating need) = alloc need
call_in (work.Freeing held) = free held.place held.need
call_in (work.Filling held v next) = write held.place held.need next ((v + next) % 2 ^ 64)
call_in (work.Summing held next total) = read held.place held.need next
call_in (work.Reading from to next) = read from.place from.need next
call_in (work.Writing from to next word) = write to.place to.need next word
call_in (work.Putting held shelf) = put held.place held.need shelf
call_in (work.Taking shelf) = take shelf

-- the request that is served
abbrev pub request_in : {B : Type 0} → Work B → Request B
request_in (work.Allocating need) = request.Allocate need
request_in (work.Freeing block) = request.Free block
request_in (work.Filling block v next) = request.Fill block v
request_in (work.Summing block next total) = request.Sum block
request_in (work.Reading from to next) = request.Copy from to
request_in (work.Writing from to next word) = request.Copy from to
request_in (work.Putting block shelf) = request.Put block shelf
request_in (work.Taking shelf) = request.Take shelf

-- an allocation comes first in its operation, and the free of a resize last
abbrev pub rank : {B : Type 0} → Request B → ℕ
rank (request.Allocate need) = 0
rank (request.Free block) = 2
rank request = 1

-- how many calls of a request have ended
abbrev pub calls_ended : {B : Type 0} → Work B → ℕ
calls_ended (work.Filling block v next) = next
calls_ended (work.Summing block next total) = next
calls_ended (work.Reading from to next) = 2 * next
calls_ended (work.Writing from to next word) = 2 * next + 1
calls_ended at = 0

-- more than the calls of a request: no block has more words than the largest
abbrev pub calls_bound : ℕ
calls_bound = 2 * LARGE_MOST + 2

-- how far an operation is, in a number that rises with each of its calls
abbrev pub work_begun : {B : Type 0} → Option (Work B) → ℕ
work_begun None = 0
work_begun (Some at) = rank (request_in at) * calls_bound + calls_ended at + 1

-- a call more of a request is further on; but a take that missed is tried again where it stands
abbrev pub Rises : Work HeldBlock → Reply → Work HeldBlock → Type 0
Rises at told to =
    (calls_ended at < calls_ended to)
    ⊎ ((shelf : ℕ) × (at ≡ work.Taking shelf) × (to ≡ work.Taking shelf) × (expected : ℕ) × (found : ℕ) × (told ≡ reply.Missed expected found))

-- the call under way has ended with this answer: the next one is due, or the request is answered
abbrev pub WorksTo : Work HeldBlock → Reply → Worked HeldBlock → Type 0
WorksTo at told (worked.Going to) =
    (request_in to ≡ request_in at) × Rises at told to
    × ((made : List Made) → IsServing at made → IsServing to (made ++ answered (call_in at) told ∷ []))
WorksTo at told (worked.Answered result) =
    (made : List Made) → IsServing at made → Serves (request_in at) result (made ++ answered (call_in at) told ∷ [])

-- a request of which no call has ended
abbrev pub HasBegunWork : Request HeldBlock → Work HeldBlock → Type 0
HasBegunWork asked at = (request_in at ≡ asked) × IsServing at []

-- the word that was read
abbrev pub word_in : {B : Type 0} → Ending B → ℕ
word_in (ending.Word word) = word
word_in ended = 0

module _ {B : Type 0} (place_of : B → ℕ) (block_need : B → Need) where
  -- a call of these answers so: with an answer of its own, a block that serves what was asked for, and the block back that a full shelf didn't take
  abbrev pub AnswersCall : Call → Ending B → Type 0
  AnswersCall (alloc words) (ending.Given block) = block_need block ≡ need_of words
  AnswersCall (alloc words) ending.Refused = Unit {0}
  AnswersCall (alloc words) ending.Spent = Unit {0}
  AnswersCall (free place need) ending.Freed = Unit {0}
  AnswersCall (write place need i value) ending.Wrote = i < usable_words need
  AnswersCall (read place need i) (ending.Word word) = i < usable_words need
  AnswersCall (put place need shelf) ending.Put = Unit {0}
  AnswersCall (put place need shelf) (ending.Full block found) = (place_of block ≡ place) × (block_need block ≡ need)
  AnswersCall (take shelf) (ending.Got block) = Unit {0}
  AnswersCall (take shelf) ending.Empty = Unit {0}
  AnswersCall (take shelf) (ending.Missed expected found) = Unit {0}
  AnswersCall call ended = ⊥

  -- blocks in hand as registers'
  abbrev pub work_held : Work B → Work HeldBlock
  work_held (work.Allocating need) = work.Allocating need
  work_held (work.Freeing block) = work.Freeing (held_by place_of block_need block)
  work_held (work.Filling block v next) = work.Filling (held_by place_of block_need block) v next
  work_held (work.Summing block next total) = work.Summing (held_by place_of block_need block) next total
  work_held (work.Reading from to next) = work.Reading (held_by place_of block_need from) (held_by place_of block_need to) next
  work_held (work.Writing from to next word) = work.Writing (held_by place_of block_need from) (held_by place_of block_need to) next word
  work_held (work.Putting block shelf) = work.Putting (held_by place_of block_need block) shelf
  work_held (work.Taking shelf) = work.Taking shelf

  abbrev pub worked_held : Worked B → Worked HeldBlock
  worked_held (worked.Going to) = worked.Going (work_held to)
  worked_held (worked.Answered result) = worked.Answered (answer_held place_of block_need result)
