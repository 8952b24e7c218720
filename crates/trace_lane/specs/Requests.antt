-- What a lane asks for and is answered, and which whole calls that is, whoever makes them.
use Rattle.std.specs.Prelude.{ℕ, ◌≡◌, ◌<◌, ◌≤◌, ◌%◌, ◌^◌, ◌∷◌, ◌++◌, List, [], length, min, sum}
use Rattle.heap_geometry.specs.declared.limits.TheConstants.{LARGE_MOST, SHELVES}
use Rattle.heap_geometry.specs.declared.need.Need.{Need}
use Rattle.heap_geometry.specs.Need.{need_of, usable_words}
use Rattle.errand_steps.specs.declared.reply.Reply.{Reply}
use Rattle.errand_steps.specs.declared.reply.Reply.TheVariants as reply
use Rattle.errand_steps.specs.Calls.{Call, alloc, free, put, take}
use Rattle.sound_laws.specs.events.Made.{LeadsBy, Made, answered, copied, found_from, wrote}
use Rattle.lane_outcomes.specs.declared.registers.HeldBlock.{HeldBlock}
use Rattle.trace_lane.specs.declared.request.Answer.{Answer}
use Rattle.trace_lane.specs.declared.request.Answer.TheVariants as answer
use Rattle.trace_lane.specs.declared.request.Next.{Next}
use Rattle.trace_lane.specs.declared.request.Next.TheVariants as next
use Rattle.trace_lane.specs.declared.request.Request.{Request}
use Rattle.trace_lane.specs.declared.request.Request.TheVariants as request
use Rattle.trace_lane.specs.Paths.{held_by}

-- the block at this place that serves this need, as a register's
abbrev pub held_of : ℕ → Need → HeldBlock
held_of place need = record { place = place; words = usable_words need; need = need }

-- takes that missed the shelf's block
abbrev pub AreMisses : ℕ → List Made → Type 0
AreMisses shelf [] = Unit {0}
AreMisses shelf (made ∷ rest) =
    (expected : ℕ) × (found : ℕ) × (made ≡ answered (take shelf) (reply.Missed expected found)) × AreMisses shelf rest

-- the whole calls of a request that is answered so
abbrev pub Serves : Request HeldBlock → Answer HeldBlock → List Made → Type 0
Serves (request.Allocate need) (answer.Given held) made =
    (held ≡ held_of held.place (need_of need)) × (made ≡ answered (alloc need) (reply.Given held.place (need_of need)) ∷ [])
Serves (request.Allocate need) answer.Refused made = made ≡ answered (alloc need) reply.Refused ∷ []
Serves (request.Allocate need) answer.Spent made = made ≡ answered (alloc need) reply.Spent ∷ []
Serves (request.Free held) answer.Freed made = made ≡ answered (free held.place held.need) reply.Freed ∷ []
Serves (request.Fill held v) (answer.Filled back) made = (back ≡ held) × (made ≡ wrote held.place held.need v (usable_words held.need))
Serves (request.Sum held) (answer.Summed back total) made =
    (back ≡ held) × (words : List ℕ) × (length words ≡ usable_words held.need) × (total ≡ sum words % 2 ^ 64)
    × (made ≡ found_from held.place held.need 0 words)
Serves (request.Copy from to) (answer.Copied old new) made =
    (old ≡ from) × (new ≡ to) × (found : List ℕ) × (length found ≡ min (usable_words from.need) (usable_words to.need))
    × (made ≡ copied from.place from.need to.place to.need found (usable_words to.need))
Serves (request.Put held shelf) answer.Put made = made ≡ answered (put held.place held.need shelf) reply.Put ∷ []
Serves (request.Put held shelf) (answer.Full back) made =
    (back ≡ held) × (found : ℕ) × (made ≡ answered (put held.place held.need shelf) (reply.Full found) ∷ [])
Serves (request.Take shelf) (answer.Got held) made =
    (held.words ≡ usable_words held.need) × (misses : List Made) × AreMisses shelf misses
    × (made ≡ misses ++ answered (take shelf) (reply.Got held.place held.need) ∷ [])
Serves (request.Take shelf) answer.Empty made =
    (misses : List Made) × AreMisses shelf misses × (made ≡ misses ++ answered (take shelf) reply.Empty ∷ [])
Serves request answer made = ⊥

-- the blocks of a request are the caller's
abbrev pub HasBlocks : (ℕ → Need → Type 0) → Request HeldBlock → Type 0
HasBlocks owns (request.Free held) = owns held.place held.need
HasBlocks owns (request.Fill held v) = owns held.place held.need
HasBlocks owns (request.Sum held) = owns held.place held.need
HasBlocks owns (request.Copy from to) = owns from.place from.need × owns to.place to.need
HasBlocks owns (request.Put held shelf) = owns held.place held.need
HasBlocks owns request = Unit {0}

-- the number of words or the shelf of a request is in its range
abbrev pub FitsRequest : Request HeldBlock → Type 0
FitsRequest (request.Allocate need) = need ≤ LARGE_MOST
FitsRequest (request.Put held shelf) = shelf < SHELVES
FitsRequest (request.Take shelf) = shelf < SHELVES
FitsRequest request = Unit {0}

-- blocks in hand as registers'
module _ {B : Type 0} (place_of : B → ℕ) (block_need : B → Need) where
  abbrev pub request_held : Request B → Request HeldBlock
  request_held (request.Allocate need) = request.Allocate need
  request_held (request.Free block) = request.Free (held_by place_of block_need block)
  request_held (request.Fill block v) = request.Fill (held_by place_of block_need block) v
  request_held (request.Sum block) = request.Sum (held_by place_of block_need block)
  request_held (request.Copy from to) = request.Copy (held_by place_of block_need from) (held_by place_of block_need to)
  request_held (request.Put block shelf) = request.Put (held_by place_of block_need block) shelf
  request_held (request.Take shelf) = request.Take shelf

  abbrev pub answer_held : Answer B → Answer HeldBlock
  answer_held (answer.Given block) = answer.Given (held_by place_of block_need block)
  answer_held answer.Refused = answer.Refused
  answer_held answer.Spent = answer.Spent
  answer_held answer.Freed = answer.Freed
  answer_held (answer.Filled block) = answer.Filled (held_by place_of block_need block)
  answer_held (answer.Summed block total) = answer.Summed (held_by place_of block_need block) total
  answer_held (answer.Copied from to) = answer.Copied (held_by place_of block_need from) (held_by place_of block_need to)
  answer_held answer.Put = answer.Put
  answer_held (answer.Full block) = answer.Full (held_by place_of block_need block)
  answer_held (answer.Got block) = answer.Got (held_by place_of block_need block)
  answer_held answer.Empty = answer.Empty

  abbrev pub next_held : Next B → Next HeldBlock
  next_held (next.Ask asked) = next.Ask (request_held asked)
  next_held (next.Told result) = next.Told result

  -- whole calls served this request from one state to another
  abbrev pub HasServed : {S : Type 0} → (S → Call → Reply → S → Type 0) → S → Request HeldBlock → Answer B → S → Type 0
  HasServed called before asked told after = (made : List Made) × Serves asked (answer_held told) made × LeadsBy called before made after
