-- The whole calls that a lane has made: those of its operations with their outcomes, in the script's order, each with its answer; and what each operation asks for.
use Rattle.std.specs.Prelude.{ℕ, ◌≡◌, ◌≢◌, ◌<◌, ◌%◌, ◌^◌, ◌∷◌, ◌++◌, List, [], Option, Some, None, map, sum, length, min, drop, vec_capacity, slice_set}
use Rattle.std.specs.List.{slice_index_or}
use Rattle.heap_geometry.specs.declared.need.Need.{Need}
use Rattle.heap_geometry.specs.declared.need.Need.TheVariants.{TooLarge}
use Rattle.heap_geometry.specs.Need.{need_of, usable_words}
use Rattle.errand_steps.specs.declared.reply.Reply.{Reply}
use Rattle.errand_steps.specs.declared.reply.Reply.TheVariants as reply
use Rattle.errand_steps.specs.Calls.{Call, alloc, free, put, take}
use Rattle.trace_text.specs.declared.limits.TheConstants.{REGISTERS}
use Rattle.trace_text.specs.declared.trace.Op.{Op}
use Rattle.trace_text.specs.declared.trace.Op.TheVariants as op
use Rattle.sound_laws.specs.events.Made.{LeadsBy, Made, answered, copied, found_from, wrote}
use Rattle.lane_engine.specs.Whole.{Maker}
use Rattle.trace_text.specs.Operations.{register_of}
use Rattle.lane_outcomes.specs.declared.registers.HeldBlock.{HeldBlock}
use Rattle.lane_outcomes.specs.declared.outcome.Outcome.{Outcome}
use Rattle.lane_outcomes.specs.declared.outcome.Outcome.TheVariants as outcome
use Rattle.lane_outcomes.specs.Lane.{held_in, registers_after}
use Rattle.trace_lane.specs.declared.lane.LaneState.{LaneState}
use Rattle.trace_lane.specs.Paths.{held_blocks}
use Rattle.trace_lane.specs.Requests.{AreMisses, held_of, Serves, answer_held, next_held}
use Rattle.trace_lane.specs.declared.request.Answer.{Answer}
use Rattle.trace_lane.specs.declared.request.Next.{Next}
use Rattle.trace_lane.specs.declared.request.Next.TheVariants as next
use Rattle.trace_lane.specs.declared.request.Request.{Request}
use Rattle.trace_lane.specs.declared.request.Request.TheVariants as request
use Rattle.trace_lane.specs.Works.{rank}

-- calls without their answers
abbrev pub calls_made : List Made → List Call
calls_made made = map (λ m. m.call) made

-- the call that is under way, if one is
abbrev pub calls_in : Option Call → List Call
calls_in None = []
calls_in (Some call) = call ∷ []

-- calls on the block of a full register, with the need that it was given or taken with
abbrev pub OnBlock : Option HeldBlock → (HeldBlock → Need → Type 0) → Type 0
OnBlock None P = ⊥
OnBlock (Some held) P = (held.words ≡ usable_words held.need) × P held held.need

-- the outcome of a resize that asks for no block: its register is empty, or the block there serves the need
abbrev pub IsUnasked : Option HeldBlock → ℕ → Option Outcome → Type 0
IsUnasked None need result = result ≡ Some outcome.Skipped
IsUnasked (Some held) need None = need_of need ≢ held.need
IsUnasked (Some held) need (Some result) = (need_of need ≡ held.need) × (result ≡ outcome.Kept held.words held.place)

-- an operation on a register of this kind is skipped: an allocation and a take where it is full, any other where it is empty
abbrev pub Skips : Option HeldBlock → Op → Type 0
Skips (Some held) (op.Alloc r need v) = Unit {0}
Skips (Some held) (op.Take r shelf) = Unit {0}
Skips None (op.Free r) = Unit {0}
Skips None (op.Fill r v) = Unit {0}
Skips None (op.Check r) = Unit {0}
Skips None (op.Put r shelf) = Unit {0}
Skips None (op.Resize r need) = Unit {0}
Skips register operation = ⊥

-- the whole calls of an operation with its outcome, where its register held this
abbrev pub MadeFor : Option HeldBlock → Op → Outcome → List Made → Type 0
MadeFor held operation outcome.Skipped made = Skips held operation × (made ≡ [])
MadeFor None (op.Alloc r need v) (outcome.Given words place) made =
    (words ≡ usable_words (need_of need))
    × (made ≡ answered (alloc need) (reply.Given place (need_of need)) ∷ wrote place (need_of need) v words)
MadeFor None (op.Alloc r need v) outcome.Refused made = made ≡ answered (alloc need) reply.Refused ∷ []
MadeFor None (op.Alloc r need v) outcome.Spent made = made ≡ answered (alloc need) reply.Spent ∷ []
MadeFor held (op.Free r) outcome.Freed made = OnBlock held (λ held need. made ≡ answered (free held.place need) reply.Freed ∷ [])
MadeFor held (op.Fill r v) outcome.Filled made = OnBlock held (λ held need. made ≡ wrote held.place need v held.words)
MadeFor held (op.Check r) (outcome.Sum total) made =
    OnBlock held (λ held need. (words : List ℕ) × (length words ≡ held.words) × (total ≡ sum words % 2 ^ 64) × (made ≡ found_from held.place need 0 words))
MadeFor held (op.Put r shelf) outcome.Put made = OnBlock held (λ held need. made ≡ answered (put held.place need shelf) reply.Put ∷ [])
MadeFor held (op.Put r shelf) outcome.ShelfFull made =
    OnBlock held (λ held need. (found : ℕ) × (made ≡ answered (put held.place need shelf) (reply.Full found) ∷ []))
MadeFor None (op.Take r shelf) (outcome.Took words place need) made =
    (misses : List Made) × AreMisses shelf misses × (words ≡ usable_words need)
    × (made ≡ misses ++ answered (take shelf) (reply.Got place need) ∷ [])
MadeFor None (op.Take r shelf) outcome.ShelfEmpty made =
    (misses : List Made) × AreMisses shelf misses × (made ≡ misses ++ answered (take shelf) reply.Empty ∷ [])
MadeFor (Some held) (op.Resize r need) (outcome.Kept words place) made =
    (need_of need ≡ held.need) × (words ≡ held.words) × (place ≡ held.place) × (made ≡ [])
MadeFor (Some held) (op.Resize r need) (outcome.Resized words place) made =
    (need_of need ≢ held.need) × (words ≡ usable_words (need_of need)) × (held.words ≡ usable_words held.need)
    × (found : List ℕ) × (length found ≡ min held.words words)
    × (made
    ≡ answered (alloc need) (reply.Given place (need_of need))
    ∷ copied held.place held.need place (need_of need) found words ++ answered (free held.place held.need) reply.Freed ∷ [])
MadeFor (Some held) (op.Resize r need) outcome.Refused made =
    (need_of need ≢ held.need) × (made ≡ answered (alloc need) reply.Refused ∷ [])
MadeFor (Some held) (op.Resize r need) outcome.Spent made =
    (need_of need ≢ held.need) × (made ≡ answered (alloc need) reply.Spent ∷ [])
MadeFor held operation result made = ⊥

-- the registers after operations with these outcomes
abbrev pub registers_from : List (Option HeldBlock) → List Op → List Outcome → List (Option HeldBlock)
registers_from registers operations [] = registers
registers_from registers [] (result ∷ results) = registers
registers_from registers (operation ∷ operations) (result ∷ results) =
    registers_from (registers_after registers operation result) operations results

-- the block of a full register
abbrev pub held_there : Option HeldBlock → HeldBlock
held_there (Some held) = held
held_there None = held_of 0 TooLarge

-- the register held this block, which has the words of its need
abbrev pub IsHeld : List (Option HeldBlock) → ℕ → HeldBlock → Type 0
IsHeld registers r held = (held_in registers r ≡ Some held) × (held.words ≡ usable_words held.need)

-- and it was taken out
abbrev pub IsTakenOut : List (Option HeldBlock) → List (Option HeldBlock) → ℕ → HeldBlock → Type 0
IsTakenOut before registers r held = IsHeld before r held × (registers ≡ slice_set before r None)

-- the operation has ended these calls and asks for this, where the registers held `before` when it began and hold `registers` now
abbrev pub Asks : List (Option HeldBlock) → List (Option HeldBlock) → Op → Request HeldBlock → List Made → Type 0
Asks before registers (op.Alloc r need v) (request.Allocate words) made =
    (words ≡ need) × (held_in before r ≡ None) × (registers ≡ before) × (made ≡ [])
Asks before registers (op.Alloc r need v) (request.Fill held from) made =
    (from ≡ v) × (held_in before r ≡ None) × (registers ≡ before) × (held ≡ held_of held.place (need_of need))
    × (made ≡ answered (alloc need) (reply.Given held.place (need_of need)) ∷ [])
Asks before registers (op.Free r) (request.Free held) made = IsTakenOut before registers r held × (made ≡ [])
Asks before registers (op.Fill r v) (request.Fill held from) made = (from ≡ v) × IsTakenOut before registers r held × (made ≡ [])
Asks before registers (op.Check r) (request.Sum held) made = IsTakenOut before registers r held × (made ≡ [])
Asks before registers (op.Put r shelf) (request.Put held on) made = (on ≡ shelf) × IsTakenOut before registers r held × (made ≡ [])
Asks before registers (op.Take r shelf) (request.Take off) made =
    (off ≡ shelf) × (held_in before r ≡ None) × (registers ≡ before) × (made ≡ [])
Asks before registers (op.Resize r need) (request.Allocate words) made =
    (words ≡ need) × (held : HeldBlock) × IsHeld before r held × (need_of need ≢ held.need) × (registers ≡ before) × (made ≡ [])
Asks before registers (op.Resize r need) (request.Copy from to) made =
    IsTakenOut before registers r from × (need_of need ≢ from.need) × (to ≡ held_of to.place (need_of need))
    × (made ≡ answered (alloc need) (reply.Given to.place (need_of need)) ∷ [])
Asks before registers (op.Resize r need) (request.Free from) made =
    IsHeld before r from × (need_of need ≢ from.need) × (place : ℕ) × (registers ≡ slice_set before r (Some (held_of place (need_of need))))
    × (found : List ℕ) × (length found ≡ min (usable_words from.need) (usable_words (need_of need)))
    × (made
    ≡ answered (alloc need) (reply.Given place (need_of need))
    ∷ copied from.place from.need place (need_of need) found (usable_words (need_of need)))
Asks before registers operation request made = ⊥

-- the operation has ended these calls and goes on so, or has this outcome
abbrev pub IsNext : List (Option HeldBlock) → Op → Next HeldBlock → List Made → List (Option HeldBlock) → Type 0
IsNext before operation (next.Ask asked) made registers = Asks before registers operation asked made
IsNext before operation (next.Told result) made registers =
    MadeFor (held_in before (register_of operation)) operation result made × (registers ≡ registers_after before operation result)

-- what an operation asks for then comes later in it
abbrev pub IsLater : Request HeldBlock → Next HeldBlock → Type 0
IsLater asked (next.Ask more) = rank asked < rank more
IsLater asked (next.Told result) = Unit {0}

-- an operation goes on so from there: it asks for what comes later, or has its outcome, which stays
abbrev pub ComesBehind : Next HeldBlock → Next HeldBlock → Type 0
ComesBehind (next.Ask asked) then = IsLater asked then
ComesBehind (next.Told result) then = then ≡ next.Told result

module _ {B : Type 0} (place_of : B → ℕ) (block_need : B → Need) (operation : Op) where
  -- an operation begins so
  abbrev pub Begins : List (Option B) → Next B → List (Option B) → Type 0
  Begins old next new =
      IsNext (held_blocks place_of block_need old) operation (next_held place_of block_need next) [] (held_blocks place_of block_need new)

  -- what it asked for is answered so
  abbrev pub IsAnswer : List (Option B) → Answer B → Type 0
  IsAnswer registers told =
      (before : List (Option HeldBlock)) × (asked : Request HeldBlock) × (made : List Made) × (more : List Made)
      × Asks before (held_blocks place_of block_need registers) operation asked made × Serves asked (answer_held place_of block_need told) more

  -- and it goes on so by that
  abbrev pub GoesOn : List (Option B) → Answer B → Next B → List (Option B) → Type 0
  GoesOn old told next new =
      (before : List (Option HeldBlock)) (asked : Request HeldBlock) (made more : List Made)
      → Asks before (held_blocks place_of block_need old) operation asked made → Serves asked (answer_held place_of block_need told) more
      → IsNext before operation (next_held place_of block_need next) (made ++ more) (held_blocks place_of block_need new)
      × IsLater asked (next_held place_of block_need next)

module _ {S : Type 0} (called : S → Call → Reply → S → Type 0) where
  -- an operation with its outcome led from one state to another
  abbrev pub OneMade : List (Option HeldBlock) → Op → Outcome → S → S → Type 0
  OneMade registers operation result before after =
      (made : List Made) × MadeFor (held_in registers (register_of operation)) operation result made × LeadsBy called before made after

  -- operations with these outcomes led from one state to another, from these registers on
  abbrev pub AllMade : List (Option HeldBlock) → List Op → List Outcome → S → S → Type 0
  AllMade registers operations [] before after = after ≡ before
  AllMade registers [] (result ∷ results) before after = ⊥
  AllMade registers (operation ∷ operations) (result ∷ results) before after =
      (next : S) × OneMade registers operation result before next
      × AllMade (registers_after registers operation result) operations results next after

-- the registers hold blocks of the caller's, and no two the same one
pub record HoldsBlocks {B : Type 0} (place_of : B → ℕ) (need_of : B → Need) (owns : ℕ → Need → Type 0) (registers : List (Option B)) : Type 0 where
  pub size : length registers ≡ REGISTERS
  pub owned : (r : ℕ) (block : B) → slice_index_or registers r None ≡ Some block → owns (place_of block) (need_of block)
  pub once :
      (r q : ℕ) (block other : B) → slice_index_or registers r None ≡ Some block → slice_index_or registers q None ≡ Some other → r ≢ q
      → place_of block ≢ place_of other

module _ {B S : Type 0} (place_of : B → ℕ) (need_of : B → Need) where
  -- a lane may make an operation: it is in no call, holds blocks of its caller's, and has room for one more outcome
  pub record MayMake (maker : Maker S) (at : S) (lane : LaneState B) : Type 0 where
    pub stands : maker.stands at
    pub holds : HoldsBlocks place_of need_of (maker.owns at) lane.registers.items
    pub room : length lane.outcomes.items < vec_capacity lane.outcomes

  -- an operation that a lane began on these blocks has come so far by these whole calls
  pub record MayGoFurther (maker : Maker S) (operation : Op) (next : Next B) (at : S) (lane : LaneState B) : Type 0 where
    pub start : S
    pub blocks : List (Option B)
    pub made : List Made
    pub holds : HoldsBlocks place_of need_of (maker.owns start) blocks
    pub leads : LeadsBy maker.called start made at
    pub is_next :
        IsNext (held_blocks place_of need_of blocks) operation (next_held place_of need_of next) made (held_blocks place_of need_of lane.registers.items)

  -- and goes on from there by more of them, at least to what it asks for behind
  pub record GoesFurther (called : S → Call → Reply → S → Type 0) (operation : Op) (asked : Next B) (before after : S) (old new : LaneState B) (next : Next B) : Type 0 where
    pub more : List Made
    pub leads : LeadsBy called before more after
    pub is_next :
        (registers : List (Option HeldBlock)) (made : List Made)
        → IsNext registers operation (next_held place_of need_of asked) made (held_blocks place_of need_of old.registers.items)
        → IsNext registers operation (next_held place_of need_of next) (made ++ more) (held_blocks place_of need_of new.registers.items)
    pub behind : ComesBehind (next_held place_of need_of asked) (next_held place_of need_of next)
    pub kept : new ≡ record old { registers = new.registers }

  -- a lane made this operation, and has its outcome
  pub record Makes (maker : Maker S) (operation : Op) (before after : S) (old new : LaneState B) : Type 0 where
    pub result : Outcome
    pub made : OneMade maker.called (held_blocks place_of need_of old.registers.items) operation result before after
    pub registers :
        held_blocks place_of need_of new.registers.items
        ≡ registers_after (held_blocks place_of need_of old.registers.items) operation result
    pub holds : HoldsBlocks place_of need_of (maker.owns after) new.registers.items
    pub results : new.outcomes.items ≡ old.outcomes.items ++ result ∷ []
    pub same_caller : new.caller ≡ old.caller
    pub same_work : new.work ≡ old.work
    pub room : vec_capacity new.outcomes ≡ vec_capacity old.outcomes

  -- a lane made its next operations by whole calls, and has their outcomes
  pub record HasRun (called : S → Call → Reply → S → Type 0) (operations : List Op) (before after : S) (old new : LaneState B) : Type 0 where
    pub results : List Outcome
    pub made :
        AllMade called (held_blocks place_of need_of old.registers.items) (drop (length old.outcomes.items) operations) results before after
    pub registers :
        held_blocks place_of need_of new.registers.items
        ≡ registers_from (held_blocks place_of need_of old.registers.items) (drop (length old.outcomes.items) operations) results
    pub outcomes : new.outcomes.items ≡ old.outcomes.items ++ results
    pub same_caller : new.caller ≡ old.caller
    pub same_work : new.work ≡ old.work
    pub room : vec_capacity new.outcomes ≡ vec_capacity old.outcomes
