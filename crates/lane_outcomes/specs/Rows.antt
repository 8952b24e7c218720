-- Which outcome an operation may have, and which events of its lane it then adds.
use Rattle.std.specs.Prelude.{ℕ, ◌+◌, ◌%◌, ◌^◌, ◌<◌, ◌≤◌, ◌≡◌, ◌≢◌, ◌∷◌, ◌++◌, List, [], Bool, true, false, Option, Some, None, count_by, not, sum, ◌&&◌, ◌==◌}
use Rattle.std.specs.List.{AllZip, slice_index_or}
use Rattle.heap_geometry.specs.Need.{need_of, usable_words}
use Rattle.pool_model.specs.declared.event.Event.{Event}
use Rattle.pool_model.specs.declared.event.Event.TheVariants.{Alloc, Free, Put, Take, TakeNone}
use Rattle.pool_model.specs.declared.owner.Owner.TheVariants.{Shelf}
use Rattle.pool_model.specs.Histories.{own, Begins}
use Rattle.pool_model.specs.Pool.{Block, Pool, block_at, pool_of}
use Rattle.pool_model.specs.Calls.{EventsOf, alloc_given, alloc_refused, alloc_spent}
use Rattle.trace_text.specs.declared.trace.Op.{Op}
use Rattle.trace_text.specs.declared.trace.Op.TheVariants as op
use Rattle.lane_outcomes.specs.declared.registers.HeldBlock.{HeldBlock}
use Rattle.lane_outcomes.specs.declared.outcome.Outcome.{Outcome}
use Rattle.lane_outcomes.specs.declared.outcome.Outcome.TheVariants as outcome
use Rattle.trace_text.specs.Operations.{register_of}
use Rattle.lane_outcomes.specs.Lane.{Position, held_in, is_small, filling, writing}

-- what a lane's outcomes are held against: its number, the most turns of a caller, and the history and the lost exchanges of the closed heap
pub record Setting : Type 0 where
  pub caller : ℕ
  pub turn_limit : ℕ
  pub history : List Event
  pub lost : ℕ

-- the history up to a moment at which these are the lane's own events
pub record Moment (setting : Setting) (done : List Event) : Type 0 where
  pub before : List Event
  pub begins : Begins before setting.history
  pub own_done : own setting.caller before ≡ done

-- a number for a word: what the word holds, where it was written
abbrev pub IsWord : Option ℕ → ℕ → Type 0
IsWord None n = Unit {0}
IsWord (Some v) n = n ≡ v

-- the sum of a block's contents, an unwritten word standing for some number
pub record IsSumOf (contents : List (Option ℕ)) (total : ℕ) : Type 0 where
  pub words : List ℕ
  pub each : AllZip IsWord contents words
  pub total_is : total ≡ sum words % 2 ^ 64

-- a block lies on the shelf
pub record IsFullShelf (pool : Pool) (shelf : ℕ) : Type 0 where
  pub block : Block
  pub live : block_at block.place pool ≡ Some block
  pub shelved : block.owner ≡ Shelf shelf

-- an allocation on an empty register, or a resize to another need, may still ask the heap: it is large, or the lane has turns left
abbrev pub MayAsk : Position → ℕ → Type 0
MayAsk position need = (is_small (need_of need) && position.spent) ≡ false

-- a small block is given to another caller
abbrev pub gives_another_small : ℕ → Event → Bool
gives_another_small caller (Alloc by words place) = not (by == caller) && is_small (need_of words)
gives_another_small caller event = false

-- a small allocation finds no turn left: an earlier one found that; or as many turns as the limit are accounted for by the lane's answers and the lost
-- exchanges, and also by its answers and the small blocks that others were given up to a moment behind its looks
abbrev pub IsSpent : Setting → Position → ℕ → List Event → Bool → Type 0
IsSpent setting position need piece true = (is_small (need_of need) ≡ true) × (piece ≡ [])
IsSpent setting position need piece false =
    EventsOf setting.caller (alloc_spent need) piece × (setting.turn_limit ≤ position.answered + setting.lost)
    × (moment : Moment setting (position.done ++ piece))
    × (setting.turn_limit ≤ position.answered + count_by (gives_another_small setting.caller) moment.before)

-- an allocation: a block that is given is filled with rising numbers
abbrev pub AllocRow : Setting → Position → ℕ → ℕ → Option HeldBlock → Outcome → List Event → Type 0
AllocRow setting position need v (Some held) outcome.Skipped piece = piece ≡ []
AllocRow setting position need v None (outcome.Given words place) piece =
    MayAsk position need × (words ≡ usable_words (need_of need))
    × (calls : List Event) × EventsOf setting.caller (alloc_given need place) calls
    × (piece ≡ calls ++ filling setting.caller place words v)
AllocRow setting position need v None outcome.Refused piece =
    MayAsk position need × EventsOf setting.caller (alloc_refused need) piece
AllocRow setting position need v None outcome.Spent piece = IsSpent setting position need piece position.spent
AllocRow setting position need v held result piece = ⊥

-- a free gives the held block back
abbrev pub FreeRow : Setting → Option HeldBlock → Outcome → List Event → Type 0
FreeRow setting None outcome.Skipped piece = piece ≡ []
FreeRow setting (Some held) outcome.Freed piece = piece ≡ Free setting.caller held.place ∷ []
FreeRow setting held result piece = ⊥

-- a fill writes every usable word of the held block
abbrev pub FillRow : Setting → ℕ → Option HeldBlock → Outcome → List Event → Type 0
FillRow setting v None outcome.Skipped piece = piece ≡ []
FillRow setting v (Some held) outcome.Filled piece = piece ≡ filling setting.caller held.place held.words v
FillRow setting v held result piece = ⊥

-- a check sums what the held block contains after the lane's events so far
abbrev pub CheckRow : Setting → Position → Option HeldBlock → Outcome → List Event → Type 0
CheckRow setting position None outcome.Skipped piece = piece ≡ []
CheckRow setting position (Some held) (outcome.Sum total) piece =
    (piece ≡ []) × (moment : Moment setting position.done) × (block : Block)
    × (block_at held.place (pool_of moment.before) ≡ Some block) × IsSumOf block.contents total
CheckRow setting position held result piece = ⊥

-- a put lays the held block on the shelf, or finds a block there
abbrev pub PutRow : Setting → Position → ℕ → Option HeldBlock → Outcome → List Event → Type 0
PutRow setting position shelf None outcome.Skipped piece = piece ≡ []
PutRow setting position shelf (Some held) outcome.Put piece = piece ≡ Put setting.caller held.place shelf ∷ []
PutRow setting position shelf (Some held) outcome.ShelfFull piece =
    (piece ≡ []) × (moment : Moment setting position.done) × IsFullShelf (pool_of moment.before) shelf
PutRow setting position shelf held result piece = ⊥

-- a take gets the block that lies on the shelf at that moment, or finds none
abbrev pub TakeRow : Setting → Position → ℕ → Option HeldBlock → Outcome → List Event → Type 0
TakeRow setting position shelf (Some held) outcome.Skipped piece = piece ≡ []
TakeRow setting position shelf None (outcome.Took words place need) piece =
    (piece ≡ Take setting.caller shelf place ∷ []) × (moment : Moment setting position.done) × (block : Block)
    × Begins (moment.before ++ piece) setting.history
    × (block_at place (pool_of moment.before) ≡ Some block) × (words ≡ usable_words block.need)
    × (need ≡ block.need)
TakeRow setting position shelf None outcome.ShelfEmpty piece = piece ≡ TakeNone setting.caller shelf ∷ []
TakeRow setting position shelf held result piece = ⊥

-- the values that a resized block of so many words is written with: those of the held block after the lane's events so far, an unwritten word
-- standing for some number, and 0 past its end
pub record IsCopy (setting : Setting) (position : Position) (held : HeldBlock) (words : ℕ) (value : ℕ → ℕ) : Type 0 where
  pub moment : Moment setting position.done
  pub block : Block
  pub live : block_at held.place (pool_of moment.before) ≡ Some block
  pub each : (i : ℕ) → i < words → IsWord (slice_index_or block.contents i (Some 0)) (value i)

-- a resize leaves a block that has the need; for another one it allocates a block, copies the held block's words there and then frees that block
abbrev pub ResizeRow : Setting → Position → ℕ → Option HeldBlock → Outcome → List Event → Type 0
ResizeRow setting position need None outcome.Skipped piece = piece ≡ []
ResizeRow setting position need (Some held) (outcome.Kept words place) piece =
    (piece ≡ []) × (need_of need ≡ held.need) × (words ≡ held.words) × (place ≡ held.place)
ResizeRow setting position need (Some held) (outcome.Resized words place) piece =
    (need_of need ≢ held.need) × MayAsk position need × (words ≡ usable_words (need_of need))
    × (calls : List Event) × EventsOf setting.caller (alloc_given need place) calls
    × (value : ℕ → ℕ) × IsCopy setting position held words value
    × (piece ≡ calls ++ writing setting.caller place words value ++ Free setting.caller held.place ∷ [])
ResizeRow setting position need (Some held) outcome.Refused piece =
    (need_of need ≢ held.need) × MayAsk position need × EventsOf setting.caller (alloc_refused need) piece
ResizeRow setting position need (Some held) outcome.Spent piece =
    (need_of need ≢ held.need) × IsSpent setting position need piece position.spent
ResizeRow setting position need held result piece = ⊥

-- the operation, whose register holds this, may have this outcome, and then adds this piece to its lane's own events
abbrev pub RowAt : Setting → Position → Op → Option HeldBlock → Outcome → List Event → Type 0
RowAt setting position (op.Alloc r need v) held result piece = AllocRow setting position need v held result piece
RowAt setting position (op.Free r) held result piece = FreeRow setting held result piece
RowAt setting position (op.Fill r v) held result piece = FillRow setting v held result piece
RowAt setting position (op.Check r) held result piece = CheckRow setting position held result piece
RowAt setting position (op.Put r shelf) held result piece = PutRow setting position shelf held result piece
RowAt setting position (op.Take r shelf) held result piece = TakeRow setting position shelf held result piece
RowAt setting position (op.Resize r need) held result piece = ResizeRow setting position need held result piece

abbrev pub FitsRow : Setting → Position → Op → Outcome → List Event → Type 0
FitsRow setting position operation result piece = RowAt setting position operation (held_in position.registers (register_of operation)) result piece
