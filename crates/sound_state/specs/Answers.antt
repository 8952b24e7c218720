-- What the answer of a call means, in the state in which its last step leaves it.
use Rattle.std.specs.Prelude.{ℕ, ◌≡◌, ◌≢◌, ◌<◌, ◌+◌, ◌⊎◌, Some, None, slice_index_or}
use Rattle.heap_geometry.specs.declared.geometry.Geometry.{Geometry}
use Rattle.heap_geometry.specs.declared.need.Need.{Need}
use Rattle.heap_geometry.specs.declared.need.Need.TheVariants as need
use Rattle.heap_geometry.specs.Need.{need_of, usable_words}
use Rattle.packed_words.specs.declared.shelf.ShelfWord.TheVariants as lies
use Rattle.packed_words.specs.Shelf.{shelf_word}
use Rattle.word_table.specs.declared.name.WordName.TheVariants as name
use Rattle.step_parts.specs.declared.large.point.LargePoint.{LargePoint}
use Rattle.step_parts.specs.declared.large.point.LargePoint.TheVariants as large
use Rattle.step_parts.specs.large.Runs.{RunFields}
use Rattle.pool_model.specs.declared.event.Event.{Event}
use Rattle.pool_model.specs.declared.event.Event.TheVariants.{Refuse, Free, Write, Put, Take, TakeNone}
use Rattle.pool_model.specs.declared.owner.Owner.TheVariants.{Caller, Shelf}
use Rattle.pool_model.specs.Histories.{own}
use Rattle.pool_model.specs.Legal.{IsEmptyShelf}
use Rattle.pool_model.specs.Pool.{Block, pool_of}
use Rattle.errand_steps.specs.declared.continuation.Continuation.{Continuation}
use Rattle.errand_steps.specs.declared.continuation.Continuation.TheVariants as continuation
use Rattle.errand_steps.specs.declared.point.Point.{Point}
use Rattle.errand_steps.specs.declared.point.Point.TheVariants as point
use Rattle.errand_steps.specs.declared.reply.Reply.{Reply}
use Rattle.errand_steps.specs.declared.reply.Reply.TheVariants as reply
use Rattle.errand_steps.specs.Steps.{State, event_at}
use Rattle.sound_state.specs.Recalls.{EndsRefused, IsOwned}
use Rattle.sound_state.specs.Ties.{IsLive}

-- what waits behind the part in which a caller is; nothing where it is in no call
abbrev pub continuation_at : Point → Continuation
continuation_at point.Idle = continuation.Nothing
continuation_at (point.Block p o) = o
continuation_at (point.Stack p o) = o
continuation_at (point.Desc p o) = o
continuation_at (point.Partial p o) = o
continuation_at (point.Large p o) = o

-- the caller's call is an allocation of so many usable words
abbrev pub Allocates : State → ℕ → ℕ → Type 0
Allocates s caller words = continuation_at (s.errand caller).point ≡ continuation.Alloc words

-- the caller's next step is that of this point of a large block, a usable word or a shelf
abbrev pub StandsAt : State → ℕ → LargePoint → Type 0
StandsAt s caller p = (o : Continuation) × ((s.errand caller).point ≡ point.Large p o)

-- the caller's next step is that of this point of a large block, a usable word or a shelf, and tells this event
abbrev pub TellsAt : State → ℕ → LargePoint → Event → Type 0
TellsAt s caller p event = StandsAt s caller p × (event_at s caller ≡ Some event)

-- a live block lies on the shelf, and the word names it; the shelf is empty, and the word says so
abbrev pub ShelfHolds : State → ℕ → ℕ → Type 0
ShelfHolds s k word =
    (b : Block) × IsLive s b.place b × (b.owner ≡ Shelf k) × (word ≡ shelf_word (lies.Block b.place b.need))

abbrev pub ShelfIsEmpty : State → ℕ → ℕ → Type 0
ShelfIsEmpty s k word = IsEmptyShelf (pool_of s.history) k × (word ≡ shelf_word lies.Nothing)

-- the caller's allocation is given the block: it serves the words that were asked for, and the caller owns it
abbrev pub IsGiven : State → ℕ → ℕ → Need → State → Type 0
IsGiven s caller place n after = (words : ℕ) × Allocates s caller words × (need_of words ≡ n) × IsOwned after caller place n

-- the caller's allocation is refused: its last events are a look in vain and a refusal, or its step's event refuses a large need
abbrev pub IsRefused : State → ℕ → State → Type 0
IsRefused s caller after =
    ((class : ℕ) × EndsRefused (own caller after.history) caller class)
    ⊎ ((words : ℕ) × (units : ℕ) × Allocates s caller words × (need_of words ≡ need.Large units) × (event_at s caller ≡ Some (Refuse caller words)))

-- a step that frees a large block tells so; a small block's free mostly is an earlier step's, which the whole call's events show
abbrev pub IsFreed : State → ℕ → Type 0
IsFreed s caller = (place : ℕ) (run : RunFields) → StandsAt s caller (large.FreeRun place run) → event_at s caller ≡ Some (Free caller place)

-- the word was read in a live block of the caller's; where it was written it is what the block holds there
abbrev pub IsRead : State → ℕ → ℕ → State → Type 0
IsRead s caller v after =
    (place : ℕ) × (i : ℕ) × (b : Block) × StandsAt s caller (large.LoadWord place i) × IsLive after place b × (b.owner ≡ Caller caller)
    × (i < usable_words b.need) × (v ≡ after.word (name.Arena (place + 1 + i)))
    × ((w : ℕ) → slice_index_or b.contents i None ≡ Some w → v ≡ w)

-- a put finds another block on the shelf, whose word was found; the caller still owns the block that it has not put there
abbrev pub IsFull : State → ℕ → ℕ → State → Type 0
IsFull s caller found after =
    (shelf : ℕ) × (place : ℕ) × (n : Need) × StandsAt s caller (large.PutBlock shelf place n) × IsOwned after caller place n
    × ShelfHolds after shelf found

-- a take's step takes the block that lay on the shelf, and the caller owns it
abbrev pub IsGot : State → ℕ → ℕ → Need → State → Type 0
IsGot s caller place n after =
    (shelf : ℕ) × TellsAt s caller (large.TakeBlock shelf place n) (Take caller shelf place) × IsOwned after caller place n

-- the caller is about to take what it saw on the shelf, a block or nothing
abbrev pub IsAboutToTake : State → ℕ → ℕ → ℕ → Type 0
IsAboutToTake s caller shelf saw =
    ((place : ℕ) × (n : Need) × StandsAt s caller (large.TakeBlock shelf place n) × (saw ≡ shelf_word (lies.Block place n)))
    ⊎ (StandsAt s caller (large.ConfirmNothing shelf) × (saw ≡ shelf_word lies.Nothing))

-- something else lies on the shelf now than the caller saw there
abbrev pub IsMissed : State → ℕ → ℕ → ℕ → State → Type 0
IsMissed s caller saw found after =
    (shelf : ℕ) × IsAboutToTake s caller shelf saw × (saw ≢ found) × (ShelfHolds after shelf found ⊎ ShelfIsEmpty after shelf found)

-- what the answer of the caller's last step of a call says of that step, from one state to the other
abbrev pub IsMeant : Geometry → State → ℕ → Reply → State → Type 0
IsMeant g s caller (reply.Given place n) after = IsGiven s caller place n after
IsMeant g s caller reply.Refused after = IsRefused s caller after
IsMeant g s caller reply.Spent after = (after.errand caller).turns ≡ g.turn_limit
IsMeant g s caller reply.Freed after = IsFreed s caller
IsMeant g s caller reply.Wrote after =
    (place : ℕ) × (i : ℕ) × (v : ℕ) × TellsAt s caller (large.StoreWord place i v) (Write caller place i v)
IsMeant g s caller (reply.Word v) after = IsRead s caller v after
IsMeant g s caller reply.Put after =
    (place : ℕ) × (shelf : ℕ) × (n : Need) × TellsAt s caller (large.PutBlock shelf place n) (Put caller place shelf)
IsMeant g s caller (reply.Full found) after = IsFull s caller found after
IsMeant g s caller (reply.Got place n) after = IsGot s caller place n after
IsMeant g s caller reply.Empty after = (shelf : ℕ) × TellsAt s caller (large.ConfirmNothing shelf) (TakeNone caller shelf)
IsMeant g s caller (reply.Missed saw found) after = IsMissed s caller saw found after
