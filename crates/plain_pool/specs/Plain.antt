-- What callers see of a plain pool, and which place it gives.
use Rattle.std.specs.Prelude.{ℕ, ◌≤◌, ◌<◌, ◌≡◌, ◌⊎◌, List, [], ◌∷◌, ◌++◌, Option, Some, None, slice_index_or, unwrap_or}
use Rattle.heap_geometry.specs.declared.geometry.Geometry.{Geometry}
use Rattle.heap_geometry.specs.declared.need.Need.{Need}
use Rattle.heap_geometry.specs.declared.need.Need.TheVariants.{Small, Large, TooLarge}
use Rattle.heap_geometry.specs.Need.{usable_words}
use Rattle.heap_geometry.specs.Place.{frame_of}
use Rattle.pool_model.specs.declared.owner.Owner.TheVariants.{Caller}
use Rattle.pool_model.specs.declared.event.Event.{Event}
use Rattle.pool_model.specs.declared.event.Event.TheVariants.{Looked, Refuse}
use Rattle.pool_model.specs.Pool.{Block, Pool, block_at, pool_of}
use Rattle.pool_model.specs.Legal.{IsFree, IsFreeBlock, IsFreeRun}

-- a plain pool: the numbers that it was opened with, and its events so far
pub record PlainState : Type 0 where
  pub geometry : Geometry
  pub events : List Event

-- the live blocks of a plain pool
abbrev pub pool_in : PlainState → Pool
pool_in state = pool_of state.events

-- the new pool is the old one with these events at its end
abbrev pub AddsEvents : PlainState → PlainState → List Event → Type 0
AddsEvents old new events = new ≡ record { geometry = old.geometry; events = old.events ++ events }

-- the least number with a property
pub record IsLeast (P : ℕ → Type 0) (n : ℕ) : Type 0 where
  pub holds : P n
  pub least : (k : ℕ) → P k → n ≤ k

-- a block is live in the frame
abbrev pub HoldsBlock : Pool → ℕ → Type 0
HoldsBlock pool frame = (block : Block) × (block_at block.place pool ≡ Some block) × (frame_of block.place ≡ frame)

-- a block of the class can be given at the place, in a frame that holds a live block already
abbrev pub IsBeside : Geometry → Pool → ℕ → ℕ → Type 0
IsBeside g pool class place = IsFreeBlock g pool class place × HoldsBlock pool (frame_of place)

-- the place that a plain pool gives: a small need the least one beside live blocks, or where there is none the least of all; a large need the least run
abbrev pub IsChosen : Geometry → Pool → Need → ℕ → Type 0
IsChosen g pool (Small class) place =
    IsLeast (IsBeside g pool class) place
    ⊎ (((other : ℕ) → ¬ IsBeside g pool class other) × IsLeast (IsFreeBlock g pool class) place)
IsChosen g pool (Large units) place = IsLeast (IsFreeRun g pool units) place
IsChosen g pool TooLarge place = ⊥

-- no block that serves the need can be given
abbrev pub IsFull : Geometry → Pool → Need → Type 0
IsFull g pool need = (place : ℕ) → ¬ IsFree g pool need place

-- the events of a refusal: a small need is looked for once
abbrev pub refusal_of : ℕ → ℕ → Need → List Event
refusal_of caller need (Small class) = Looked caller class ∷ Refuse caller need ∷ []
refusal_of caller need (Large units) = Refuse caller need ∷ []
refusal_of caller need TooLarge = []

-- the caller owns the live block at the place, which has such a word
abbrev pub OwnsWord : Pool → ℕ → ℕ → ℕ → Type 0
OwnsWord pool caller place i =
    (block : Block) × (block_at place pool ≡ Some block) × (block.owner ≡ Caller caller) × (i < usable_words block.need)

-- what a word of a live block holds: 0 where it was not written
abbrev pub word_in : Option Block → ℕ → ℕ
word_in None i = 0
word_in (Some block) i = unwrap_or (slice_index_or block.contents i None) 0

-- the words of a live block
abbrev pub HasWords : Pool → ℕ → ℕ → Type 0
HasWords pool place words = (block : Block) × (block_at place pool ≡ Some block) × (words ≡ usable_words block.need)
