-- What the machine holds, and the rule that it keeps.
use Rattle.std.specs.Prelude.{ℕ, ◌≡◌, ◌<◌, ◌-◌, ◌^◌, ◌⊎◌, ◌++◌, min, if◌then◌else◌, List, [], ◌∷◌, Some, length, count_by, slice_index_or, slice_set}
use Rattle.heap_geometry.specs.declared.geometry.Geometry.{Geometry}
use Rattle.heap_geometry.specs.declared.limits.TheConstants.{CLASSES}
use Rattle.heap_geometry.specs.declared.need.Need.{Need}
use Rattle.heap_geometry.specs.Geometry.{IsChecked}
use Rattle.word_table.specs.Counts.{word_count}
use Rattle.word_table.specs.Words.{word_in}
use Rattle.pool_model.specs.declared.event.Event.{Event}
use Rattle.pool_model.specs.declared.owner.Owner.TheVariants.{Caller}
use Rattle.pool_model.specs.Pool.{Block, block_at, pool_of}
use Rattle.errand_steps.specs.Errands.{ErrandFields, one_more, open_errand}
use Rattle.errand_steps.specs.Openings.{opening, installed, IsOpening}
use Rattle.errand_steps.specs.Steps.{State}
use Rattle.sound_laws.specs.bounds.Made.{ReachesWith, made_by}
use Rattle.sound_state.specs.Moves.{is_step}
use Rattle.sound_state.specs.Runs.{Move}
use Rattle.sound_laws.specs.bounds.Wins.{Wins, no_wins}

-- the heap's numbers, the table of its words, the errand of each caller, the events so far, and how many steps were made
pub record CoreFields : Type 0 where
  pub geometry : Geometry
  pub words : List ℕ
  pub errands : List ErrandFields
  pub events : List Event
  pub steps : ℕ

-- the errand of a caller that there isn't
abbrev pub no_errand : ErrandFields
no_errand = open_errand 0 (record { frames = 0; heaps = 0; units = 0; callers = 0; turn_limit = 0 })

-- the errand of a caller
abbrev pub errand_at : List ErrandFields → ℕ → ErrandFields
errand_at errands caller = slice_index_or errands caller no_errand

-- the machine with another errand for one caller, and nothing else changed
abbrev pub with_errand : CoreFields → ℕ → ErrandFields → CoreFields
with_errand c caller e = record c { errands = slice_set c.errands caller e }

-- the machine seen as words by their names, errands by their callers and events
abbrev pub state_of : CoreFields → State
state_of c = record { word = word_in c.geometry c.words; errand = errand_at c.errands; history = c.events }

-- a state before the first step: the heap is as it opens, or has a superblock of some class installed
abbrev pub IsFirst : Geometry → State → Type 0
IsFirst g s = IsOpening g (opening g) s ⊎ ((class : ℕ) × (class < CLASSES) × IsOpening g (installed g class) s)

-- callers' moves have led to the state from one in which no step was made, with so many steps among them, as a count of 64 bits has it; and these are the wins and the notes that their steps made
pub record IsReached (g : Geometry) (s : State) (made : ℕ) : Type 0 where
  pub checked : IsChecked g
  pub first : State
  pub opens : IsFirst g first
  pub moves : List Move
  pub wins : Wins
  pub reaches : ReachesWith g first no_wins moves s wins
  pub steps : made ≡ min (count_by is_step moves) (2 ^ 64 - 1)

-- so many steps, with those of one more move
abbrev pub made_with : ℕ → Move → ℕ
made_with made move = if is_step move then one_more made else made

-- the second run is the first one with this move behind it, and its wins are what that move makes of the first one's
pub record IsLonger (g : Geometry) (s s' : State) (made made' : ℕ) (run : IsReached g s made) (move : Move) (next : IsReached g s' made') : Type 0 where
  pub first : next.first ≡ run.first
  pub moves : next.moves ≡ run.moves ++ move ∷ []
  pub wins : next.wins ≡ made_by s move run.wins

-- each caller has its errand, all words of the table are there; and moves of the callers have reached the state, with as many steps as are counted
pub record IsCore (c : CoreFields) : Type 0 where
  pub words : length c.words ≡ word_count c.geometry
  pub errands : length c.errands ≡ c.geometry.callers
  pub run : IsReached c.geometry (state_of c) c.steps

-- after these events the caller owns the live block at the place, and that serves this need
abbrev pub OwnsAfter : List Event → ℕ → ℕ → Need → Type 0
OwnsAfter events caller place need =
    (block : Block) × (block_at place (pool_of events) ≡ Some block) × (block.owner ≡ Caller caller) × (block.need ≡ need)

-- by a machine's events the caller owns the live block at the place, and that serves this need
abbrev pub OwnsBlock : CoreFields → ℕ → ℕ → Need → Type 0
OwnsBlock c caller place need = OwnsAfter c.events caller place need
