-- How long a guard lasts.
use Rattle.std.specs.Prelude.{ℕ, ◌≡◌, ◌≢◌, ◌<◌, ◌+◌, Some, List, [], ◌∷◌, Contains, slice_index}
use Rattle.heap_geometry.specs.declared.geometry.Geometry.{Geometry}
use Rattle.word_table.specs.declared.action.Action.TheVariants.{Store}
use Rattle.word_table.specs.declared.name.WordName.TheVariants as name
use Rattle.word_table.specs.Occurs.{occurs}
use Rattle.errand_steps.specs.Fits.{pushed_by}
use Rattle.errand_steps.specs.Steps.{State, action_at}
use Rattle.sound_state.specs.Guards.{passed_by, held_by}
use Rattle.sound_state.specs.Lists.{Lists, IsListed}
use Rattle.sound_state.specs.Runs.{Move, begins, steps, Moved}

-- the caller's hazard word names the descriptor; nobody is about to push it; and whoever has retired it and has passed that word in a scan has noted it
pub record IsGuardedBy (g : Geometry) (s : State) (caller d : ℕ) : Type 0 where
  pub word : s.word (name.Hazard caller) ≡ d + 1
  pub pushed : (other : ℕ) → other < g.callers → pushed_by (s.errand other).point ≢ Some d
  pub passed :
      (other : ℕ) → other < g.callers → Contains (s.errand other).retired d → caller < passed_by (s.errand other).point
      → slice_index (held_by (s.errand other).point) caller ≡ d + 1

-- the descriptor is on the available stack; the lists are those that the heads and the next words make
pub record IsAvailable (g : Geometry) (s : State) (d : ℕ) : Type 0 where
  pub lists : Lists
  pub listed : IsListed g s.word lists
  pub here : 0 < occurs d lists.available

-- the caller's next step stores to its own hazard word
abbrev pub StoresHazard : State → ℕ → Type 0
StoresHazard s caller = (new : ℕ) × (action_at s caller ≡ Store (name.Hazard caller) new)

-- the move isn't a step by which this caller stores to its own hazard word
abbrev pub LeavesHazard : State → ℕ → Move → Type 0
LeavesHazard s caller (begins other call) = Unit {0}
LeavesHazard s caller (steps other) = other ≡ caller → StoresHazard s caller → ⊥

-- these moves of any callers lead from one state to the other; in none of them does this caller store to its own hazard word
abbrev pub ReachesUnstored : Geometry → ℕ → State → List Move → State → Type 0
ReachesUnstored g caller s [] s' = s' ≡ s
ReachesUnstored g caller s (move ∷ rest) s' =
    (next : State) × LeavesHazard s caller move × Moved g s move next × ReachesUnstored g caller next rest s'
