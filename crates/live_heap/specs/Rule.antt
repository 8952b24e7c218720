-- The rule of the heap's words: they, the errands and what the passes have seen are a state that callers reach from the opening.
use Rattle.std.specs.Prelude.{ℕ, ◌≡◌, ◌<◌, ◌≤◌, if◌then◌else◌, nat_lt, List, ◌++◌, length, count_by}
use mathlib.Core.Option.{some}
use lib.ListN.{get_elem?}
use Rattle.atomic_table.specs.Table.{State as TableState}
use Rattle.live_heap.specs.placement.Places.{placed_count, words_at}
use Rattle.heap_geometry.specs.declared.geometry.Geometry.{Geometry}
use Rattle.word_table.specs.Counts.{word_count}
use Rattle.word_table.specs.Words.{word_in}
use Rattle.pool_model.specs.declared.event.Event.{Event}
use Rattle.pool_model.specs.Histories.{Begins, own}
use Rattle.errand_steps.specs.Errands.{ErrandFields, open_errand}
use Rattle.errand_steps.specs.Openings.{opening, IsOpening}
use Rattle.errand_steps.specs.Steps.{State}
use Rattle.sound_laws.specs.bounds.Contention.{is_by}
use Rattle.sound_state.specs.Moves.{is_step_of}
use Rattle.sound_state.specs.Runs.{Move}
use Rattle.sound_laws.specs.bounds.Wins.{Win}
use Rattle.step_machine.specs.Cores.{IsReached, no_errand}
use Rattle.live_heap.specs.declared.view.Standing.{Standing}
use Rattle.live_heap.specs.declared.view.View.{View}
use Rattle.live_heap.specs.Shelves.{AllowedWords, AlwaysByRule}

-- the words of a table, the errand of each caller, and the events so far
abbrev pub state_with : Geometry → List ℕ → (ℕ → ErrandFields) → List Event → State
state_with g words errands events = record { word = word_in g words; errand = errands; history = events }

-- the errands before the first step; of callers that the heap hasn't, none
abbrev pub first_errands : Geometry → ℕ → ErrandFields
first_errands g caller = if nat_lt caller g.callers then open_errand caller g else no_errand

-- the longer list of wins begins with the shorter one
abbrev pub BeginsWins : List Win → List Win → Type 0
BeginsWins shorter longer = (rest : List Win) × (longer ≡ shorter ++ rest)

-- a caller that a pass stands for: its errand is the one that its last step left, it had seen a beginning of the events then and all of its own, and the pass has seen as much, and all that it won; and it counts its steps among these moves. `place` says which pass stands for a caller, and as which of its callers
pub record IsStanding (g : Geometry) (errands : ℕ → ErrandFields) (events : List Event) (wins : List Win) (moves : List Move) (place : ℕ → ℕ × ℕ) (id : ℕ) (v : View) (number : ℕ) (x : Standing) : Type 0 where
  pub has : x.errand.caller < g.callers
  pub at_place : place x.errand.caller ≡ (id, number)
  pub errand : errands x.errand.caller ≡ x.errand
  pub seen : Begins x.seen events
  pub own_seen : own x.errand.caller x.seen ≡ own x.errand.caller events
  pub seen_within : Begins x.seen v.seen
  pub wins_seen : count_by (is_by x.errand.caller) v.wins ≡ count_by (is_by x.errand.caller) wins
  pub counted : x.accesses ≡ count_by (is_step_of x.errand.caller) moves

-- a pass has seen a beginning of the events and of the wins
pub record Stands (g : Geometry) (errands : ℕ → ErrandFields) (events : List Event) (wins : List Win) (moves : List Move) (place : ℕ → ℕ × ℕ) (id : ℕ) (v : View) : Type 0 where
  pub seen : Begins v.seen events
  pub wins_seen : BeginsWins v.wins wins
  pub each : (number : ℕ) (x : Standing) → get_elem? v.callers number ≡ some x → IsStanding g errands events wins moves place id v number x

-- there are errands and events with which the words are a state that moves of the callers reached from the opening; and each pass has seen a part of it, and of what those moves won, and counts its own steps among them; and what lies on a shelf keeps the rule of words there, and always did
pub record KeptTable (rule : AllowedWords) (g : Geometry) (words : List ℕ) (views : List View) : Type 0 where
  pub whole : length words ≡ word_count g
  pub errands : ℕ → ErrandFields
  pub nobody : (caller : ℕ) → g.callers ≤ caller → errands caller ≡ no_errand
  pub events : List Event
  pub made : ℕ
  pub run : IsReached g (state_with g words errands events) made
  pub opened : IsOpening g (opening g) run.first
  pub place : ℕ → ℕ × ℕ
  pub each : (id : ℕ) (v : View) → get_elem? views id ≡ some v → Stands g errands events run.wins.list run.moves place id v
  pub by_rule : AlwaysByRule rule events

-- the rule of a table: its words and its passes' views are kept
abbrev pub TableHolds : {S : Type 0} → AllowedWords → Geometry → TableState S View → Type 0
TableHolds rule g s = KeptTable rule g s.words s.views

-- the same of words in memory, where each lies at its place
abbrev pub WordsHold : AllowedWords → Geometry → List ℕ → List View → Type 0
WordsHold rule g words views = (length words ≡ placed_count g) × KeptTable rule g (words_at g words) views
