-- What the script's rounds leave.
use Rattle.std.specs.Prelude.{ℕ, zero, suc, ◌≡◌, ◌+◌, ◌%◌, List, [], ◌∷◌, count_by, length, map}
use Rattle.pool_model.specs.declared.event.Event.{Event}
use Rattle.pool_model.specs.Counts.{is_alloc, is_free}
use Rattle.pool_model.specs.Histories.{Begins, own}
use Rattle.sound_laws.specs.events.Made.{LeadsBy, Made}
use Rattle.live_heap.specs.Heaps.{HeapFields}
use Rattle.live_heap.specs.declared.pass.Pass.{Pass}
use Rattle.live_heap.specs.Contents.{owned_after}
use Rattle.live_heap.specs.Passes.{IsFresh, seen}
use Rattle.live_heap.specs.Whole.{MadeByPass}
use Rattle.typed_store.specs.declared.slot.Slot.{Slot}
use Rattle.typed_store.specs.declared.store.Store.{Store}
use Rattle.typed_store.specs.Nodes.{Spells}
use Rattle.typed_store.specs.Passings.{freed_in, given_in}
use Rattle.typed_store.specs.Stores.{HasList, HasRecords, IsReady}

-- the pairs of the last rounds up to this one, the latest first, so many where there are as many: a round's value is its number, counted from 1, and its key that modulo 7
abbrev pub latest : ℕ → ℕ → List (ℕ × ℕ)
latest round zero = []
latest zero (suc many) = []
latest (suc round) (suc many) = (suc round % 7, suc round) ∷ latest round many

-- the rounds leave the pairs of the last seven
abbrev pub list_after : ℕ → List (ℕ × ℕ)
list_after rounds = latest rounds 7

abbrev pub values_of : List (ℕ × ℕ) → List ℕ
values_of pairs = map (λ pair. pair.1) pairs

-- after these events the blocks of caller 0 spell what so many rounds leave; it was given a block in each of them, and has freed all but those of the list
pub record IsRound (rounds : ℕ) (events : List Event) : Type 0 where
  pub slots : List Slot
  pub head : ℕ
  pub list : Spells (owned_after events 0) slots head (list_after rounds)
  pub given : count_by is_alloc (own 0 events) ≡ rounds
  pub freed : count_by is_free (own 0 events) + length (list_after rounds) ≡ rounds

-- the rounds were played, one after the other: these events begin with those behind which the round before stood, and there was none before the first
abbrev pub HasPlayed : ℕ → List Event → Type 0
HasPlayed zero events = events ≡ []
HasPlayed (suc rounds) events = (before : List Event) × HasPlayed rounds before × Begins before events × IsRound (suc rounds) events

-- whole calls led from a new pass to this one
pub record HasComeTo (h : HeapFields) (p : Pass) : Type 0 where
  pub first : Pass
  pub fresh : IsFresh h first
  pub made : List Made
  pub led : LeadsBy MadeByPass first made p

-- the store stands behind so many rounds: each was given a block, and all blocks but those of the list are freed
pub record IsBehind (h : HeapFields) (rounds : ℕ) (s : Store) : Type 0 where
  pub ready : IsReady h s
  pub caller : s.pass.errand.caller ≡ 0
  pub list : HasList s (list_after rounds)
  pub records : HasRecords s []
  pub come : HasComeTo h s.pass
  pub played : HasPlayed rounds (seen s.pass)
  pub given : given_in s.pass ≡ rounds
  pub freed : freed_in s.pass + length (list_after rounds) ≡ rounds
