-- The sound state of the machine.
use Rattle.std.specs.Prelude.{ℕ, ◌≡◌, ◌<◌, ◌^◌, Some}
use Rattle.heap_geometry.specs.declared.geometry.Geometry.{Geometry}
use Rattle.heap_geometry.specs.Geometry.{IsChecked}
use Rattle.word_table.specs.declared.name.WordName.{WordName}
use Rattle.pool_model.specs.declared.event.Event.{Event}
use Rattle.pool_model.specs.Legal.{IsCounted, IsLegal, IsLegalWithoutCounts}
use Rattle.pool_model.specs.Pool.{pool_of}
use Rattle.errand_steps.specs.Errands.{ErrandFields, IsErrand}
use Rattle.errand_steps.specs.Steps.{State, event_at}
use Rattle.sound_state.specs.Frames.{IsFramed}
use Rattle.sound_state.specs.Guards.{IsGuarded}
use Rattle.sound_state.specs.Keepers.{IsKept}
use Rattle.sound_state.specs.Lists.{Lists, IsListed}
use Rattle.sound_state.specs.Recalls.{IsRemembered}
use Rattle.sound_state.specs.Stock.{IsStocked}
use Rattle.sound_state.specs.Superblocks.{AreChained}
use Rattle.sound_state.specs.Ties.{IsTied}
use Rattle.sound_state.specs.Turns.{IsTurned}

-- the state with the same words and events, and with these errands
abbrev pub with_errands : State → (ℕ → ErrandFields) → State
with_errands s errands = record { word = s.word; errand = errands; history = s.history }

-- the errand is this caller's, in this heap, keeps its rule, and counts in 64 bits
pub record IsOwnErrand (g : Geometry) (caller : ℕ) (e : ErrandFields) : Type 0 where
  pub number : e.caller ≡ caller
  pub geometry : e.geometry ≡ g
  pub rule : IsErrand e
  pub lost : e.lost < 2 ^ 64

-- each word is one of 64 bits, and each errand its caller's own
pub record IsFormed (g : Geometry) (s : State) : Type 0 where
  pub words : (n : WordName) → s.word n < 2 ^ 64
  pub errands : (caller : ℕ) → caller < g.callers → IsOwnErrand g caller (s.errand caller)

-- the words, the errands and the events of the state go together, with these lists
pub record IsSoundWith (g : Geometry) (s : State) (l : Lists) : Type 0 where
  pub formed : IsFormed g s
  pub listed : IsListed g s.word l
  pub kept : IsKept g s l
  pub chained : AreChained g s l
  pub framed : IsFramed g s l
  pub remembered : IsRemembered g s l
  pub guarded : IsGuarded g s
  pub stocked : IsStocked g s l
  pub turned : IsTurned g s l
  pub tied : IsTied g s l

-- the state is sound, but for how many frames a look or a refusal leaves
pub record IsSoundWithoutCounts (g : Geometry) (s : State) : Type 0 where
  pub checked : IsChecked g
  pub legal : IsLegalWithoutCounts g s.history
  pub parts : (l : Lists) × IsSoundWith g s l

-- the state is sound
pub record IsSound (g : Geometry) (s : State) : Type 0 where
  pub checked : IsChecked g
  pub legal : IsLegal g s.history
  pub parts : (l : Lists) × IsSoundWith g s l

-- what a caller tells next, if anything, has its number: a look finds few part-used frames of its class, and a refusal few bare frames
abbrev pub TellsCounted : Geometry → State → ℕ → Type 0
TellsCounted g s caller = (e : Event) → event_at s caller ≡ Some e → IsCounted g (pool_of s.history) e
