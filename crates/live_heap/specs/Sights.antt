-- What a pass sees of its own step.
use Rattle.std.specs.Prelude.{ℕ, suc, ◌≡◌, List, [], ◌∷◌, ◌⊎◌, Contains}
use mathlib.Core.Option.{some}
use lib.ListN.{get_elem?}
use Rattle.atomic_region.specs.Region.{Me}
use Rattle.heap_geometry.specs.declared.geometry.Geometry.{Geometry}
use Rattle.word_table.specs.declared.action.Found.{Found}
use Rattle.word_table.specs.Actions.{found_by}
use Rattle.pool_model.specs.declared.event.Event.{Event}
use Rattle.errand_steps.specs.Begins.{IsIdle}
use Rattle.errand_steps.specs.Calls.{Call, begun_by}
use Rattle.errand_steps.specs.Errands.{ErrandFields, plan_of, settle_of, answer_of}
use Rattle.errand_steps.specs.Steps.{State}
use Rattle.sound_state.specs.Runs.{MayBegin}
use Rattle.owned_words.specs.Leaving.{concerned}
use Rattle.step_machine.specs.Cores.{OwnsAfter, no_errand}
use Rattle.step_machine.specs.Moments.{IsMoment, IsServed}
use Rattle.live_heap.specs.declared.view.Lent.{Lent}
use Rattle.live_heap.specs.declared.view.Standing.{Standing}
use Rattle.live_heap.specs.declared.view.View.{View}
use Rattle.live_heap.specs.Rule.{BeginsWins}
use Rattle.live_heap.specs.Shelves.{AllowedWords, AlwaysByRule}

-- a state with these events, where only they matter
abbrev pub after_events : List Event → State
after_events events = record { word = λ name. 0; errand = λ caller. no_errand; history = events }

-- the errand is the one that the last step left, or one that a call has begun with since, as these events allow it
abbrev pub IsBegun : List Event → ErrandFields → ErrandFields → Type 0
IsBegun events before e =
    (e ≡ before)
    ⊎ ((call : Call) × IsIdle before × MayBegin (after_events events) before.caller call × (e ≡ begun_by before call))

-- what an errand finds where its word holds this number
abbrev pub found_in : ErrandFields → ℕ → Found
found_in e n = found_by (plan_of e) n

-- the caller owns each block whose words are out with the pass, after the events that the pass has seen
abbrev pub AreOwned : View → ℕ → Type 0
AreOwned v caller = (n : ℕ) (b : Lent) → get_elem? v.lent n ≡ some b → OwnsAfter v.seen caller b.place b.need

-- the call under way is about no block whose words are out with the pass
abbrev pub AreApart : View → ErrandFields → Type 0
AreApart v e = (n : ℕ) (b : Lent) → get_elem? v.lent n ≡ some b → ¬ Contains (concerned e.point) b.place

-- a pass that stands for one caller made the step of the errand e, which found n, and saw this view become that one. It is one access more. With one caller nothing is ever lost
pub record TakesStep (e : ErrandFields) (n : ℕ) (v w : View) : Type 0 where
  pub before : Standing
  pub after : Standing
  pub was : v.callers ≡ before ∷ []
  pub now : w.callers ≡ after ∷ []
  pub errand : after.errand ≡ settle_of e (found_in e n)
  pub seen : after.seen ≡ w.seen
  pub accesses : after.accesses ≡ suc before.accesses
  pub wins_seen : BeginsWins v.wins w.wins
  pub moment : IsMoment e (settle_of e (found_in e n)) v.seen w.seen (answer_of e (found_in e n))
  pub served : IsServed e.geometry e.caller (settle_of e (found_in e n)) w.seen
  pub alone : e.geometry.callers ≡ 1 → (settle_of e (found_in e n)).lost ≡ 0
  pub lays : w.lays ≡ v.lays
  pub lent : w.lent ≡ v.lent
  pub mine : AreOwned w e.caller

-- a pass made the step of the errand e, which found n, and holds what it held
abbrev pub Saw : ErrandFields → ℕ → Me View → Me View → Type 0
Saw e n before after = TakesStep e n before.0 after.0 × (after.1 ≡ before.1)

-- and what lay on a shelf kept this rule of words there, as far as the pass has seen the events
abbrev pub SawByRule : AllowedWords → ErrandFields → ℕ → Me View → Me View → Type 0
SawByRule rule e n before after = Saw e n before after × AlwaysByRule rule after.0.seen

-- a pass of this heap, whose errand is e and concerns no block whose words are out, may make a step of it where its view is this one
pub record IsSightOf (g : Geometry) (v : View) (e : ErrandFields) : Type 0 where
  pub before : Standing
  pub one : v.callers ≡ before ∷ []
  pub begun : IsBegun v.seen before.errand e
  pub laid : e.geometry ≡ g
  pub apart : AreApart v e
