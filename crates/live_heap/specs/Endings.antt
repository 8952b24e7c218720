-- A heap that no thread shares any more.
use Rattle.std.specs.Prelude.{ℕ, zero, suc, ◌≡◌, ◌<◌, ◌-◌, ◌^◌, ◌==◌, if◌then◌else◌, count_by, min, sum_by, List, [], ◌∷◌, All, length}
use mathlib.Core.Option.{some}
use lib.ListN.{get_elem?}
use Rattle.atomic_region.specs.Owned.{RegionId}
use Rattle.atomic_region.specs.declared.shared.Seat.{Seat}
use Rattle.heap_geometry.specs.declared.geometry.Geometry.{Geometry}
use Rattle.pool_model.specs.declared.event.Event.{Event}
use Rattle.pool_model.specs.Histories.{Begins, own}
use Rattle.errand_steps.specs.Begins.{IsIdle}
use Rattle.errand_steps.specs.Errands.{ErrandFields}
use Rattle.errand_steps.specs.Openings.{opening, IsOpening}
use Rattle.sound_laws.specs.bounds.Contention.{lost_of, won_of}
use Rattle.sound_state.specs.Moves.{is_step_of}
use Rattle.sound_state.specs.Sums.{callers_sum}
use Rattle.sound_laws.specs.bounds.Wins.{Win}
use Rattle.step_machine.specs.Cores.{CoreFields, IsCore, errand_at, no_errand}
use Rattle.live_heap.specs.Heaps.{HeapFields}
use Rattle.live_heap.specs.declared.pass.Pass.{Pass}
use Rattle.live_heap.specs.declared.view.Standing.{Standing}
use Rattle.live_heap.specs.declared.view.View.{View}
use Rattle.live_heap.specs.Passes.{IsOf, accesses, seen}

-- the heap's numbers, the region of memory in which it lay, its words, the errand of each caller, the whole history, and all that callers won from each other
pub record ClosedFields : Type 0 where
  pub geometry : Geometry
  pub region : RegionId
  pub words : List ℕ
  pub errands : List ErrandFields
  pub events : List Event
  pub wins : List Win

-- the machine that a closed heap is, where so many steps have led to it
abbrev pub machine_of : ClosedFields → ℕ → CoreFields
machine_of c steps =
    record { geometry = c.geometry; words = c.words; errands = c.errands; events = c.events; steps = steps }

-- a closed heap at rest: moves of the callers led to it from the opening, and made its history and wins; and all callers are idle
pub record IsResting (c : ClosedFields) : Type 0 where
  pub steps : ℕ
  pub core : IsCore (machine_of c steps)
  pub opened : IsOpening c.geometry (opening c.geometry) core.run.first
  pub wins : core.run.wins.list ≡ c.wins
  pub idle : (caller : ℕ) → caller < c.geometry.callers → IsIdle (errand_at c.errands caller)

-- the errand of the caller with this number; none where there is no such caller
abbrev pub errand_in : List Standing → ℕ → ErrandFields
errand_in [] caller = no_errand
errand_in (x ∷ xs) caller = if x.errand.caller == caller then x.errand else errand_in xs caller

-- the errands of so many callers, from a number on
abbrev pub errands_from : List Standing → ℕ → ℕ → List ErrandFields
errands_from callers caller zero = []
errands_from callers caller (suc more) = errand_in callers caller ∷ errands_from callers (suc caller) more

-- the closed heap that the region, its words and the view of the last pass make
abbrev pub closed_with : Geometry → RegionId → List ℕ → View → ClosedFields
closed_with g z words v =
    record { geometry = g; region = z; words = words; errands = errands_from v.callers 0 g.callers; events = v.seen; wins = v.wins }

-- a closed heap has the errand of the pass's caller that the pass had; its history begins with what the pass had seen, and has no other event of that caller
pub record HasTakenIn (c : ClosedFields) (p : Pass) : Type 0 where
  pub errand : errand_at c.errands p.errand.caller ≡ p.errand
  pub seen_before : Begins (seen p) c.events
  pub events : own p.errand.caller c.events ≡ own p.errand.caller (seen p)

-- the view stands for all callers, each of them in no call, and no block's words are out with it
pub record IsAtRest (g : Geometry) (v : View) : Type 0 where
  pub all : length v.callers ≡ g.callers
  pub home : v.lent ≡ []
  pub idle : All (λ x. IsIdle x.errand) v.callers

-- these are all passes of the heap, each in no call
pub record AreAllIdle (h : HeapFields) (passes : List Pass) : Type 0 where
  pub all : length passes ≡ h.layout.callers
  pub each : All (λ p. IsOf h p × IsIdle p.errand) passes

-- this very heap was closed, with these passes
pub record HasClosed (h : HeapFields) (passes : List Pass) (c : ClosedFields) : Type 0 where
  pub heap : c.geometry ≡ h.layout
  pub table : c.region ≡ h.region
  pub each : All (HasTakenIn c) passes

-- among the moves that led to a closed heap are just as many steps of each pass's caller as the pass counts accesses
pub record HasAccesses (c : ClosedFields) (passes : List Pass) : Type 0 where
  pub rests : IsResting c
  pub each : All (λ p. accesses p ≡ count_by (is_step_of p.errand.caller) rests.core.run.moves) passes

-- so many exchanges were won and lost in a closed heap by all callers together, as counts of 64 bits have it
abbrev pub IsCounted : ClosedFields → ℕ → ℕ → Type 0
IsCounted c won lost =
    (won ≡ min (callers_sum c.geometry won_of (errand_at c.errands)) (2 ^ 64 - 1))
    × (lost ≡ min (callers_sum c.geometry lost_of (errand_at c.errands)) (2 ^ 64 - 1))

-- the view stands for the pass's caller, with the errand that the pass has, what it has seen and the accesses that it counts
pub record IsIn (v : View) (p : Pass) : Type 0 where
  pub number : ℕ
  pub standing : Standing
  pub at : get_elem? v.callers number ≡ some standing
  pub errand : standing.errand ≡ p.errand
  pub seen_last : standing.seen ≡ seen p
  pub counted : standing.accesses ≡ accesses p

-- all passes are taken in by the seat, and won and lost so many exchanges together
pub record IsGathered (h : HeapFields) (passes : List Pass) (seat : Seat View) (won lost : ℕ) : Type 0 where
  pub table : seat.region ≡ h.region
  pub empty : seat.me.1 ≡ []
  pub each : All (IsIn seat.me.0) passes
  pub all : length seat.me.0.callers ≡ h.layout.callers
  pub idle : All (λ x. IsIdle x.errand) seat.me.0.callers
  pub home : seat.me.0.lent ≡ []
  pub won_is : won ≡ min (sum_by (λ x. x.errand.won) seat.me.0.callers) (2 ^ 64 - 1)
  pub lost_is : lost ≡ min (sum_by (λ x. x.errand.lost) seat.me.0.callers) (2 ^ 64 - 1)
