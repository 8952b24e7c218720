-- A lost install: what it changes, and that everything else stays.
use Rattle.std.proofs.Common.{ℕ, ◌≡◌, ◌<◌, ◌≤◌, ◌+◌, ◌⊎◌, IsTrue}
use Rattle.std.specs.List.{AllByRecursion}
use Rattle.sound_state.proofs.Common.{Geometry, WordName, Site, IsSiteOf, ErrandFields, Point, State, Moves, holds_of, Lists, IsLocated, recalls_of, turn_stage_of}
use Rattle.sound_state.proofs.Common.{anchor_for, is_bound, pops_left, new_anchor, making, IsSo}
use Rattle.errand_steps.specs.tables.TurnStage.{not_needed}
use Rattle.sound_state.proofs.shared.MakingWeights.{installing_holds}
use Rattle.sound_state.proofs.shared.TurnEffects.{StandsFramed, IsQuiet}

-- a point at which a caller pushes the frame of a superblock that isn't needed
pub record StandsDiscarding (p : Point) : Type 0 where
  pub stage : turn_stage_of p ≡ not_needed
  pub pops : pops_left p ≡ 0
  pub quiet : IsQuiet p

-- a caller doesn't install its new superblock, holds it as it did while it made it, and all else stays
pub record Discards (g : Geometry) (s : State) (l : Lists) (caller : ℕ) (at : Site) (e : ErrandFields) (s' : State) : Type 0 where
  pub in_heap : caller < g.callers
  pub moves : Moves s.errand caller e s'.errand
  pub site : IsSiteOf g caller at
  pub bound : IsTrue (is_bound g s l at.desc)
  pub located : IsLocated s at.desc at.frame at.seat.class
  pub anchor : anchor_for s at.desc ≡ new_anchor at.seat.class
  pub words : (n : WordName) → s'.word n ≡ s.word n
  pub history : s'.history ≡ s.history
  pub retired : e.retired ≡ (s.errand caller).retired
  pub turns : e.turns ≡ (s.errand caller).turns
  pub lost : (e.lost ≡ (s.errand caller).lost + 1) ⊎ (e.turns ≤ e.lost)
  pub cleared : e.cleared ≡ (s.errand caller).cleared
  pub holds_before : holds_of (s.errand caller).point ≡ installing_holds at
  pub holds_after : holds_of e.point ≡ making at
  pub recalls_after : AllByRecursion (IsSo g s' l caller) (recalls_of e.point)
  pub stands_before : StandsFramed (s.errand caller).point
  pub stands_after : StandsDiscarding e.point
