-- A won install: what it changes, and that everything else stays.
use Rattle.std.proofs.Common.{ℕ, false, ◌≡◌, ◌<◌, [], ◌∷◌, ◌++◌, IsTrue}
use Rattle.std.specs.List.{AllByRecursion}
use Rattle.sound_state.proofs.Common.{Geometry, need_of, block_place, Null, Held, active_word, Site, IsSiteOf, active_name, Exists, Writes, new_credits, ErrandFields}
use Rattle.sound_state.proofs.Common.{State, Moves, Holding, holds_of, Lists, IsLocated, recalls_of, anchor_for, is_bound, IsActiveWord, new_anchor, nothing}
use Rattle.sound_state.proofs.Common.{block_handed, IsSo}
use Rattle.heap_geometry.specs.declared.need.Need.TheVariants as need
use Rattle.pool_model.specs.declared.event.Event.TheVariants.{Alloc}
use Rattle.sound_state.proofs.shared.MakingWeights.{installing_holds}
use Rattle.sound_state.proofs.shared.TurnEffects.{StandsIn, StandsFramed}
use Rattle.sound_state.proofs.shared.CallerLemmas.{KeepsCounts}
use Rattle.sound_state.proofs.shared.RecallFrame.{LiesAt}

-- what a caller holds that has installed a superblock
abbrev pub installed_holds : Site → Holding
installed_holds at = record nothing { hands = block_handed at 0 }

-- the place of a new superblock's first block
abbrev pub first_place : Site → ℕ
first_place at = block_place at.frame at.seat.class 0

-- the active word that names an installed superblock, with the credits of a new one
abbrev pub installed_word : Site → ℕ
installed_word at = active_word (Held at.desc (new_credits at.seat.class))

-- a caller installs a new superblock as the active one and takes its first block, and all else stays
pub record Installs (g : Geometry) (s : State) (l : Lists) (caller : ℕ) (at : Site) (words : ℕ) (e : ErrandFields) (s' : State) : Type 0 where
  pub in_heap : caller < g.callers
  pub moves : Moves s.errand caller e s'.errand
  pub site : IsSiteOf g caller at
  pub small : need_of words ≡ need.Small at.seat.class
  pub bound : IsTrue (is_bound g s l at.desc)
  pub located : IsLocated s at.desc at.frame at.seat.class
  pub anchor : anchor_for s at.desc ≡ new_anchor at.seat.class
  pub exists : Exists g (active_name at.seat)
  pub before : s.word (active_name at.seat) ≡ active_word Null
  pub fits : IsActiveWord (Held at.desc (new_credits at.seat.class))
  pub writes : Writes s.word (active_name at.seat) (installed_word at) s'.word
  pub history : s'.history ≡ s.history ++ Alloc caller words (first_place at) ∷ []
  pub own : KeepsCounts (s.errand caller) e
  pub holds_before : holds_of (s.errand caller).point ≡ installing_holds at
  pub holds_after : holds_of e.point ≡ installed_holds at
  pub recalls_after : LiesAt g s' l at → AllByRecursion (IsSo g s' l caller) (recalls_of e.point)
  pub stands_before : StandsFramed (s.errand caller).point
  pub stands_after : StandsIn false e.point
