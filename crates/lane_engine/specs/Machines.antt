-- A machine as lanes see it.
use Rattle.std.specs.Prelude.{ℕ, ◌≡◌, ◌<◌}
use Rattle.heap_geometry.specs.declared.need.Need.{Need}
use Rattle.sound_state.specs.Runs.{Move, Moved}
use Rattle.step_machine.specs.Cores.{CoreFields, IsCore, made_with, state_of}
use Rattle.lane_engine.specs.declared.grip.Grip.{Grip}

-- the place of a block in hand, and what it serves
abbrev pub grip_place : Grip → ℕ
grip_place grip = grip.place

abbrev pub grip_need : Grip → Need
grip_need grip = grip.need

-- the machine has this caller
abbrev pub ServesCaller : CoreFields → ℕ → Type 0
ServesCaller c caller = IsCore c × (caller < c.geometry.callers)

-- a call that begins, or a step, leads from one machine to the other, of the same heap; and a step is counted
pub record MovesCore (c : CoreFields) (move : Move) (after : CoreFields) : Type 0 where
  pub heap : after.geometry ≡ c.geometry
  pub moved : Moved c.geometry (state_of c) move (state_of after)
  pub counted : after.steps ≡ made_with c.steps move
