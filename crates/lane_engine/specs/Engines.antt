-- What a lane sees of what it runs on.
use Rattle.std.specs.Prelude.{ℕ, List}
use Rattle.heap_geometry.specs.declared.geometry.Geometry.{Geometry}
use Rattle.heap_geometry.specs.declared.need.Need.{Need}
use Rattle.pool_model.specs.declared.event.Event.{Event}
use Rattle.errand_steps.specs.Errands.{ErrandFields}
use Rattle.step_machine.specs.Cores.{CoreFields, errand_at}
use Rattle.lane_engine.specs.declared.grip.Grip.{Grip}
use Rattle.lane_engine.specs.Machines.{grip_need, grip_place}

-- what an engine is to a lane at a moment: what a block in hand stands for, the heap's numbers, the events that are seen, and the errand of the lane's caller
pub record Engine (B : Type 0) : Type 0 where
  pub place_of : B → ℕ
  pub need_of : B → Need
  pub geometry : Geometry
  pub events : List Event
  pub errand : ErrandFields

-- a machine, to this caller
abbrev pub machine_at : CoreFields → ℕ → Engine Grip
machine_at c caller =
    record { place_of = grip_place; need_of = grip_need; geometry = c.geometry; events = c.events; errand = errand_at c.errands caller }
