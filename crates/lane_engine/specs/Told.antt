-- What a step tells a lane.
use Rattle.std.specs.Prelude.{ℕ, List}
use Rattle.heap_geometry.specs.declared.need.Need.{Need}
use Rattle.pool_model.specs.declared.event.Event.{Event}
use Rattle.errand_steps.specs.declared.told.Stepped.{Stepped}
use Rattle.errand_steps.specs.Errands.{ErrandFields}
use Rattle.errand_steps.specs.Offers.{offered_at}
use Rattle.errand_steps.specs.Told.{GivesBack, stepped_as}
use Rattle.step_machine.specs.Moments.{IsMoment}

-- a step of a caller that is in a call took its errand from e to f and the events that are seen from these to those, and this was told of it
pub record HasStepped {B : Type 0} (place_of : B → ℕ) (need_of : B → Need) (e f : ErrandFields) (before after : List Event) (told : Stepped B) : Type 0 where
  pub moment : IsMoment e f before after (stepped_as place_of need_of told)
  pub back : GivesBack place_of need_of (offered_at e.point) told
