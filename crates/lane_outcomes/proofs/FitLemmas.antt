-- Outcomes that fit a history still fit it when other callers' events are added.
use Rattle.std.proofs.Common.{ℕ, ◌≤◌, ◌∷◌, List}
use Rattle.pool_model.specs.declared.event.Event.{Event}
use Rattle.trace_text.specs.declared.trace.Op.{Op}
use Rattle.lane_outcomes.specs.declared.outcome.Outcome.{Outcome}
use Rattle.lane_outcomes.specs.Lane.{Position, held_in, position_after}
use Rattle.lane_outcomes.specs.Rows.{FitsRow, Setting}
use Rattle.lane_outcomes.specs.Fits.{Walks}
use Rattle.trace_text.specs.Operations.{register_of}
use Rattle.lane_outcomes.proofs.SlotRows.{later, later-at}

pub row-later :
    (setting : Setting) (rest : List Event) (lost : ℕ) → setting.lost ≤ lost
    → (position : Position) (operation : Op) (result : Outcome) (piece : List Event)
    → FitsRow setting position operation result piece → FitsRow (later setting rest lost) position operation result piece
row-later setting rest lost more position operation result piece =
    later-at setting rest lost more position operation (held_in position.registers (register_of operation)) result piece

-- a walk in a setting is one in a setting with a longer history and more exchanges lost
pub walks-later :
    (setting : Setting) (rest : List Event) (lost : ℕ) → setting.lost ≤ lost
    → (from to : Position) (operations : List Op) (results : List Outcome)
    → Walks setting from operations results to → Walks (later setting rest lost) from operations results to
walks-later setting rest lost more from to (operation ∷ operations) (result ∷ results) walks = (
  walks.0,
  row-later setting rest lost more from operation result walks.0 walks.1,
  walks-later setting rest lost more (position_after from operation result walks.0) to operations results walks.2,
)
walks-later setting rest lost more from to operations results walks = walks
