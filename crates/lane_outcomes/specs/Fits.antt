-- The outcomes of lanes fit their operations and one history.
use Rattle.std.specs.Prelude.{ℕ, suc, ◌<◌, ◌≡◌, ◌∷◌, List, [], length}
use Rattle.std.specs.List.{AllByRecursion}
use Rattle.heap_geometry.specs.declared.geometry.Geometry.{Geometry}
use Rattle.pool_model.specs.declared.event.Event.{Event}
use Rattle.pool_model.specs.Histories.{own, caller_of}
use Rattle.trace_text.specs.declared.trace.Op.{Op}
use Rattle.lane_outcomes.specs.declared.outcome.Outcome.{Outcome}
use Rattle.lane_outcomes.specs.Lane.{Position, start, position_after}
use Rattle.lane_outcomes.specs.Rows.{Setting, FitsRow}

-- the operations with these outcomes lead the lane from one state to another, one row after the other
abbrev pub Walks : Setting → Position → List Op → List Outcome → Position → Type 0
Walks setting from [] [] to = to ≡ from
Walks setting from (operation ∷ operations) (result ∷ results) to =
    (piece : List Event) × FitsRow setting from operation result piece
    × Walks setting (position_after from operation result piece) operations results to
Walks setting from [] (result ∷ results) to = ⊥
Walks setting from (operation ∷ operations) [] to = ⊥

-- the outcomes of a lane fit its operations and a history: they use up all events of the lane, in their order
pub record Fits (setting : Setting) (operations : List Op) (results : List Outcome) : Type 0 where
  pub end : Position
  pub walks : Walks setting start operations results end
  pub all_used : own setting.caller setting.history ≡ end.done

-- each lane's outcomes fit, the lanes being numbered from `lane` on
abbrev pub LanesFit : Geometry → List Event → ℕ → ℕ → List (List Op) → List (List Outcome) → Type 0
LanesFit g history lost lane [] [] = Unit {0}
LanesFit g history lost lane (operations ∷ lanes) (results ∷ outcomes) =
    Fits (record { caller = lane; turn_limit = g.turn_limit; history = history; lost = lost }) operations results
    × LanesFit g history lost (suc lane) lanes outcomes
LanesFit g history lost lane [] (results ∷ outcomes) = ⊥
LanesFit g history lost lane (operations ∷ lanes) [] = ⊥

-- the outcomes fit the lanes and the history, and no event has another caller
pub record OutcomesFit (g : Geometry) (history : List Event) (lost : ℕ) (lanes : List (List Op)) (outcomes : List (List Outcome)) : Type 0 where
  pub lanes_fit : LanesFit g history lost 0 lanes outcomes
  pub callers : AllByRecursion (λ event. caller_of event < length lanes) history
