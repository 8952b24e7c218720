-- Which moves are steps, and whose they are.
use Rattle.std.specs.Prelude.{ℕ, Bool, true, false, ◌==◌, ◌≢◌, List, All}
use Rattle.sound_state.specs.Runs.{Move, begins, steps}

-- whether the move is a step; whether it is a step of this caller; whether this caller begins a call by it
abbrev pub is_step : Move → Bool
is_step (begins caller call) = false
is_step (steps caller) = true

abbrev pub is_step_of : ℕ → Move → Bool
is_step_of caller (begins other call) = false
is_step_of caller (steps other) = other == caller

abbrev pub is_begin_of : ℕ → Move → Bool
is_begin_of caller (begins other call) = other == caller
is_begin_of caller (steps other) = false

-- the move isn't the begin of a call of this caller; none of the moves is such a begin
abbrev pub IsNoBegin : ℕ → Move → Type 0
IsNoBegin caller (begins other call) = other ≢ caller
IsNoBegin caller (steps other) = Unit {0}

abbrev pub BeginsNothing : ℕ → List Move → Type 0
BeginsNothing caller moves = All (IsNoBegin caller) moves
