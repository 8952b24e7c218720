-- The list of what callers win in a run: the one that the run's own steps make.
use Rattle.std.specs.Prelude.{◌≡◌, List, [], ◌∷◌}
use Rattle.heap_geometry.specs.declared.geometry.Geometry.{Geometry}
use Rattle.errand_steps.specs.Steps.{State}
use Rattle.sound_state.specs.Runs.{Move, begins, steps, Moved}
use Rattle.sound_laws.specs.bounds.Wins.{Wins, wins_after}

-- the wins and the notes after a move: a call that begins leaves them, and a step adds what its caller wins and notes by it
abbrev pub made_by : State → Move → Wins → Wins
made_by s (begins caller call) w = w
made_by s (steps caller) w = wins_after s caller w

-- these moves, one after the other, lead from one state to the other, and make of these wins and notes those
abbrev pub ReachesWith : Geometry → State → Wins → List Move → State → Wins → Type 0
ReachesWith g s w [] s' w' = (s' ≡ s) × (w' ≡ w)
ReachesWith g s w (move ∷ rest) s' w' = (next : State) × Moved g s move next × ReachesWith g next (made_by s move w) rest s' w'
