-- Which calls moves begin.
use Rattle.std.specs.Prelude.{ℕ, ◌∷◌, ◌==◌, List, [], if◌then◌else◌}
use Rattle.errand_steps.specs.Calls.{Call}
use Rattle.sound_state.specs.Runs.{Move, begins, steps}

-- the calls that a caller begins among moves
abbrev pub calls_of : ℕ → List Move → List Call
calls_of caller [] = []
calls_of caller (begins other call ∷ moves) = if other == caller then call ∷ calls_of caller moves else calls_of caller moves
calls_of caller (steps other ∷ moves) = calls_of caller moves
