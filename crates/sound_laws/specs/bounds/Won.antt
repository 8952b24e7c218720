-- What was won and lost, and what it bounds.
use Rattle.heap_geometry.specs.declared.geometry.Geometry.{Geometry}
use Rattle.errand_steps.specs.Steps.{State}
use Rattle.sound_laws.specs.bounds.Contention.{IsNoted, IsContended}
use Rattle.sound_laws.specs.bounds.Installs.{IsInstalled}
use Rattle.sound_laws.specs.bounds.Wins.{Wins}

-- the wins and the notes go with the state, and bound what is lost, the turns and the installs
pub record IsWon (g : Geometry) (s : State) (w : Wins) : Type 0 where
  pub noted : IsNoted g s w
  pub contended : IsContended g s w
  pub installed : IsInstalled g s w
