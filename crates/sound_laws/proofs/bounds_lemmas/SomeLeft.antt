-- A call that is under way has a step left.
use Rattle.std.proofs.Common.{ℕ, ◌≡◌, ◌<◌, false, arith}
use Rattle.sound_state.proofs.Common.{Geometry, Point, Idle, FitsPoint, is_idle}
use Rattle.sound_laws.specs.bounds.StepsLeft.{steps_left}

pub busy-left : (g h : Geometry) (caller : ℕ) (p : Point) → FitsPoint h caller p → is_idle p ≡ false → 0 < steps_left g p
unfolding steps_left
busy-left g h caller Idle fits busy = absurd cc
busy-left g h caller p fits busy = grind (arith)
