-- Quiet steps in a superblock: loads, and exchanges that are lost.
use Rattle.std.proofs.Common.{ℕ, arith}
use Rattle.sound_state.proofs.Common.{SeatFields, Block, event_of, next_of, plan_point_of, holds_of, recalls_of}
use Rattle.step_parts.specs.declared.superblock.point.BlockPoint.TheVariants as block
use Rattle.errand_steps.specs.declared.continuation.Continuation.TheVariants.{Alloc}
use Rattle.sound_state.proofs.quiet.QuietSteps.{onward}
use Rattle.sound_state.proofs.shared.KeepsSound.{KeepsSound}

-- the load of the active word keeps the state sound
pub load_active-sound : (seat : SeatFields) (need : ℕ) → KeepsSound (Block (block.LoadActive seat) (Alloc need))
unfolding plan_point_of next_of event_of holds_of recalls_of
load_active-sound seat need = onward _ (grind (arith)) (λ w. grind (arith))
