-- Each frame is in one place.
use Rattle.std.specs.Prelude.{ℕ, ◌≡◌, ◌<◌, ◌+◌, ◌==◌, ◌&&◌, if◌then◌else◌}
use Rattle.heap_geometry.specs.declared.geometry.Geometry.{Geometry}
use Rattle.word_table.specs.Counts.{descriptor_count}
use Rattle.word_table.specs.Occurs.{occurs}
use Rattle.errand_steps.specs.Errands.{ErrandFields}
use Rattle.errand_steps.specs.Steps.{State}
use Rattle.sound_state.specs.Holdings.{holds_of}
use Rattle.sound_state.specs.Lists.{Lists}
use Rattle.sound_state.specs.Sums.{sum_below, callers_sum}
use Rattle.sound_state.specs.Superblocks.{info_for, is_bound, waiting_of}

-- how often a caller has the frame in its hand
abbrev pub errand_frames : ℕ → ErrandFields → ℕ
errand_frames f e = occurs f (holds_of e.point).frames

-- 1 where the superblock of d fills the frame; a waiting superblock's frame is still in its caller's hand
abbrev pub fills_frame : Geometry → State → Lists → ℕ → ℕ → ℕ
fills_frame g s l f d = if is_bound g s l d && (waiting_of g s d == 0) && ((info_for s d).frame == f) then 1 else 0

-- each frame is on the stack, in one caller's hand, or filled by one superblock
pub record IsFramed (g : Geometry) (s : State) (l : Lists) : Type 0 where
  pub once :
      (f : ℕ) → f < g.frames
      → occurs f l.frames + callers_sum g (errand_frames f) s.errand + sum_below (descriptor_count g) (fills_frame g s l f) ≡ 1
