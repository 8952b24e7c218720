-- The tags of anchors: one more for each block that is popped.
use Rattle.std.specs.Prelude.{ℕ, Bool, false, ◌≡◌, ◌+◌, ◌&&◌, List, [], ◌∷◌}
use Rattle.heap_geometry.specs.declared.geometry.Geometry.{Geometry}
use Rattle.errand_steps.specs.declared.point.Point.{Point}
use Rattle.errand_steps.specs.declared.point.Point.TheVariants as point
use Rattle.errand_steps.specs.Steps.{State, found_at}
use Rattle.sound_state.specs.Consequences.{IsBound}
use Rattle.sound_state.specs.Runs.{Move, begins, steps, Moved}
use Rattle.sound_state.specs.Turns.{one_if}
use Rattle.errand_steps.specs.tables.Blocks.{pops_block}

abbrev pub pops_at : ℕ → Point → Bool
pops_at d (point.Block p o) = pops_block d p
pops_at d p = false

-- 1 where the caller's next step pops a block of d: the caller is about to, and its exchange is won
abbrev pub pops_from : State → ℕ → ℕ → ℕ
pops_from s caller d = one_if (pops_at d (s.errand caller).point && (found_at s caller).won)

-- 1 where the move is a step that pops a block of d
abbrev pub pops_in : State → ℕ → Move → ℕ
pops_in s d (begins caller call) = 0
pops_in s d (steps caller) = pops_from s caller d

-- these moves of any callers lead from one state to the other; before each of them d has a superblock, and n of them pop a block of it
abbrev pub ReachesBound : Geometry → ℕ → State → List Move → ℕ → State → Type 0
ReachesBound g d s [] n s' = (n ≡ 0) × (s' ≡ s)
ReachesBound g d s (move ∷ rest) n s' =
    (next : State) × (others : ℕ) × IsBound g s d × Moved g s move next × ReachesBound g d next rest others s'
    × (n ≡ pops_in s d move + others)
