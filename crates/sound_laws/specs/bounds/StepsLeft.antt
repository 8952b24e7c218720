-- How many steps a call makes at most until it ends, is lost or clears an empty superblock.
use Rattle.std.specs.Prelude.{ℕ, true, ◌≡◌, ◌<◌, ◌⊎◌}
use Rattle.heap_geometry.specs.declared.geometry.Geometry.{Geometry}
use Rattle.errand_steps.specs.declared.point.Point.{Point}
use Rattle.errand_steps.specs.declared.point.Point.TheVariants.{Idle, Block, Stack, Desc, Partial, Large}
use Rattle.errand_steps.specs.Errands.{counts_lost, counts_cleared}
use Rattle.errand_steps.specs.Steps.{State, found_at}
use Rattle.errand_steps.specs.tables.Blocks.{block_left}
use Rattle.errand_steps.specs.tables.Stacks.{stack_left}
use Rattle.errand_steps.specs.tables.Descs.{desc_point_left}
use Rattle.errand_steps.specs.tables.Partials.{partial_left}
use Rattle.errand_steps.specs.tables.LargeBlocks.{large_left}

-- the steps left at any point; none where the caller is in no call
unfoldable pub steps_left : Geometry → Point → ℕ
steps_left g Idle = 0
steps_left g (Block p o) = block_left g p
steps_left g (Stack p o) = stack_left g p o
steps_left g (Desc p o) = desc_point_left g p o
steps_left g (Partial p o) = partial_left g p o
steps_left g (Large p o) = large_left p

-- a step leaves its caller fewer steps, unless it counts as lost or as cleared
abbrev pub ComesNearer : Geometry → State → ℕ → State → Type 0
ComesNearer g s caller s' =
    (counts_lost (s.errand caller).point (found_at s caller) ≡ true) ⊎ (counts_cleared (s.errand caller).point (found_at s caller) ≡ true)
    ⊎ (steps_left g (s'.errand caller).point < steps_left g (s.errand caller).point)
