-- What a caller holds at each point.
use Rattle.errand_steps.specs.declared.point.Point.{Point}
use Rattle.errand_steps.specs.declared.point.Point.TheVariants.{Idle, Block, Stack, Desc, Partial, Large}
use Rattle.errand_steps.specs.tables.Holding.{Holding, nothing}
use Rattle.errand_steps.specs.tables.Blocks.{block_holds}
use Rattle.errand_steps.specs.tables.Stacks.{stack_holds}
use Rattle.errand_steps.specs.tables.Descs.{desc_holds}
use Rattle.errand_steps.specs.tables.Partials.{partial_holds}
use Rattle.errand_steps.specs.tables.LargeBlocks.{large_holds}

-- what a caller holds at its point
unfoldable pub holds_of : Point → Holding
holds_of Idle = nothing
holds_of (Block p o) = block_holds p
holds_of (Stack p o) = stack_holds p o
holds_of (Desc p o) = desc_holds p o
holds_of (Partial p o) = partial_holds p o
holds_of (Large p o) = large_holds p
