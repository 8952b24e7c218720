-- Which words a caller expects to find as it saw them, or as it left them.
use Rattle.std.specs.Prelude.{List, []}
use Rattle.errand_steps.specs.declared.point.Point.{Point}
use Rattle.errand_steps.specs.declared.point.Point.TheVariants.{Idle, Block, Stack, Desc, Partial, Large}
use Rattle.errand_steps.specs.tables.Expected.{Expected}
use Rattle.errand_steps.specs.tables.Blocks.{block_expects}
use Rattle.errand_steps.specs.tables.Stacks.{stack_expects}
use Rattle.errand_steps.specs.tables.Descs.{desc_expects}
use Rattle.errand_steps.specs.tables.Partials.{partial_expects}
use Rattle.errand_steps.specs.tables.LargeBlocks.{large_expects}

-- what a caller expects at its point
unfoldable pub expects_of : Point → List Expected
expects_of Idle = []
expects_of (Block p o) = block_expects p
expects_of (Stack p o) = stack_expects p o
expects_of (Desc p o) = desc_expects p o
expects_of (Partial p o) = partial_expects p o
expects_of (Large p o) = large_expects p
