-- The event that each step adds to the history.
use Rattle.std.specs.Prelude.{ℕ, Option, None, if◌then◌else◌}
use Rattle.word_table.specs.declared.action.Found.{Found}
use Rattle.pool_model.specs.declared.event.Event.{Event}
use Rattle.errand_steps.specs.declared.point.Point.{Point}
use Rattle.errand_steps.specs.declared.point.Point.TheVariants.{Idle, Block, Stack, Desc, Partial, Large}
use Rattle.errand_steps.specs.Points.{asked}
use Rattle.errand_steps.specs.tables.Blocks.{block_event}
use Rattle.errand_steps.specs.tables.Stacks.{stack_event}
use Rattle.errand_steps.specs.tables.LargeBlocks.{large_event}

-- the event of a point's action where it is not lost
abbrev pub won_event : ℕ → Point → Option Event
won_event caller Idle = None
won_event caller (Block p o) = block_event caller (asked o) p
won_event caller (Stack p o) = stack_event caller (asked o) p
won_event caller (Desc p o) = None
won_event caller (Partial p o) = None
won_event caller (Large p o) = large_event caller (asked o) p

-- the event of the step in which a point's action found something
unfoldable pub event_of : ℕ → Point → Found → Option Event
event_of caller p x = if x.won then won_event caller p else None
