-- The event of each point leads its call from stage to stage.
use Rattle.std.proofs.Common.{ℕ, ◌≡◌, arith}
use Rattle.std.specs.Prelude.{IsTrue}
use Rattle.word_table.specs.declared.action.Found.{Found}
use Rattle.word_table.specs.Actions.{is_won}
use Rattle.step_parts.specs.declared.superblock.point.BlockPoint.{BlockPoint}
use Rattle.step_parts.specs.declared.superblock.point.BlockPoint.TheVariants as block
use Rattle.step_parts.specs.declared.stack.point.StackPoint.{StackPoint}
use Rattle.step_parts.specs.declared.hazard.point.DescPoint.{DescPoint}
use Rattle.step_parts.specs.declared.partial.point.PartialPoint.{PartialPoint}
use Rattle.step_parts.specs.large.Points.{plan_large_of}
use Rattle.step_parts.specs.declared.large.point.LargePoint.{LargePoint}
use Rattle.errand_steps.specs.declared.continuation.Continuation.{Continuation}
use Rattle.errand_steps.specs.declared.point.Point.TheVariants as point
use Rattle.errand_steps.specs.Events.{event_of}
use Rattle.errand_steps.specs.Nexts.{next_of}
use Rattle.errand_steps.specs.tables.Blocks.{goes_block}
use Rattle.errand_steps.specs.tables.Stacks.{goes_stack}
use Rattle.errand_steps.specs.tables.Descs.{goes_desc}
use Rattle.errand_steps.specs.tables.Partials.{goes_partial}
use Rattle.errand_steps.specs.tables.LargeBlocks.{GoesLarge}
use Rattle.sound_laws.specs.events.Stages.{stage_of}
use Rattle.sound_laws.proofs.events_lemmas.LeadsDefs.{Leads, outcome_of}

-- in a superblock, each point by itself: the check goes through them where one is named
pub block-leads :
    (caller : ℕ) (p : BlockPoint) (o : Continuation) (x : Found) → IsTrue (goes_block p o)
    → Leads caller (stage_of (point.Block p o)) (event_of caller (point.Block p o) x) (outcome_of (next_of (point.Block p o) x))
unfolding next_of event_of
block-leads caller (block.TakeCredit s d credits) o x goes = grind (arith)
block-leads caller p o x goes = grind (arith)

-- at a stack
pub stack-leads :
    (caller : ℕ) (p : StackPoint) (o : Continuation) (x : Found) → IsTrue (goes_stack p o)
    → Leads caller (stage_of (point.Stack p o)) (event_of caller (point.Stack p o) x) (outcome_of (next_of (point.Stack p o) x))
unfolding next_of event_of
stack-leads caller p o x goes = grind (arith)

-- at the descriptors or the hazard words
pub desc-leads :
    (caller : ℕ) (p : DescPoint) (o : Continuation) (x : Found) → IsTrue (goes_desc p o)
    → Leads caller (stage_of (point.Desc p o)) (event_of caller (point.Desc p o) x) (outcome_of (next_of (point.Desc p o) x))
unfolding next_of event_of
desc-leads caller p o x goes = grind (arith)

-- at a partial superblock
pub partial-leads :
    (caller : ℕ) (p : PartialPoint) (o : Continuation) (x : Found) → IsTrue (goes_partial p o)
    → Leads caller (stage_of (point.Partial p o)) (event_of caller (point.Partial p o) x) (outcome_of (next_of (point.Partial p o) x))
unfolding next_of event_of
partial-leads caller p o x goes = grind (arith)

-- at a large block, a usable word or a shelf
pub large-leads :
    (caller : ℕ) (p : LargePoint) (o : Continuation) (x : Found) → GoesLarge p o
    → x.won ≡ is_won (plan_large_of p) x.value → Leads caller (stage_of (point.Large p o)) (event_of caller (point.Large p o) x) (outcome_of (next_of (point.Large p o) x))
unfolding next_of event_of
large-leads caller p o x goes won = grind (arith)
