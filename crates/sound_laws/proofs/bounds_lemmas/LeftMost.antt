-- No point leaves more steps than a call makes between two lost exchanges.
use Rattle.std.proofs.Common.{ℕ, ◌+◌, ◌<◌, ◌≤◌, arith}
use Rattle.sound_state.proofs.Common.{Geometry, IsChecked, SeatFields, BlockPoint, StackPoint, DescPoint, PartialPoint, LargePoint, Continuation, Point, Idle, Block, Stack}
use Rattle.sound_state.proofs.Common.{Desc, Partial, Large, FitsPoint}
use Rattle.heap_geometry.specs.declared.limits.TheConstants.{CALL_STEPS, MAX_CALLERS, MAX_COUNT}
use Rattle.word_table.proofs.SeatLemmas.{block_count_of-most}
use Rattle.step_parts.specs.superblock.Points.{seat_of_block}
use Rattle.step_parts.specs.stack.Points.{seat_of_stack}
use Rattle.step_parts.specs.hazard.Points.{seat_of_desc}
use Rattle.step_parts.specs.partial.Points.{seat_of_partial}
use Rattle.sound_laws.specs.bounds.StepsLeft.{steps_left}
use Rattle.errand_steps.specs.tables.Lengths.{scan_left, active_left, resumed_left, put_left, top_left, cleared_left, listed_left}
use Rattle.errand_steps.specs.tables.Blocks.{block_left}
use Rattle.errand_steps.specs.tables.Stacks.{stack_left}
use Rattle.errand_steps.specs.tables.Descs.{desc_point_left}
use Rattle.errand_steps.specs.tables.Partials.{partial_left}
use Rattle.errand_steps.specs.tables.LargeBlocks.{large_left}

-- bounds of steps left in the largest heap: of a scan, from the active word on, and from there on behind a scan
abbrev scan_bound : ℕ
scan_bound = MAX_CALLERS + 3

abbrev active_bound : ℕ
active_bound = MAX_COUNT + 18 + scan_bound

abbrev put_bound : ℕ
put_bound = active_bound + scan_bound

-- an allocation at the active word has no more steps left than in the largest heap, with the most blocks to link
active-most : (g : Geometry) (s : SeatFields) → IsChecked g → active_left g s ≤ active_bound
active-most g s checked = omega (arith, checked, block_count_of-most s.class)

-- a scan has no more steps than in the largest heap
scan-most : (g : Geometry) → IsChecked g → scan_left g ≤ scan_bound
scan-most g checked = omega (arith, checked)

-- no more steps are left behind a retirement than from an active word in the largest heap
resumed-most : (g : Geometry) (s : SeatFields) (o : Continuation) → IsChecked g → resumed_left g s o ≤ active_bound
resumed-most g s o checked = grind (arith, active-most g s checked)

-- no more steps are left behind what is put away than the bound for a scan and what an allocation then makes
put-most : (g : Geometry) (s : SeatFields) (o : Continuation) → IsChecked g → put_left g s o ≤ put_bound
put-most g s o checked = grind (arith, active-most g s checked, scan-most g checked)

-- no more steps are left from the top of a stack on than from an active word in the largest heap
top-most : (g : Geometry) (s : SeatFields) (o : Continuation) → IsChecked g → top_left g s o ≤ active_bound
top-most g s o checked = grind (arith, active-most g s checked, scan-most g checked)

-- no more steps are left in a superblock than from an active word in the largest heap
block-most : (g : Geometry) (p : BlockPoint) → IsChecked g → block_left g p ≤ active_bound
block-most g p checked =
    grind (arith, scan-most g checked, active-most g (seat_of_block p) checked, block_count_of-most (seat_of_block p).class)

-- no more steps are left at a stack than the bound behind what is put away, and three
stack-most : (g : Geometry) (p : StackPoint) (o : Continuation) → IsChecked g → stack_left g p o ≤ put_bound + 3
stack-most g p o checked = grind (arith, top-most g (seat_of_stack p) o checked, put-most g (seat_of_stack p) o checked)

-- the clearing of a hazard word
cleared-most : (g : Geometry) (o : Continuation) → IsChecked g → cleared_left g o ≤ scan_bound + 14
cleared-most g o checked = grind (arith, scan-most g checked)

-- no more steps are left at the descriptors or the hazard words than the bound behind what is put away
desc-most : (g : Geometry) (p : DescPoint) (o : Continuation) → IsChecked g → desc_point_left g p o ≤ put_bound
desc-most g p o checked =
    grind
    (arith, scan-most g checked, active-most g (seat_of_desc p) checked, cleared-most g o checked, resumed-most g (seat_of_desc p) o checked)

-- the reading of an anchor from the list
listed-most : (g : Geometry) (o : Continuation) → IsChecked g → listed_left g o ≤ scan_bound + 11
listed-most g o checked = grind (arith, scan-most g checked)

-- no more steps are left at a partial superblock than the bound behind what is put away, and five
partial-most : (g : Geometry) (p : PartialPoint) (o : Continuation) → IsChecked g → partial_left g p o ≤ put_bound + 5
partial-most g p o checked =
    grind
    (arith, scan-most g checked, active-most g (seat_of_partial p) checked, put-most g (seat_of_partial p) o checked, listed-most g o checked)

-- at most three steps are left at a large block, a usable word or a shelf
large-most : (p : LargePoint) → large_left p ≤ 3
large-most p = grind arith

-- fewer steps are left at each point than a call makes between two lost exchanges
pub left-most : (g : Geometry) (caller : ℕ) (p : Point) → IsChecked g → FitsPoint g caller p → steps_left g p < CALL_STEPS
unfolding steps_left
left-most g caller Idle checked fits = omega arith
left-most g caller (Block p o) checked fits = omega (arith, block-most g p checked)
left-most g caller (Stack p o) checked fits = omega (arith, stack-most g p o checked)
left-most g caller (Desc p o) checked fits = omega (arith, desc-most g p o checked)
left-most g caller (Partial p o) checked fits = omega (arith, partial-most g p o checked)
left-most g caller (Large p o) checked fits = omega (arith, large-most p)
