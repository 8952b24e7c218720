-- What follows where a point of a part is reached fits.
use Rattle.std.proofs.Common.{ℕ, Option, Some, None, ◌<◌, arith, ap, refl}
use Rattle.std.specs.Prelude.{IsTrue}
use Rattle.heap_geometry.specs.declared.geometry.Geometry.{Geometry}
use Rattle.heap_geometry.specs.Geometry.{IsChecked}
use Rattle.word_table.specs.declared.onward.Onward.{Onward}
use Rattle.word_table.specs.declared.onward.Onward.TheVariants.{Stays, Leaves}
use Rattle.word_table.specs.Onwards.{IsOnward, told_onward}
use Rattle.word_table.specs.Seats.{SeatFields, heap_of}
use Rattle.word_table.specs.Sites.{IsSeatOf}
use Rattle.word_table.proofs.SeatLemmas.{heap_of-within, block_count_of-least}
use Rattle.step_parts.specs.declared.superblock.point.BlockPoint.{BlockPoint}
use Rattle.step_parts.specs.declared.superblock.exit.BlockExit.{BlockExit}
use Rattle.step_parts.specs.superblock.Points.{FitsBlock, FitsBlockExit, seat_of_block, seat_of_block_exit}
use Rattle.step_parts.specs.declared.stack.point.StackPoint.{StackPoint}
use Rattle.step_parts.specs.declared.stack.exit.StackExit.{StackExit}
use Rattle.step_parts.specs.stack.Points.{FitsStack, FitsStackExit, seat_of_stack, seat_of_stack_exit}
use Rattle.step_parts.specs.declared.hazard.point.DescPoint.{DescPoint}
use Rattle.step_parts.specs.declared.hazard.exit.DescExit.{DescExit}
use Rattle.step_parts.specs.declared.hazard.exit.DescExit.TheVariants as desc_exit
use Rattle.step_parts.specs.hazard.Points.{FitsDesc, FitsDescExit, seat_of_desc, seat_of_desc_exit}
use Rattle.step_parts.specs.declared.partial.point.PartialPoint.{PartialPoint}
use Rattle.step_parts.specs.declared.partial.exit.PartialExit.{PartialExit}
use Rattle.step_parts.specs.partial.Points.{FitsPartial, FitsPartialExit, seat_of_partial, seat_of_partial_exit}
use Rattle.step_parts.specs.declared.large.point.LargePoint.{LargePoint}
use Rattle.step_parts.specs.declared.large.exit.LargeExit.{LargeExit}
use Rattle.step_parts.specs.large.Points.{FitsLarge, FitsLargeExit}
use Rattle.errand_steps.specs.declared.continuation.Continuation.{Continuation}
use Rattle.errand_steps.specs.Fits.{FitsContinuation}
use Rattle.errand_steps.specs.tables.Descs.{spare_of_desc, pushed_by_desc, goes_desc}
use Rattle.errand_steps.specs.Nexts.{enter_block, enter_stack, enter_desc, enter_partial, enter_large, leave_block, leave_stack, leave_desc, leave_partial}
use Rattle.errand_steps.specs.tables.Blocks.{goes_block}
use Rattle.errand_steps.specs.tables.Stacks.{goes_stack}
use Rattle.errand_steps.specs.tables.Partials.{goes_partial}
use Rattle.errand_steps.specs.tables.LargeBlocks.{GoesLarge}
use Rattle.errand_steps.specs.Continuations.{goes_block_exit, goes_stack_exit, goes_desc_exit, goes_partial_exit, GoesLargeExit}
use Rattle.errand_steps.proofs.NextLemmas.{Follows}
use Rattle.errand_steps.proofs.ContinuationLemmas.{alloc-asked}

-- the processor heap of a seat exists
heap-exists : (g : Geometry) (caller : ℕ) (s : SeatFields) → IsChecked g → IsSeatOf g caller s → heap_of s < g.heaps
heap-exists g caller s checked seat =
    let same = ap (λ x. x.heaps) seat.geometry in omega (arith, heap_of-within s (omega (arith, checked.heaps.0, same)), same)

-- how many spare entries the list may have at an exit, and which one is pushed, as at the points before it
abbrev pub spare_of_desc_exit : DescExit → ℕ
spare_of_desc_exit (desc_exit.Scanned s held) = 1
spare_of_desc_exit (desc_exit.Pushed s d) = 1
spare_of_desc_exit e = 0

abbrev pub pushed_by_desc_exit : DescExit → Option ℕ
pushed_by_desc_exit (desc_exit.Pushed s d) = Some d
pushed_by_desc_exit e = None

-- a continuation is one that stands at the point or exit to which a step leads
abbrev pub GoesOnBlock : Continuation → Onward BlockPoint BlockExit → Type 0
GoesOnBlock o (Stays p) = IsTrue (goes_block p o)
GoesOnBlock o (Leaves e) = IsTrue (goes_block_exit e o)

abbrev pub GoesOnStack : Continuation → Onward StackPoint StackExit → Type 0
GoesOnStack o (Stays p) = IsTrue (goes_stack p o)
GoesOnStack o (Leaves e) = IsTrue (goes_stack_exit e o)

abbrev pub GoesOnDesc : Continuation → Onward DescPoint DescExit → Type 0
GoesOnDesc o (Stays p) = IsTrue (goes_desc p o)
GoesOnDesc o (Leaves e) = IsTrue (goes_desc_exit e o)

abbrev pub GoesOnPartial : Continuation → Onward PartialPoint PartialExit → Type 0
GoesOnPartial o (Stays p) = IsTrue (goes_partial p o)
GoesOnPartial o (Leaves e) = IsTrue (goes_partial_exit e o)

abbrev pub GoesOnLarge : Continuation → Onward LargePoint LargeExit → Type 0
GoesOnLarge o (Stays p) = GoesLarge p o
GoesOnLarge o (Leaves e) = GoesLargeExit e o

-- what follows an exit from a superblock may follow a step of the caller
leaves-block :
    (g : Geometry) (caller : ℕ) (e : BlockExit) (o : Continuation) → IsChecked g → FitsBlockExit g caller e
    → FitsContinuation g caller (seat_of_block_exit e) o → IsTrue (goes_block_exit e o) → Follows g caller 0 None (leave_block e o)
leaves-block g caller e o checked h w goes =
    grind (arith, alloc-asked g caller (seat_of_block_exit e) o, heap-exists g caller (seat_of_block_exit e) checked)

pub enters-block :
    (g : Geometry) (caller : ℕ) (t : Onward BlockPoint BlockExit) (o : Continuation) → IsChecked g
    → IsOnward (FitsBlock g caller) (FitsBlockExit g caller) t
    → FitsContinuation g caller (told_onward seat_of_block seat_of_block_exit t) o → GoesOnBlock o t
    → Follows g caller 0 None (enter_block t o)
enters-block g caller (Stays p) o checked h w goes =
    record { fits = record { point = h; continuation = w; goes = goes }; lists = (refl, refl) }
enters-block g caller (Leaves e) o checked h w goes = leaves-block g caller e o checked h w goes

-- what follows an exit from a stack may follow a step of the caller
leaves-stack :
    (g : Geometry) (caller : ℕ) (e : StackExit) (o : Continuation) → FitsStackExit g caller e
    → FitsContinuation g caller (seat_of_stack_exit e) o → IsTrue (goes_stack_exit e o) → Follows g caller 0 None (leave_stack e o)
leaves-stack g caller e o h w goes = grind (arith, block_count_of-least)

pub enters-stack :
    (g : Geometry) (caller : ℕ) (t : Onward StackPoint StackExit) (o : Continuation)
    → IsOnward (FitsStack g caller) (FitsStackExit g caller) t
    → FitsContinuation g caller (told_onward seat_of_stack seat_of_stack_exit t) o → GoesOnStack o t
    → Follows g caller 0 None (enter_stack t o)
enters-stack g caller (Stays p) o h w goes =
    record { fits = record { point = h; continuation = w; goes = goes }; lists = (refl, refl) }
enters-stack g caller (Leaves e) o h w goes = leaves-stack g caller e o h w goes

-- what follows an exit from the descriptors or the hazard words may follow a step of the caller
leaves-desc :
    (g : Geometry) (caller : ℕ) (e : DescExit) (o : Continuation) → FitsDescExit g caller e
    → FitsContinuation g caller (seat_of_desc_exit e) o → IsTrue (goes_desc_exit e o)
    → Follows g caller (spare_of_desc_exit e) (pushed_by_desc_exit e) (leave_desc e o)
leaves-desc g caller e o h w goes = grind (arith, alloc-asked g caller (seat_of_desc_exit e) o)

pub enters-desc :
    (g : Geometry) (caller : ℕ) (t : Onward DescPoint DescExit) (o : Continuation)
    → IsOnward (FitsDesc g caller) (FitsDescExit g caller) t
    → FitsContinuation g caller (told_onward seat_of_desc seat_of_desc_exit t) o → GoesOnDesc o t
    → Follows g caller (told_onward spare_of_desc spare_of_desc_exit t) (told_onward pushed_by_desc pushed_by_desc_exit t) (enter_desc t o)
enters-desc g caller (Stays p) o h w goes =
    record { fits = record { point = h; continuation = w; goes = goes }; lists = (refl, refl) }
enters-desc g caller (Leaves e) o h w goes = leaves-desc g caller e o h w goes

-- what follows an exit from a partial superblock may follow a step of the caller
leaves-partial :
    (g : Geometry) (caller : ℕ) (e : PartialExit) (o : Continuation) → FitsPartialExit g caller e
    → FitsContinuation g caller (seat_of_partial_exit e) o → IsTrue (goes_partial_exit e o) → Follows g caller 0 None (leave_partial e o)
leaves-partial g caller e o h w goes = grind (arith, alloc-asked g caller (seat_of_partial_exit e) o)

pub enters-partial :
    (g : Geometry) (caller : ℕ) (t : Onward PartialPoint PartialExit) (o : Continuation)
    → IsOnward (FitsPartial g caller) (FitsPartialExit g caller) t
    → FitsContinuation g caller (told_onward seat_of_partial seat_of_partial_exit t) o → GoesOnPartial o t
    → Follows g caller 0 None (enter_partial t o)
enters-partial g caller (Stays p) o h w goes =
    record { fits = record { point = h; continuation = w; goes = goes }; lists = (refl, refl) }
enters-partial g caller (Leaves e) o h w goes = leaves-partial g caller e o h w goes

-- what follows a step on a large block, a usable word or a shelf may follow a step of the caller
pub enters-large :
    (g : Geometry) (caller : ℕ) (t : Onward LargePoint LargeExit) (o : Continuation) → IsOnward (FitsLarge g) (FitsLargeExit g) t
    → GoesOnLarge o t → Follows g caller 0 None (enter_large t o)
enters-large g caller (Stays p) o h goes = record { fits = record { point = h; goes = goes }; lists = (refl, refl) }
enters-large g caller (Leaves e) o h goes = grind (arith)
