-- Everything that a caller remembers exists in its heap.
use Rattle.std.specs.Prelude.{ℕ, Option, None, ◌≡◌, ◌<◌, IsTrue}
use Rattle.heap_geometry.specs.declared.geometry.Geometry.{Geometry}
use Rattle.heap_geometry.specs.declared.need.Need.TheVariants as need
use Rattle.heap_geometry.specs.Need.{need_of}
use Rattle.word_table.specs.Counts.{descriptor_count}
use Rattle.word_table.specs.Seats.{SeatFields}
use Rattle.word_table.specs.declared.seat.Site.{Site}
use Rattle.step_parts.specs.declared.superblock.point.BlockPoint.{BlockPoint}
use Rattle.step_parts.specs.superblock.Points.{IsBlockOf, FitsBlock, seat_of_block}
use Rattle.step_parts.specs.declared.stack.point.StackPoint.{StackPoint}
use Rattle.step_parts.specs.stack.Points.{FitsStack, seat_of_stack}
use Rattle.step_parts.specs.declared.hazard.point.DescPoint.{DescPoint}
use Rattle.step_parts.specs.hazard.Points.{FitsDesc, seat_of_desc}
use Rattle.step_parts.specs.declared.partial.point.PartialPoint.{PartialPoint}
use Rattle.step_parts.specs.partial.Points.{FitsPartial, seat_of_partial}
use Rattle.step_parts.specs.declared.large.point.LargePoint.{LargePoint}
use Rattle.step_parts.specs.large.Points.{FitsLarge}
use Rattle.errand_steps.specs.declared.continuation.Continuation.{Continuation}
use Rattle.errand_steps.specs.declared.continuation.Continuation.TheVariants.{Alloc, TakeFrame, GiveBlock, Discard, Turn, Look, Refuse, Free, Remove, Clear, ClearSecond}
use Rattle.errand_steps.specs.declared.continuation.Continuation.TheVariants.{Retire, PushFirst, Finish, EndFree, Nothing}
use Rattle.errand_steps.specs.declared.point.Point.{Point}
use Rattle.errand_steps.specs.declared.point.Point.TheVariants as point
use Rattle.errand_steps.specs.Points.{site_of}
use Rattle.errand_steps.specs.tables.Blocks.{goes_block}
use Rattle.errand_steps.specs.tables.Stacks.{goes_stack}
use Rattle.errand_steps.specs.tables.Descs.{goes_desc, spare_of_desc, pushed_by_desc}
use Rattle.errand_steps.specs.tables.Partials.{goes_partial}
use Rattle.errand_steps.specs.tables.LargeBlocks.{GoesLarge}

-- blocks of the seat's class serve so many words
abbrev pub IsSmallFor : SeatFields → ℕ → Type 0
IsSmallFor s words = need_of words ≡ need.Small s.class

-- blocks of the seat's class serve so many words, and the descriptor is one of the heap's
abbrev pub IsAllocWith : Geometry → SeatFields → ℕ → ℕ → Type 0
IsAllocWith g s words d = IsSmallFor s words × (d < descriptor_count g)

-- a block that waits to be handed out is one of the superblock
pub record IsWaiting (g : Geometry) (caller words : ℕ) (at : Site) (i : ℕ) : Type 0 where
  pub asked : IsSmallFor at.seat words
  pub block : IsBlockOf g caller at i

-- everything that the continuation remembers exists in this heap, and its words are served by the seat's class
abbrev pub FitsContinuation : Geometry → ℕ → SeatFields → Continuation → Type 0
FitsContinuation g caller s (Alloc words) = IsSmallFor s words
FitsContinuation g caller s (TakeFrame words d) = IsAllocWith g s words d
FitsContinuation g caller s (GiveBlock words d frame i) = IsWaiting g caller words (site_of s d frame) i
FitsContinuation g caller s (Discard words d) = IsAllocWith g s words d
FitsContinuation g caller s (Turn words) = IsSmallFor s words
FitsContinuation g caller s (Look words) = IsSmallFor s words
FitsContinuation g caller s Refuse = Unit {0}
FitsContinuation g caller s Free = Unit {0}
FitsContinuation g caller s (Remove d heap) = (d < descriptor_count g) × (heap < g.heaps)
FitsContinuation g caller s Clear = Unit {0}
FitsContinuation g caller s (ClearSecond first) = first < descriptor_count g
FitsContinuation g caller s (Retire d) = d < descriptor_count g
FitsContinuation g caller s (PushFirst first) = first < descriptor_count g
FitsContinuation g caller s (Finish stored) = Unit {0}
FitsContinuation g caller s EndFree = Unit {0}
FitsContinuation g caller s Nothing = Unit {0}

-- a point of a superblock at which this caller of this heap may stand
pub record FitsInBlock (g : Geometry) (caller : ℕ) (p : BlockPoint) (o : Continuation) : Type 0 where
  pub point : FitsBlock g caller p
  pub continuation : FitsContinuation g caller (seat_of_block p) o
  pub goes : IsTrue (goes_block p o)

-- a point of a stack at which this caller of this heap may stand
pub record FitsInStack (g : Geometry) (caller : ℕ) (p : StackPoint) (o : Continuation) : Type 0 where
  pub point : FitsStack g caller p
  pub continuation : FitsContinuation g caller (seat_of_stack p) o
  pub goes : IsTrue (goes_stack p o)

-- a point of the descriptors or the hazard words at which this caller of this heap may stand
pub record FitsInDesc (g : Geometry) (caller : ℕ) (p : DescPoint) (o : Continuation) : Type 0 where
  pub point : FitsDesc g caller p
  pub continuation : FitsContinuation g caller (seat_of_desc p) o
  pub goes : IsTrue (goes_desc p o)

-- a point of a partial superblock at which this caller of this heap may stand
pub record FitsInPartial (g : Geometry) (caller : ℕ) (p : PartialPoint) (o : Continuation) : Type 0 where
  pub point : FitsPartial g caller p
  pub continuation : FitsContinuation g caller (seat_of_partial p) o
  pub goes : IsTrue (goes_partial p o)

-- a point of a large block, a usable word or a shelf at which a caller of this heap may stand
pub record FitsInLarge (g : Geometry) (p : LargePoint) (o : Continuation) : Type 0 where
  pub point : FitsLarge g p
  pub goes : GoesLarge p o

-- a point at which this caller of this heap may stand
abbrev pub FitsPoint : Geometry → ℕ → Point → Type 0
FitsPoint g caller point.Idle = Unit {0}
FitsPoint g caller (point.Block p o) = FitsInBlock g caller p o
FitsPoint g caller (point.Stack p o) = FitsInStack g caller p o
FitsPoint g caller (point.Desc p o) = FitsInDesc g caller p o
FitsPoint g caller (point.Partial p o) = FitsInPartial g caller p o
FitsPoint g caller (point.Large p o) = FitsInLarge g p o

abbrev pub spare_of : Point → ℕ
spare_of (point.Desc p o) = spare_of_desc p
spare_of p = 0

abbrev pub pushed_by : Point → Option ℕ
pushed_by (point.Desc p o) = pushed_by_desc p
pushed_by p = None
