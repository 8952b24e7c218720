-- Which continuations stand at which points.
use Rattle.std.specs.Prelude.{ℕ, Bool, true, false, ◌≡◌, IsTrue}
use Rattle.heap_geometry.specs.declared.need.Need.TheVariants as need
use Rattle.heap_geometry.specs.Need.{need_of}
use Rattle.step_parts.specs.declared.superblock.exit.BlockExit.{BlockExit}
use Rattle.step_parts.specs.declared.superblock.exit.BlockExit.TheVariants as block_exit
use Rattle.step_parts.specs.declared.stack.point.Pile.{Pile}
use Rattle.step_parts.specs.declared.stack.point.Pile.TheVariants.{Frames, Partials}
use Rattle.step_parts.specs.declared.stack.exit.StackExit.{StackExit}
use Rattle.step_parts.specs.declared.stack.exit.StackExit.TheVariants as stack_exit
use Rattle.step_parts.specs.declared.hazard.exit.DescExit.{DescExit}
use Rattle.step_parts.specs.declared.hazard.exit.DescExit.TheVariants as desc_exit
use Rattle.step_parts.specs.declared.partial.exit.PartialExit.{PartialExit}
use Rattle.step_parts.specs.declared.partial.exit.PartialExit.TheVariants as partial_exit
use Rattle.step_parts.specs.declared.large.exit.LargeExit.{LargeExit}
use Rattle.step_parts.specs.declared.large.exit.LargeExit.TheVariants as large_exit
use Rattle.errand_steps.specs.declared.continuation.Continuation.{Continuation}
use Rattle.errand_steps.specs.declared.continuation.Continuation.TheVariants.{Alloc, TakeFrame, GiveBlock, Discard, Turn, Look, Refuse, Free, Remove, Clear, ClearSecond}
use Rattle.errand_steps.specs.declared.continuation.Continuation.TheVariants.{Retire, PushFirst, Finish, EndFree, Nothing}

-- the continuation is that of an allocation at work in a superblock; that of a free at work there
abbrev pub is_alloc : Continuation → Bool
is_alloc (Alloc words) = true
is_alloc o = false

abbrev pub is_free : Continuation → Bool
is_free Free = true
is_free o = false

-- the continuations at a pop from a stack; an allocation and a clearing pop partial superblocks
abbrev pub pops : Pile → Continuation → Bool
pops Frames (TakeFrame words d) = true
pops Frames o = false
pops Partials (Alloc words) = true
pops Partials Clear = true
pops Partials (ClearSecond first) = true
pops Partials o = false

-- the continuations at the step that confirms that a stack is empty
abbrev pub confirms : Pile → Continuation → Bool
confirms Frames (TakeFrame words d) = true
confirms Frames o = false
confirms Partials (Alloc words) = true
confirms Partials o = false

-- the continuations at a push onto a stack
abbrev pub pushes : Pile → Continuation → Bool
pushes Frames (Discard words d) = true
pushes Frames (Remove d heap) = true
pushes Frames o = false
pushes Partials (GiveBlock words d frame i) = true
pushes Partials (Finish stored) = true
pushes Partials EndFree = true
pushes Partials (Retire d) = true
pushes Partials (PushFirst first) = true
pushes Partials o = false

-- the continuations at the end of a free, which clears its hazard word
abbrev pub clears : Continuation → Bool
clears Clear = true
clears (Retire d) = true
clears EndFree = true
clears o = false

-- the continuations after a retirement
abbrev pub resumes : Continuation → Bool
resumes (Turn words) = true
resumes (Look words) = true
resumes Refuse = true
resumes EndFree = true
resumes o = false

-- the continuations where a superblock is put into a slot; where its owner is looked for
abbrev pub fills : Continuation → Bool
fills (GiveBlock words d frame i) = true
fills (Finish stored) = true
fills o = false

abbrev pub is_finish : Continuation → Bool
is_finish (Finish stored) = true
is_finish o = false

-- the continuations of a clearing
abbrev pub is_clearing : Continuation → Bool
is_clearing Clear = true
is_clearing (ClearSecond first) = true
is_clearing o = false

-- the continuations that stand at an exit from a superblock
abbrev pub goes_block_exit : BlockExit → Continuation → Bool
goes_block_exit (block_exit.BecameEmpty at heap) o = is_free o
goes_block_exit (block_exit.BecamePartial at stored) o = is_free o
goes_block_exit (block_exit.Pushed s stored) o = is_free o
goes_block_exit e o = is_alloc o

-- the continuations that stand at an exit from a stack
abbrev pub goes_stack_exit : StackExit → Continuation → Bool
goes_stack_exit (stack_exit.Popped s pile i) o = pops pile o
goes_stack_exit (stack_exit.FoundEmpty s pile h) o = pops pile o
goes_stack_exit (stack_exit.ConfirmedEmpty s pile) o = confirms pile o
goes_stack_exit (stack_exit.Pushed s pile) o = pushes pile o

-- the continuations that stand at an exit from the descriptors or the hazard words
abbrev pub goes_desc_exit : DescExit → Continuation → Bool
goes_desc_exit (desc_exit.Got s d) o = is_alloc o
goes_desc_exit (desc_exit.Cleared s) o = clears o
goes_desc_exit (desc_exit.Scanned s held) o = resumes o
goes_desc_exit (desc_exit.Pushed s d) o = resumes o

-- the continuations that stand at an exit from a partial superblock
abbrev pub goes_partial_exit : PartialExit → Continuation → Bool
goes_partial_exit (partial_exit.SlotFilled s) o = fills o
goes_partial_exit (partial_exit.Displaced s d) o = fills o
goes_partial_exit (partial_exit.NotInSlot s) o = is_free o
goes_partial_exit (partial_exit.Removed s d) o = is_free o
goes_partial_exit (partial_exit.ListedEmpty s d) o = is_clearing o
goes_partial_exit (partial_exit.ListedPartial s d) o = is_clearing o
goes_partial_exit e o = is_alloc o

-- an allocation of a run goes on with its words, which as many units serve; every other call ends here
abbrev pub IsRunFor : ℕ → Continuation → Type 0
IsRunFor units (Alloc words) = need_of words ≡ need.Large units
IsRunFor units o = ⊥

abbrev pub is_last : Continuation → Bool
is_last Nothing = true
is_last o = false

-- the continuations that stand at an exit from a large block, a usable word or a shelf
abbrev pub GoesLargeExit : LargeExit → Continuation → Type 0
GoesLargeExit (large_exit.GivenRun place run) o = IsRunFor run.units o
GoesLargeExit large_exit.NoRun o = IsTrue (is_alloc o)
GoesLargeExit e o = IsTrue (is_last o)
