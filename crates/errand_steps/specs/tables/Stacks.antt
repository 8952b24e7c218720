-- What is said of each point at a stack: who stands there, the event of its step, what the caller holds, remembers and expects, and how many steps are left.
use Rattle.std.specs.Prelude.{Bool, ℕ, Option, Some, None, List, ◌∷◌, ◌+◌, ◌-◌}
use Rattle.heap_geometry.specs.declared.geometry.Geometry.{Geometry}
use Rattle.packed_words.specs.Head.{HeadFields, head_word}
use Rattle.word_table.specs.Seats.{SeatFields}
use Rattle.step_parts.specs.stack.Piles.{next_name, head_name}
use Rattle.step_parts.specs.declared.stack.point.Pile.TheVariants.{Frames, Partials}
use Rattle.step_parts.specs.declared.stack.point.Pile.{Pile}
use Rattle.step_parts.specs.declared.stack.point.StackPoint.TheVariants as stack
use Rattle.step_parts.specs.declared.stack.point.StackPoint.{StackPoint}
use Rattle.pool_model.specs.declared.event.Event.TheVariants as event
use Rattle.pool_model.specs.declared.event.Event.{Event}
use Rattle.errand_steps.specs.Continuations.{pops, confirms, pushes}
use Rattle.errand_steps.specs.declared.continuation.Continuation.{Continuation}
use Rattle.errand_steps.specs.tables.Expected.{Expected, expect, continuation_expects}
use Rattle.errand_steps.specs.tables.Holding.{Holding, continuation_holds, with_partial, with_frame}
use Rattle.errand_steps.specs.tables.Lengths.{put_left, top_left}
use Rattle.errand_steps.specs.tables.Recall.{Recall, tops, nexts, tops_exist, says, continuation_recalls}

-- the continuations that stand at a point of a stack
abbrev pub goes_stack : StackPoint → Continuation → Bool
goes_stack (stack.LoadTop s pile) o = pops pile o
goes_stack (stack.LoadBelow s pile h) o = pops pile o
goes_stack (stack.PopTop s pile h below) o = pops pile o
goes_stack (stack.ConfirmEmpty s pile h) o = confirms pile o
goes_stack (stack.LoadTopToPush s pile i) o = pushes pile o
goes_stack (stack.StoreBelow s pile i h) o = pushes pile o
goes_stack (stack.PushTop s pile i h) o = pushes pile o

-- the event of an empty stack: without partial superblocks a look that found none, without frames a refusal
abbrev pub empty_event : ℕ → ℕ → Pile → ℕ → Event
empty_event caller need Frames class = event.Refuse caller need
empty_event caller need Partials class = event.Looked caller class

abbrev pub stack_event : ℕ → ℕ → StackPoint → Option Event
stack_event caller need (stack.ConfirmEmpty s pile h) = Some (empty_event caller need pile s.class)
stack_event caller need p = None

-- what a caller holds that pushes an index on a stack: the frame or the descriptor, and what waits behind
abbrev pub pushed_too : Pile → ℕ → SeatFields → Continuation → Holding
pushed_too Frames i s o = with_frame i (continuation_holds s o)
pushed_too Partials i s o = with_partial i s.class (continuation_holds s o)

-- what a caller holds at a stack
abbrev pub stack_holds : StackPoint → Continuation → Holding
stack_holds (stack.LoadTop s pile) o = continuation_holds s o
stack_holds (stack.LoadBelow s pile h) o = continuation_holds s o
stack_holds (stack.PopTop s pile h below) o = continuation_holds s o
stack_holds (stack.ConfirmEmpty s pile h) o = continuation_holds s o
stack_holds (stack.LoadTopToPush s pile i) o = pushed_too pile i s o
stack_holds (stack.StoreBelow s pile i h) o = pushed_too pile i s o
stack_holds (stack.PushTop s pile i h) o = pushed_too pile i s o

-- what a caller remembers at a stack
abbrev pub stack_recalls : StackPoint → Continuation → List Recall
stack_recalls (stack.LoadTop s pile) o = continuation_recalls s o
stack_recalls (stack.LoadBelow s pile h) o = tops s pile h ∷ continuation_recalls s o
stack_recalls (stack.PopTop s pile h below) o = nexts s pile h below ∷ tops s pile h ∷ continuation_recalls s o
stack_recalls (stack.ConfirmEmpty s pile h) o = continuation_recalls s o
stack_recalls (stack.LoadTopToPush s pile i) o = continuation_recalls s o
stack_recalls (stack.StoreBelow s pile i h) o = tops_exist s pile h ∷ continuation_recalls s o
stack_recalls (stack.PushTop s pile i h) o = says (next_name pile i) h.top ∷ tops_exist s pile h ∷ continuation_recalls s o

-- a caller expects the head of a stack to be the one that it read
abbrev pub head_still : SeatFields → Pile → HeadFields → Continuation → List Expected
head_still s pile h o = expect (head_name s pile) (head_word h) (continuation_expects s o)

-- what a caller expects at a stack
abbrev pub stack_expects : StackPoint → Continuation → List Expected
stack_expects (stack.LoadTop s pile) o = continuation_expects s o
stack_expects (stack.LoadBelow s pile h) o = head_still s pile h o
stack_expects (stack.PopTop s pile h below) o = head_still s pile h o
stack_expects (stack.ConfirmEmpty s pile h) o = head_still s pile h o
stack_expects (stack.LoadTopToPush s pile i) o = continuation_expects s o
stack_expects (stack.StoreBelow s pile i h) o = head_still s pile h o
stack_expects (stack.PushTop s pile i h) o = head_still s pile h o

-- the steps left at a stack
abbrev pub stack_left : Geometry → StackPoint → Continuation → ℕ
stack_left g (stack.LoadTop s pile) o = top_left g s o
stack_left g (stack.LoadBelow s pile h) o = top_left g s o - 1
stack_left g (stack.PopTop s pile h below) o = top_left g s o - 2
stack_left g (stack.ConfirmEmpty s pile h) o = top_left g s o - 1
stack_left g (stack.LoadTopToPush s pile i) o = put_left g s o + 3
stack_left g (stack.StoreBelow s pile i h) o = put_left g s o + 2
stack_left g (stack.PushTop s pile i h) o = put_left g s o + 1
