-- With which answer a call ends at each point.
use Rattle.std.proofs.Common.{ℕ, Bool, true, false, Option, None, ◌≡◌, arith, ◌⊎◌, if◌then◌else◌, IsTrue}
use Rattle.heap_geometry.specs.declared.need.Need.TheVariants as need
use Rattle.sound_state.proofs.Common.{block_place, Found, BlockPoint, StackPoint, DescPoint, PartialPoint, LargePoint, Continuation, Reply, ErrandFields, Onward}
use Rattle.sound_state.proofs.Common.{settle_block_of, settle_stack_of, settle_desc_of, settle_partial_of, LargeExit, WantFields, enter_block, enter_stack, enter_desc}
use Rattle.sound_state.proofs.Common.{enter_partial, enter_large}
use Rattle.step_parts.specs.declared.superblock.point.BlockPoint.TheVariants as block
use Rattle.step_parts.specs.declared.stack.point.StackPoint.TheVariants as stack
use Rattle.step_parts.specs.declared.hazard.point.DescPoint.TheVariants as desc
use Rattle.step_parts.specs.large.Points.{after_take}
use Rattle.errand_steps.specs.declared.continuation.Continuation.TheVariants as continuation
use Rattle.errand_steps.specs.declared.reply.Reply.TheVariants as reply
use Rattle.errand_steps.specs.Nexts.{leave_large}
use Rattle.errand_steps.specs.tables.Partials.{goes_partial}
use Rattle.sound_state.proofs.answers.AnswerCourses.{IsResumed, EndsBy}

-- the answer of a call that ends in a superblock: a block is given, or a free ends
abbrev pub BlockEnd : BlockPoint → Reply → Type 0
BlockEnd (block.StorePrefix at i) r = r ≡ reply.Given (block_place at.frame at.seat.class i) (need.Small at.seat.class)
BlockEnd p r = r ≡ reply.Freed

pub block-ends :
    (e : ErrandFields) (p : BlockPoint) (o : Continuation) (x : Found) (r : Reply)
    → EndsBy e (enter_block (settle_block_of p x) o) r → BlockEnd p r
block-ends e p o x r ends = grind (arith, ends)

-- the answer of a call that ends at a stack: it is refused, is resumed behind a retirement, or its free ends
abbrev pub StackEnd : ErrandFields → StackPoint → Continuation → Found → Reply → Type 0
StackEnd e (stack.ConfirmEmpty s pile h) (continuation.TakeFrame words d) x r = (x.won ≡ true) × (r ≡ reply.Refused)
StackEnd e (stack.ConfirmEmpty s pile h) o x r = ⊥
StackEnd e (stack.PushTop s pile i h) (continuation.Discard words d) x r = IsResumed e (continuation.Turn words) r
StackEnd e p o x r = r ≡ reply.Freed

pub stack-ends :
    (e : ErrandFields) (p : StackPoint) (o : Continuation) (x : Found) (r : Reply)
    → EndsBy e (enter_stack (settle_stack_of p x) o) r → StackEnd e p o x r
stack-ends e p o x r ends = grind (arith, ends)

-- the answer of a call that ends at the descriptors or hazard words: behind a retired descriptor's won push, or of a free
abbrev pub DescEnd : ErrandFields → DescPoint → Continuation → Found → Reply → Type 0
DescEnd e (desc.PushDesc s d top) o x r = (x.won ≡ true) × IsResumed e o r
DescEnd e p o x r = r ≡ reply.Freed

pub desc-ends :
    (e : ErrandFields) (p : DescPoint) (o : Continuation) (x : Found) (r : Reply)
    → EndsBy e (enter_desc (settle_desc_of p x) o) r → DescEnd e p o x r
desc-ends e p o x r ends = grind (arith, ends)

-- a call that ends at a partial superblock is a free
pub partial-ends :
    (e : ErrandFields) (p : PartialPoint) (o : Continuation) (x : Found) (r : Reply) → IsTrue (goes_partial p o)
    → EndsBy e (enter_partial (settle_partial_of p x) o) r → r ≡ reply.Freed
partial-ends e p o x r goes ends = grind (arith, goes, ends)

-- a call that ends by an exchange at a large block, a usable word or a shelf ends by a won one or by a lost one
pub either-ends :
    (e : ErrandFields) (won : Bool) (p q : Onward LargePoint LargeExit) (o : Continuation) (r : Reply) → EndsBy e (enter_large (if won then p else q) o) r
    → ((won ≡ true) × EndsBy e (enter_large p o) r) ⊎ ((won ≡ false) × EndsBy e (enter_large q o) r)
either-ends e won p q o r ends = grind (arith, ends)

pub either-left :
    (e : ErrandFields) (won : Bool) (a b : LargeExit) (o : Continuation) (r : Reply) → EndsBy e (leave_large (if won then a else b) o) r
    → ((won ≡ true) × EndsBy e (leave_large a o) r) ⊎ ((won ≡ false) × EndsBy e (leave_large b o) r)
either-left e won a b o r ends = grind (arith, ends)

-- a call that ends when it takes a run is refused: no run is free
pub take-ends :
    (e : ErrandFields) (w : WantFields) (o : Continuation) (first : Option ℕ) (r : Reply) → EndsBy e (enter_large (after_take w first) o) r
    → (first ≡ None) × (r ≡ reply.Refused)
take-ends e w o first r ends = grind (arith, ends)
