-- Whole calls of a pass.
use Rattle.std.specs.Prelude.{ℕ, ◌≡◌}
use Rattle.errand_steps.specs.declared.reply.Reply.{Reply}
use Rattle.errand_steps.specs.declared.reply.Reply.TheVariants as reply
use Rattle.errand_steps.specs.Begins.{IsIdle}
use Rattle.errand_steps.specs.Calls.{Call, alloc, free, write, read, put, take}
use Rattle.live_heap.specs.declared.answers.Resumed.{Resumed}
use Rattle.live_heap.specs.declared.answers.Resumed.TheVariants as resumed
use Rattle.live_heap.specs.Heaps.{HeapFields}
use Rattle.live_heap.specs.declared.pass.Pass.{Pass}
use Rattle.live_heap.specs.Answers.{IsSpentAtOnce}
use Rattle.live_heap.specs.Calls.{HasCalled}
use Rattle.live_heap.specs.Passes.{IsOf, OwnsAt}

-- a pass of this heap that is in no call
abbrev pub IsAtRest : HeapFields → Pass → Type 0
IsAtRest h p = IsOf h p × IsIdle p.errand

-- the call has ended with this answer, after any number of steps
abbrev pub HasEndedCall : Pass → Call → Reply → Pass → Type 0
HasEndedCall first call answer q = (steps : ℕ) × HasCalled first call steps answer q

-- a whole call of a pass: it began and made its steps, or it is an allocation that found no turn left before it began
pub data MadeByPass (p : Pass) (call : Call) (answer : Reply) (q : Pass) : Type 0 where
  by_steps : HasEndedCall p call answer q → MadeByPass p call answer q
  at_once : (words : ℕ) → call ≡ alloc words → answer ≡ reply.Spent → IsSpentAtOnce p words q → MadeByPass p call answer q

-- the call that was under way has ended with this answer
abbrev pub ResumesTo : Pass → Call → Resumed → Pass → Type 0
ResumesTo first call (resumed.Given block) q = HasEndedCall first call (reply.Given block.place block.need) q
ResumesTo first call resumed.Freed q = HasEndedCall first call reply.Freed q
ResumesTo first call resumed.Refused q = HasEndedCall first call reply.Refused q
ResumesTo first call resumed.Spent q = HasEndedCall first call reply.Spent q
ResumesTo first call resumed.Busy q = ⊥

-- a call on a block is one on a block that the pass owns
abbrev pub OwnsFor : Pass → Call → Type 0
OwnsFor p (alloc words) = Unit {0}
OwnsFor p (take shelf) = Unit {0}
OwnsFor p (free place need) = OwnsAt p place need
OwnsFor p (write place need i value) = OwnsAt p place need
OwnsFor p (read place need i) = OwnsAt p place need
OwnsFor p (put place need shelf) = OwnsAt p place need

-- a whole call of a pass of this heap, which leaves it in no call
abbrev pub IsWhole : HeapFields → Pass → Call → Reply → HeapFields → Pass → Type 0
IsWhole h p call answer k q = MadeByPass p call answer q × OwnsFor p call × (k ≡ h) × IsAtRest k q
