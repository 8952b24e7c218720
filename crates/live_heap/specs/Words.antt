-- Calls on the usable words of a block.
use Rattle.errand_steps.specs.declared.reply.Reply.{Reply}
use Rattle.errand_steps.specs.declared.reply.Reply.TheVariants as reply
use Rattle.errand_steps.specs.Calls.{Call, read}
use Rattle.live_heap.specs.Heaps.{HeapFields}
use Rattle.live_heap.specs.declared.pass.Pass.{Pass}
use Rattle.live_heap.specs.Answers.{IsContents}
use Rattle.live_heap.specs.Calls.{HasCalled}
use Rattle.live_heap.specs.Passes.{IsOf}
use Rattle.live_heap.specs.Whole.{OwnsFor}

-- a word that was read is what the block's owners wrote
abbrev pub TellsContents : Call → Reply → Pass → Type 0
TellsContents (read place need i) (reply.Word word) q = IsContents q place i word
TellsContents call answer q = Unit {0}

-- a pass of this heap made a call of one step, on a word of a block that it owns
pub record CallsOnWord (h : HeapFields) (p : Pass) (call : Call) (answer : Reply) (q : Pass) : Type 0 where
  pub called : HasCalled p call 0 answer q
  pub owned : OwnsFor p call
  pub of : IsOf h q
  pub contents : TellsContents call answer q
