-- A pass with the blocks in its hand, between calls and while one waits to be resumed.
use Rattle.std.specs.Prelude.{ℕ, List, [], ◌∷◌, All, Result, Ok, Err}
use Rattle.errand_steps.specs.declared.told.Ending.{Ending}
use Rattle.errand_steps.specs.declared.told.Ending.TheVariants as ending
use Rattle.errand_steps.specs.declared.told.Stepped.{Stepped}
use Rattle.errand_steps.specs.declared.told.Stepped.TheVariants as step
use Rattle.errand_steps.specs.Begins.{IsBusy, IsIdle}
use Rattle.errand_steps.specs.Calls.{Call}
use Rattle.step_machine.specs.Keeping.{LeavesPlace}
use Rattle.live_heap.specs.declared.answers.AllocAnswer.{AllocAnswer}
use Rattle.live_heap.specs.declared.answers.AllocAnswer.TheVariants as alloc_answer
use Rattle.live_heap.specs.declared.answers.Full.{Full}
use Rattle.live_heap.specs.declared.answers.Resumed.{Resumed}
use Rattle.live_heap.specs.declared.answers.Resumed.TheVariants as resumed
use Rattle.live_heap.specs.declared.answers.Taken.{Taken}
use Rattle.live_heap.specs.declared.answers.Taken.TheVariants as taken
use Rattle.live_heap.specs.declared.block.Block.{Block}
use Rattle.live_heap.specs.Heaps.{HeapFields}
use Rattle.live_heap.specs.declared.pass.Pass.{Pass}
use Rattle.live_heap.specs.Answers.{IsTried}
use Rattle.live_heap.specs.Calls.{IsCalling}
use Rattle.live_heap.specs.Holdings.{Holds}
use Rattle.live_heap.specs.Passes.{IsOf}

-- an allocation or a free is interrupted. The pass held these blocks when it began, and it gives none of them away
pub record IsWaiting (h : HeapFields) (p : Pass) (blocks : List Block) : Type 0 where
  pub first : Pass
  pub of : IsOf h first
  pub holds : Holds first blocks
  pub call : Call
  pub steps : ℕ
  pub calling : IsCalling first call steps p
  pub tried : IsTried call
  pub leaves : All (λ block. LeavesPlace call block.place) blocks

-- the pass is of the heap, and the blocks are in its hand: in no call it holds them, and in one it waits with them
pub record IsHand (h : HeapFields) (p : Pass) (blocks : List Block) : Type 0 where
  pub of : IsOf h p
  pub holds : IsIdle p.errand → Holds p blocks
  pub waits : IsBusy p.errand → IsWaiting h p blocks

-- the block that an answer brings, if any
abbrev pub given_by : AllocAnswer Block → List Block
given_by (alloc_answer.Given block) = block ∷ []
given_by answer = []

abbrev pub resumed_by : Resumed → List Block
resumed_by (resumed.Given block) = block ∷ []
resumed_by answer = []

abbrev pub taken_by : Taken Block → List Block
taken_by (taken.Got block) = block ∷ []
taken_by answer = []

abbrev pub returned_by : {A : Type 0} → Result A Full → List Block
returned_by (Ok put) = []
returned_by (Err full) = full.block ∷ []

-- the block that the end of a call brings, if any; the block that a step brings, if any
abbrev pub brought_by : Ending Block → List Block
brought_by (ending.Given block) = block ∷ []
brought_by (ending.Full block found) = block ∷ []
brought_by (ending.Got block) = block ∷ []
brought_by told = []

abbrev pub brought_in : Stepped Block → List Block
brought_in (step.Done told) = brought_by told
brought_in told = []
