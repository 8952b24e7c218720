-- A call that is made step by step.
use Rattle.std.specs.Prelude.{ℕ, ◌≡◌, ◌≢◌}
use Rattle.errand_steps.specs.declared.reply.Begun.TheVariants as begun
use Rattle.errand_steps.specs.declared.told.Ending.{Ending}
use Rattle.errand_steps.specs.declared.told.Ending.TheVariants as ending
use Rattle.errand_steps.specs.declared.told.Stepped.{Stepped}
use Rattle.errand_steps.specs.declared.told.Stepped.TheVariants as step
use Rattle.errand_steps.specs.Begins.{alloc_answer}
use Rattle.errand_steps.specs.Calls.{Call, alloc, put, read, take, write}
use Rattle.live_heap.specs.declared.block.Block.{Block}
use Rattle.live_heap.specs.declared.pass.Pass.{Pass}
use Rattle.live_heap.specs.Answers.{IsContents, LiesOn}
use Rattle.live_heap.specs.Passes.{Owns}

-- the call has started: an allocation where its begin says so, each other call always
abbrev pub HasStarted : Pass → Call → Type 0
HasStarted p (alloc words) = alloc_answer p.errand words ≡ begun.Started
HasStarted p call = Unit {0}

-- the step has ended its call
abbrev pub IsDone : Stepped Block → Type 0
IsDone told = (end : Ending Block) × (told ≡ step.Done end)

-- so many steps lie before the last one of this call: none in a write, a read and a put, and one in a take
abbrev pub IsLastStep : Call → ℕ → Type 0
IsLastStep (write place need i value) steps = steps ≡ 0
IsLastStep (read place need i) steps = steps ≡ 0
IsLastStep (put place need shelf) steps = steps ≡ 0
IsLastStep (take shelf) steps = steps ≡ 1
IsLastStep call steps = ⊥

-- what the ending of a call tells beside its reply: a block that it names is the pass's, who is spent has taken all its turns, and a word, a full shelf and another word than the one before are what the whole call says of them
abbrev pub EndTells : Call → Ending Block → Pass → Type 0
EndTells call (ending.Given block) q = Owns q block
EndTells call ending.Spent q = q.errand.turns ≡ q.errand.geometry.turn_limit
EndTells (read place need i) (ending.Word word) q = IsContents q place i word
EndTells (put place need shelf) (ending.Full block found) q =
    (block.place ≡ place) × (block.need ≡ need) × Owns q block × LiesOn q shelf found × (found ≢ 0)
EndTells call (ending.Got block) q = Owns q block
EndTells call (ending.Missed expected found) q = expected ≢ found
EndTells call told q = Unit {0}
