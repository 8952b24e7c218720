-- The blocks in a pass's hand.
use Rattle.std.specs.Prelude.{ℕ, ◌≡◌, ◌≢◌, List, [], ◌∷◌, All, None}
use Rattle.heap_geometry.specs.declared.need.Need.{Need}
use Rattle.errand_steps.specs.declared.reply.Reply.{Reply}
use Rattle.errand_steps.specs.declared.reply.Reply.TheVariants as reply
use Rattle.errand_steps.specs.Calls.{Call, alloc, free, put, take}
use Rattle.errand_steps.specs.tables.CallStage.{StageOfCall}
use Rattle.errand_steps.specs.tables.CallStage as stage
use Rattle.live_heap.specs.declared.block.Block.{Block}
use Rattle.live_heap.specs.declared.pass.Pass.{Pass}
use Rattle.live_heap.specs.Contents.{owned_in}
use Rattle.live_heap.specs.Passes.{Owns}

-- the pass owns each of the blocks, and no two of them lie at one place
abbrev pub Holds : Pass → List Block → Type 0
Holds p [] = Unit {0}
Holds p (block ∷ blocks) = Owns p block × All (λ other. other.place ≢ block.place) blocks × Holds p blocks

-- the pass holds the blocks, and its caller owns none at any other place: these are all that it owns, each once
abbrev pub HoldsExactly : Pass → List Block → Type 0
HoldsExactly p blocks = Holds p blocks × ((place : ℕ) → All (λ block. block.place ≢ place) blocks → owned_in p place ≡ None)

-- a block at this place that serves this need comes to the hand; a block at this place goes from the hand
abbrev pub Gains : ℕ → Need → List Block → List Block → Type 0
Gains place need had has = (block : Block) × (block.place ≡ place) × (block.need ≡ need) × (has ≡ block ∷ had)

abbrev pub Loses : ℕ → List Block → List Block → Type 0
Loses place had has = (block : Block) × (block.place ≡ place) × (had ≡ block ∷ has)

-- how a call that has ended so changes the hand
abbrev pub ChangesHand : Call → Reply → List Block → List Block → Type 0
ChangesHand (alloc words) (reply.Given place need) had has = Gains place need had has
ChangesHand (free place need) reply.Freed had has = Loses place had has
ChangesHand (put place need shelf) reply.Put had has = Loses place had has
ChangesHand (take shelf) (reply.Got place need) had has = Gains place need had has
ChangesHand call answer had has = has ≡ had

-- how a call under way has changed the hand: an allocation behind its event has its block, and a free keeps its own until its event
abbrev pub ChangesHandSoFar : Call → StageOfCall → List Block → List Block → Type 0
ChangesHandSoFar (alloc words) (stage.given place need) had has = Gains place need had has
ChangesHandSoFar (free place need) stage.freed had has = Loses place had has
ChangesHandSoFar call at had has = has ≡ had
