-- How a pass goes on between the hand-overs of its blocks.
use Rattle.std.specs.Prelude.{ℕ, ◌≡◌, ◌<◌, ◌++◌, ◌∷◌, ◌⊎◌, List, [], All, Some, length}
use Rattle.heap_geometry.specs.Need.{need_of, usable_words}
use Rattle.pool_model.specs.declared.event.Event.{Event}
use Rattle.pool_model.specs.declared.event.Event.TheVariants.{Put, Take}
use Rattle.pool_model.specs.Histories.{own}
use Rattle.errand_steps.specs.declared.reply.Reply.TheVariants as reply
use Rattle.errand_steps.specs.Calls.{alloc, put, take}
use Rattle.pool_model.specs.Pool.{fresh_block}
use Rattle.live_heap.specs.declared.block.Block.{Block}
use Rattle.live_heap.specs.Heaps.{HeapFields}
use Rattle.live_heap.specs.declared.pass.Pass.{Pass}
use Rattle.live_heap.specs.Calls.{HasCalled}
use Rattle.live_heap.specs.Contents.{OwnsSame, owned_in}
use Rattle.live_heap.specs.Holdings.{HoldsExactly}
use Rattle.live_heap.specs.Passes.{Owns, seen}
use Rattle.live_heap.specs.Whole.{IsAtRest, MadeByPass}
use Rattle.pipe_runner.specs.EndCalls.{FoundFull, GaveNone, GotNone, HasTried}

-- the event hands no block over
abbrev pub StaysHome : Event → Type 0
StaysHome (Put caller place shelf) = ⊥
StaysHome (Take caller shelf place) = ⊥
StaysHome event = Unit {0}

-- the pass has gone on, and seen these events more; its caller has handed no block over among them
pub record PassGoesOn (p q : Pass) : Type 0 where
  pub caller : q.errand.caller ≡ p.errand.caller
  pub more : List Event
  pub grows : seen q ≡ seen p ++ more
  pub home : All StaysHome (own p.errand.caller more)

-- a pass has gone on without a hand-over, and is at rest
pub record HasMoved (h : HeapFields) (p q : Pass) : Type 0 where
  pub goes : PassGoesOn p q
  pub rest : IsAtRest h q

-- a pass has been given this block, behind allocations that were given none, and owns it, as it is given; and it owns nothing else if it owned nothing before
pub record HasAllocated (h : HeapFields) (p : Pass) (words : ℕ) (block : Block) (q : Pass) : Type 0 where
  pub moves : HasMoved h p q
  pub last : Pass
  pub refused : HasTried (GaveNone words) p last
  pub gives : MadeByPass last (alloc words) (reply.Given block.place block.need) q
  pub given : owned_in q block.place ≡ Some (fresh_block p.errand.caller words block.place)
  pub owned : Owns q block
  pub serves : block.need ≡ need_of words
  pub holds : HoldsExactly p [] → HoldsExactly q (block ∷ [])

-- a pass has changed nothing of what it owns but the words in its blocks
pub record KeepsBlocks (h : HeapFields) (p q : Pass) : Type 0 where
  pub moves : HasMoved h p q
  pub owns : (block : Block) → Owns p block → Owns q block
  pub holds : (blocks : List Block) → HoldsExactly p blocks → HoldsExactly q blocks

-- a pass has gone on without a change of what it owns, by puts that found the shelf full, and then put this block on it; it is at rest
pub record HasHandedOver (h : HeapFields) (p : Pass) (block : Block) (shelf : ℕ) (q : Pass) : Type 0 where
  pub last : Pass
  pub full : HasTried (FoundFull block shelf) p last
  pub keeps : KeepsBlocks h p last
  pub same : OwnsSame p last
  pub called : HasCalled last (put block.place block.need shelf) 0 reply.Put q
  pub rest : IsAtRest h q

-- of a block three words were read, or none where it has fewer
abbrev pub AreThree : Block → List ℕ → Type 0
AreThree block words = (length words ≡ 3) ⊎ ((usable_words block.need < 3) × (words ≡ []))

-- a pass has gone on with its blocks kept, by takes from a shelf that got none, and then taken this block from it
pub record HasTakenOff (h : HeapFields) (p : Pass) (shelf : ℕ) (block : Block) (q : Pass) : Type 0 where
  pub last : Pass
  pub missed : HasTried (GotNone shelf) p last
  pub keeps : KeepsBlocks h p last
  pub called : HasCalled last (take shelf) 1 (reply.Got block.place block.need) q
  pub owned : Owns q block
  pub rest : IsAtRest h q
