-- What the caller of a pass owns, place by place, and what a call makes of it.
use Rattle.std.specs.Prelude.{ℕ, ◌≡◌, ◌≢◌, ◌++◌, ◌⊎◌, List, [], ◌∷◌, Option, Some, None, option_map, slice_index_or}
use Rattle.pool_model.specs.declared.event.Event.{Event}
use Rattle.pool_model.specs.declared.event.Event.TheVariants as event
use Rattle.pool_model.specs.declared.owner.Owner.TheVariants.{Caller, Shelf}
use Rattle.pool_model.specs.Histories.{EndsWith}
use Rattle.pool_model.specs.Owned.{owned_at}
use Rattle.pool_model.specs.Pool.{Block, block_at, fresh_block, handed_to, pool_of, written}
use Rattle.errand_steps.specs.declared.reply.Reply.{Reply}
use Rattle.errand_steps.specs.declared.reply.Reply.TheVariants as reply
use Rattle.errand_steps.specs.Calls.{Call, alloc, free, put, take, write}
use Rattle.errand_steps.specs.tables.CallStage.{StageOfCall}
use Rattle.errand_steps.specs.tables.CallStage as stage
use Rattle.step_machine.specs.Keeping.{LeavesPlace}
use Rattle.live_heap.specs.declared.pass.Pass.{Pass}
use Rattle.live_heap.specs.Passes.{seen}

-- the caller's block at a place after these events, with its words, where it has one there
abbrev pub owned_after : List Event → ℕ → ℕ → Option Block
owned_after events caller place = owned_at caller place (pool_of events)

-- a pass's block at a place after the events that the pass has seen, with its words, where its caller has one there
abbrev pub owned_in : Pass → ℕ → Option Block
owned_in p place = owned_after (seen p) p.errand.caller place

-- what a usable word of the caller's block at a place holds, where that was written
abbrev pub word_of : Option Block → ℕ → Option ℕ
word_of None i = None
word_of (Some block) i = slice_index_or block.contents i None

abbrev pub word_in : Pass → ℕ → ℕ → Option ℕ
word_in p place i = word_of (owned_in p place) i

-- the call neither writes this word nor gives its block away
abbrev pub LeavesWord : Call → ℕ → ℕ → Type 0
LeavesWord (write at need j value) place i = (place ≢ at) ⊎ (i ≢ j)
LeavesWord call place i = LeavesPlace call place

-- the pass owns the same blocks, with the same words
abbrev pub OwnsSame : Pass → Pass → Type 0
OwnsSame p q = (place : ℕ) → owned_in q place ≡ owned_in p place

-- the pass owns the same blocks but at one place, where it owns this now
pub record OwnsBut (p q : Pass) (place : ℕ) (now : Option Block) : Type 0 where
  pub here : owned_in q place ≡ now
  pub others : (other : ℕ) → other ≢ place → owned_in q other ≡ owned_in p other

-- the event of the last step of a call that has ended so; none where that isn't the same for all such calls
abbrev pub tells_last : ℕ → Call → Reply → Option Event
tells_last caller (write place need i value) reply.Wrote = Some (event.Write caller place i value)
tells_last caller (put place need shelf) reply.Put = Some (event.Put caller place shelf)
tells_last caller (take shelf) (reply.Got place need) = Some (event.Take caller shelf place)
tells_last caller (take shelf) reply.Empty = Some (event.TakeNone caller shelf)
tells_last caller call answer = None

-- at a place where the pass owned nothing it owns a new block, of which no word is written
pub record IsGiven (p : Pass) (words place : ℕ) (q : Pass) : Type 0 where
  pub nothing : owned_in p place ≡ None
  pub given : OwnsBut p q place (Some (fresh_block p.errand.caller words place))

-- the last event seen is the put: the block lies on the shelf, with the words that it had
pub record HasPut (p : Pass) (place shelf : ℕ) (q : Pass) : Type 0 where
  pub gone : OwnsBut p q place None
  pub block : Block
  pub was : owned_in p place ≡ Some block
  pub last : EndsWith (seen q) (event.Put p.errand.caller place shelf)
  pub lies : block_at place (pool_of (seen q)) ≡ Some (handed_to (Shelf shelf) block)

-- the last event seen is the take, before which the block lay on the shelf: the pass owns it, with the words that it had there
pub record HasGot (p : Pass) (shelf place : ℕ) (q : Pass) : Type 0 where
  pub nothing : owned_in p place ≡ None
  pub before : List Event
  pub last : seen q ≡ before ++ event.Take p.errand.caller shelf place ∷ []
  pub block : Block
  pub lay : block_at place (pool_of before) ≡ Some block
  pub on : block.owner ≡ Shelf shelf
  pub got : OwnsBut p q place (Some (handed_to (Caller p.errand.caller) block))

-- what a call that has ended so has made of what its caller owns: it changes the one block that it is about
abbrev pub HasChanged : Pass → Call → Reply → Pass → Type 0
HasChanged p (alloc words) (reply.Given place need) q = IsGiven p words place q
HasChanged p (free place need) reply.Freed q = OwnsBut p q place None
HasChanged p (write place need i value) reply.Wrote q = OwnsBut p q place (option_map (written i value) (owned_in p place))
HasChanged p (put place need shelf) reply.Put q = HasPut p place shelf q
HasChanged p (take shelf) (reply.Got place need) q = HasGot p shelf place q
HasChanged p call answer q = OwnsSame p q

-- what a call under way has made of what its caller owns: behind its event an allocation has its block, and a free has none any more
abbrev pub HasChangedSoFar : Pass → Call → StageOfCall → Pass → Type 0
HasChangedSoFar p (alloc words) (stage.given place need) q = IsGiven p words place q
HasChangedSoFar p (free place need) stage.freed q = OwnsBut p q place None
HasChangedSoFar p call stage q = OwnsSame p q
