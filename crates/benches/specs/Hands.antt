-- What calls leave a pass with, and a hand.
use Rattle.std.specs.Prelude.{ℕ, ◌≡◌, ◌≢◌, ◌∷◌, Option, Some, None, IfSome, List, [], map}
use Rattle.errand_steps.specs.Begins.{IsIdle}
use Rattle.errand_steps.specs.Calls.{Call}
use Rattle.step_machine.specs.Keeping.{LeavesPlace}
use Rattle.live_heap.specs.declared.block.Block.{Block}
use Rattle.live_heap.specs.Heaps.{HeapFields}
use Rattle.live_heap.specs.declared.pass.Pass.{Pass}
use Rattle.live_heap.specs.Answers.{IsTried}
use Rattle.live_heap.specs.Calls.{IsCalling}
use Rattle.live_heap.specs.Passes.{IsOf, Owns}
use Rattle.benches.specs.declared.heap.worker.Stamped.{Stamped}
use Rattle.benches.specs.declared.heap.worker.Worker.{Worker}

-- the pass is of this heap, in no call, and no block's words are out with it
abbrev pub Rests : HeapFields → Pass → Type 0
Rests h p = IsOf h p × IsIdle p.errand × (p.out ≡ 0)

-- an allocation or a free is under way, which a pass at rest has begun
pub record IsUnderWay (h : HeapFields) (p : Pass) : Type 0 where
  pub first : Pass
  pub rests : Rests h first
  pub call : Call
  pub steps : ℕ
  pub calling : IsCalling first call steps p
  pub tried : IsTried call

-- the pass has made this call: it rests again, and owns each block that it owned but the one that the call gave away; and the block that the call got is its own, and none of those that it had
pub record HasMade (h : HeapFields) (p : Pass) (call : Call) (got : Option Block) (q : Pass) : Type 0 where
  pub rests : Rests h q
  pub keeps : (block : Block) → LeavesPlace call block.place → Owns p block → Owns q block
  pub new : IfSome got (λ block. Owns q block × ((other : Block) → Owns p other → other.place ≢ block.place))

-- the block that a call has got, if any
abbrev pub got_by : Option Block → List Block
got_by None = []
got_by (Some block) = block ∷ []

-- the blocks in a hand
abbrev pub blocks_of : List Stamped → List Block
blocks_of hand = map (λ held. held.block) hand

-- whatever blocks a caller held it holds still
abbrev pub Keeps : {F : Type 0} → (F → List Block → Type 0) → F → F → Type 0
Keeps holds p q = (blocks : List Block) → holds p blocks → holds q blocks

module _ {F : Type 0} (rests : HeapFields → F → Type 0) (holds : F → List Block → Type 0) where
  -- the worker is in no call, and holds all blocks in its hand
  pub record IsWorking (h : HeapFields) (w : Worker F) : Type 0 where
    pub rests_at : rests h w.front
    pub holds_all : holds w.front (blocks_of w.hand.items)

  -- the worker is in no call, holds no block, and its hand is empty
  pub record IsReady (h : HeapFields) (w : Worker F) : Type 0 where
    pub rests_at : rests h w.front
    pub holds_none : holds w.front []
    pub empty : w.hand.items ≡ []
