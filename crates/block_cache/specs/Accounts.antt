-- All blocks of a pass's caller, between calls and while one waits to be resumed.
use Rattle.std.specs.Prelude.{ℕ, ◌≡◌, ◌++◌, List, [], ◌∷◌}
use Rattle.heap_geometry.specs.declared.need.Need.{Need}
use Rattle.errand_steps.specs.Begins.{IsBusy, IsIdle}
use Rattle.errand_steps.specs.Calls.{Call, free}
use Rattle.errand_steps.specs.tables.CallStage.{StageOfCall, freeing, given}
use Rattle.live_heap.specs.declared.block.Block.{Block}
use Rattle.live_heap.specs.Heaps.{HeapFields}
use Rattle.live_heap.specs.declared.pass.Pass.{Pass}
use Rattle.live_heap.specs.Answers.{IsTried}
use Rattle.live_heap.specs.Calls.{IsCalling}
use Rattle.live_heap.specs.Holdings.{HoldsExactly}
use Rattle.live_heap.specs.Passes.{IsOf}

-- these blocks with one more in front, which lies at this place and serves this need
pub record IsOneMore (place : ℕ) (need : Need) (blocks more : List Block) : Type 0 where
  pub block : Block
  pub lies : block.place ≡ place
  pub serves : block.need ≡ need
  pub is : more ≡ block ∷ blocks

-- what the caller had when it began a call that is about none of these blocks: a free is about one block more
abbrev pub Began : Call → List Block → List Block → Type 0
Began (free place need) blocks had = IsOneMore place need blocks had
Began call blocks had = had ≡ blocks

-- an allocation or a free is interrupted that is about none of these blocks, and they were all others that the caller had
pub record HasAllInCall (p : Pass) (blocks : List Block) : Type 0 where
  pub first : Pass
  pub of : (h : HeapFields) → IsOf h p → IsOf h first
  pub call : Call
  pub steps : ℕ
  pub calling : IsCalling first call steps p
  pub tried : IsTried call
  pub had : List Block
  pub began : Began call blocks had
  pub exact : HoldsExactly first had

-- these are all blocks that the caller owns, each once; while a call is under way, all but the one that the call is about
pub record HasAll (p : Pass) (blocks : List Block) : Type 0 where
  pub at_rest : IsIdle p.errand → HoldsExactly p blocks
  pub in_call : IsBusy p.errand → HasAllInCall p blocks

-- the block that a call under way keeps: a free its own until its event, an allocation its own behind its event
abbrev pub KeepsUnderWay : StageOfCall → List Block → Type 0
KeepsUnderWay (given place need) kept = IsOneMore place need [] kept
KeepsUnderWay (freeing place need) kept = IsOneMore place need [] kept
KeepsUnderWay stage kept = kept ≡ []

-- the block is one of these
abbrev pub IsAmong : Block → List Block → Type 0
IsAmong block blocks = (before : List Block) × (after : List Block) × (blocks ≡ before ++ block ∷ after)
