-- What a pass holds behind a call.
use Rattle.std.proofs.Common.{◌≢◌, List, [], ◌∷◌, ◌++◌, All, Option, Some, None}
use Rattle.std.proofs.lemmas.List.Elements.{All-nil, All-cons, All-head, All-tail}
use Rattle.errand_steps.specs.Calls.{Call}
use Rattle.step_machine.specs.Keeping.{LeavesPlace}
use Rattle.live_heap.specs.declared.block.Block.{Block}
use Rattle.live_heap.specs.Heaps.{HeapFields}
use Rattle.live_heap.specs.declared.pass.Pass.{Pass}
use Rattle.live_heap.specs.Holdings.{Holds}
use Rattle.live_heap.specs.Passes.{Owns}
use Rattle.benches.specs.Hands.{HasMade, got_by}

-- blocks that are owned still, each of them, are held still
holds-but :
    (L : Block → Type 0) (p q : Pass) → ((block : Block) → L block → Owns p block → Owns q block)
    → (blocks : List Block) → All L blocks → Holds p blocks → Holds q blocks
holds-but L p q keep [] left held = tt
holds-but L p q keep (b ∷ bs) left held =
    (keep b (All-head L b bs left) held.0, held.1, holds-but L p q keep bs (All-tail L b bs left) held.2)

pub holds-keeps :
    (p q : Pass) → ((block : Block) → Owns p block → Owns q block) → (blocks : List Block) → Holds p blocks → Holds q blocks
holds-keeps p q keep [] held = tt
holds-keeps p q keep (b ∷ bs) held = (keep b held.0, held.1, holds-keeps p q keep bs held.2)

-- what is so of each block that a pass owns is so of each that it holds
holds-all : (p : Pass) (P : Block → Type 0) → ((block : Block) → Owns p block → P block) → (blocks : List Block) → Holds p blocks → All P blocks
holds-all p P each [] held = All-nil P
holds-all p P each (b ∷ bs) held = All-cons P b bs (each b held.0) (holds-all p P each bs held.2)

-- a call that gives no block away brings one, or none
pub made-holds :
    (h : HeapFields) (p q : Pass) (call : Call) (got : Option Block) (blocks : List Block) → ((other : Block) → LeavesPlace call other.place)
    → HasMade h p call got q → Holds p blocks → Holds q (got_by got ++ blocks)
made-holds h p q call None blocks leaves made held = holds-keeps p q (λ other owned. made.keeps other (leaves other) owned) blocks held
made-holds h p q call (Some block) blocks leaves made held = (
  made.new.0,
  holds-all p (λ other. other.place ≢ block.place) made.new.1 blocks held,
  holds-keeps p q (λ other owned. made.keeps other (leaves other) owned) blocks held,
)

-- a call gives one of the held blocks away, and brings none
pub made-gone :
    (h : HeapFields) (p q : Pass) (call : Call) (block : Block) (blocks : List Block)
    → ((other : Block) → other.place ≢ block.place → LeavesPlace call other.place) → HasMade h p call None q
    → Holds p (block ∷ blocks) → Holds q blocks
made-gone h p q call block blocks leaves made held =
    holds-but (λ other. other.place ≢ block.place) p q (λ other differs owned. made.keeps other (leaves other differs) owned) blocks held.1 held.2
