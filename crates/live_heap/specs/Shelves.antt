-- Which words may lie on which shelf, as a heap's rule says it.
use Rattle.std.specs.Prelude.{ℕ, ◌≡◌, List, Option, Some}
use Rattle.heap_geometry.specs.declared.need.Need.{Need}
use Rattle.step_parts.specs.declared.large.point.LargePoint.TheVariants.{PutBlock}
use Rattle.pool_model.specs.declared.event.Event.{Event}
use Rattle.pool_model.specs.declared.owner.Owner.TheVariants.{Shelf}
use Rattle.pool_model.specs.Histories.{Begins}
use Rattle.pool_model.specs.Owned.{owned_at}
use Rattle.pool_model.specs.Pool.{Block, block_at, pool_of}
use Rattle.errand_steps.specs.declared.continuation.Continuation.{Continuation}
use Rattle.errand_steps.specs.declared.point.Point.TheVariants.{Large}
use Rattle.errand_steps.specs.Errands.{ErrandFields}

-- which words may lie on which shelf: of the shelf, of what the block there serves, and of its usable words, as far as they were written
abbrev pub AllowedWords : Type 1
AllowedWords = ℕ → Need → List (Option ℕ) → Type 0

-- any words may lie on any shelf
abbrev pub any_words : AllowedWords
any_words shelf need contents = Unit {0}

-- each block that lies on a shelf behind these events keeps the rule
abbrev pub LieByRule : AllowedWords → List Event → Type 0
LieByRule rule events =
    (place shelf : ℕ) (block : Block) → block_at place (pool_of events) ≡ Some block → block.owner ≡ Shelf shelf
    → rule shelf block.need block.contents

-- so it was behind each of the events
abbrev pub AlwaysByRule : AllowedWords → List Event → Type 0
AlwaysByRule rule events = (before : List Event) → Begins before events → LieByRule rule before

-- the caller's block at the place, as it is behind these events, may lie on the shelf
abbrev pub MayLieOn : AllowedWords → List Event → ℕ → ℕ → ℕ → Type 0
MayLieOn rule events caller place shelf =
    (block : Block) → owned_at caller place (pool_of events) ≡ Some block → rule shelf block.need block.contents

-- where the errand is about to put a block on a shelf, the block may lie there
abbrev pub PutsByRule : AllowedWords → List Event → ErrandFields → Type 0
PutsByRule rule events e =
    (shelf place : ℕ) (need : Need) (goes : Continuation) → e.point ≡ Large (PutBlock shelf place need) goes
    → MayLieOn rule events e.caller place shelf
