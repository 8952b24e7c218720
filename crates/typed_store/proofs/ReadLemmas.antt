-- The reads of one node after the other.
use Rattle.std.proofs.Common.{ℕ, suc, ◌≡◌, ◌-◌, List, [], ◌∷◌, ◌++◌, Some, refl, ◌∙◌, ap, append_assoc}
use Rattle.std.specs.List.{slice_get}
use Rattle.sound_laws.specs.events.Made.{Made}
use Rattle.live_heap.specs.declared.block.Block.{Block}
use Rattle.typed_store.specs.declared.slot.Slot.{Slot}
use Rattle.typed_store.specs.declared.slot.Slot.TheVariants.{Node}
use Rattle.typed_store.specs.Walks.{ReadsAlong, node_reads}

-- reads along a chain go on by those of one node more
pub along-more :
    (slots : List Slot) (from here next : ℕ) (block : Block) (pairs : List (ℕ × ℕ)) (pair : ℕ × ℕ) (made : List Made)
    → here ≡ suc (here - 1) → slice_get slots (here - 1) ≡ Some (Node block) → ReadsAlong slots from pairs here made
    → ReadsAlong slots from (pairs ++ pair ∷ []) next (made ++ node_reads block next pair)
along-more slots from here next block [] pair made number is (same, none) =
    (here - 1, block, next, [], same ∙ number, is, ap (λ l. l ++ node_reads block next pair) none, (refl, refl))
along-more slots from here next block (first ∷ pairs) pair made number is (slot, token, then, rest, at, there, made_is, left) = (
  slot,
  token,
  then,
  rest ++ node_reads block next pair,
  at,
  there,
  ap (λ l. l ++ node_reads block next pair) made_is ∙ append_assoc (node_reads token then first) rest (node_reads block next pair),
  along-more slots then here next block pairs pair rest number is left,
)
