-- How blocks spell a list of pairs, and how the slots without a node are chained.
use Rattle.std.specs.Prelude.{ℕ, ◌≡◌, ◌==◌, ◌+◌, List, [], ◌∷◌, ◌++◌, Option, Some, None, length, slice_get, if◌then◌else◌}
use Rattle.pool_model.specs.Pool.{Block as PoolBlock}
use Rattle.live_heap.specs.declared.block.Block.{Block}
use Rattle.typed_store.specs.declared.slot.Slot.{Slot}
use Rattle.typed_store.specs.declared.slot.Slot.TheVariants.{Node, Spare}
use Rattle.typed_store.specs.Links.{Leads}

-- a node is three words: the number of the next one, a key and a value
abbrev pub node_of : List (Option ℕ) → Option (ℕ × (ℕ × ℕ))
node_of (Some next ∷ Some key ∷ Some value ∷ []) = Some (next, (key, value))
node_of words = None

abbrev pub node_at : Option PoolBlock → Option (ℕ × (ℕ × ℕ))
node_at None = None
node_at (Some block) = node_of block.contents

-- the node of a slot: it stands in the block at the place of the slot's token. What block is owned at a place is given
abbrev pub node_in : (ℕ → Option PoolBlock) → Option Slot → Option (ℕ × (ℕ × ℕ))
node_in owned (Some (Node block)) = node_at (owned block.place)
node_in owned slot = None

abbrev pub nodes_at : (ℕ → Option PoolBlock) → List Slot → ℕ → Option (ℕ × (ℕ × ℕ))
nodes_at owned slots slot = node_in owned (slice_get slots slot)

-- from this number on the blocks spell the pairs: the number is 0 and there is none; or it is that of a slot plus 1, and in the block at the slot's place stand the first pair and the number from which on they spell the others
abbrev pub Spells : (ℕ → Option PoolBlock) → List Slot → ℕ → List (ℕ × ℕ) → Type 0
Spells owned slots head pairs = Leads (nodes_at owned slots) head pairs 0

-- the tokens in slots
abbrev pub token_in : Slot → List Block
token_in (Node block) = block ∷ []
token_in (Spare next) = []

abbrev pub tokens_in : List Slot → List Block
tokens_in [] = []
tokens_in (slot ∷ slots) = token_in slot ++ tokens_in slots

-- what stands in a slot without a node: the number of the next such slot
abbrev pub spare_in : Option Slot → Option (ℕ × Unit {0})
spare_in (Some (Spare next)) = Some (next, tt)
spare_in slot = None

abbrev pub spares_at : List Slot → ℕ → Option (ℕ × Unit {0})
spares_at slots slot = spare_in (slice_get slots slot)

-- the slots that are chained from this number on, and those with a node, are all
abbrev pub IsSpare : List Slot → ℕ → Type 0
IsSpare slots unused =
    (chain : List (Unit {0})) × Leads (spares_at slots) unused chain 0 × (length (tokens_in slots) + length chain ≡ length slots)

-- the first pair with this key, and the pairs without it
abbrev pub first_with : ℕ → List (ℕ × ℕ) → Option (ℕ × ℕ)
first_with key [] = None
first_with key (pair ∷ pairs) = if pair.0 == key then Some pair else first_with key pairs

abbrev pub without_first : ℕ → List (ℕ × ℕ) → List (ℕ × ℕ)
without_first key [] = []
without_first key (pair ∷ pairs) = if pair.0 == key then pairs else pair ∷ without_first key pairs
