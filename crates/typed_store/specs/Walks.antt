-- The calls on the words of a pass's blocks, and the reads that a walk along a list makes.
use Rattle.std.specs.Prelude.{ℕ, suc, ◌≡◌, ◌⊎◌, List, [], ◌∷◌, ◌++◌, Option, Some, None, length, slice_get}
use Rattle.heap_geometry.specs.declared.need.Need.{Need}
use Rattle.errand_steps.specs.declared.reply.Reply.{Reply}
use Rattle.errand_steps.specs.declared.reply.Reply.TheVariants as reply
use Rattle.pool_model.specs.declared.event.Event.{Event}
use Rattle.pool_model.specs.declared.event.Event.TheVariants.{Write}
use Rattle.errand_steps.specs.Calls.{Call, read, write}
use Rattle.sound_laws.specs.events.Made.{LeadsBy, Made, answered, found_from}
use Rattle.live_heap.specs.declared.block.Block.{Block}
use Rattle.live_heap.specs.Heaps.{HeapFields}
use Rattle.live_heap.specs.declared.pass.Pass.{Pass}
use Rattle.live_heap.specs.Calls.{HasCalled}
use Rattle.live_heap.specs.Whole.{IsAtRest, OwnsFor}
use Rattle.typed_store.specs.declared.slot.Slot.{Slot}
use Rattle.typed_store.specs.declared.slot.Slot.TheVariants.{Node}

-- the call is a read, which found a word; it is that, or a write
abbrev pub IsRead : Made → Type 0
IsRead made = (place : ℕ) × (need : Need) × (i : ℕ) × (word : ℕ) × (made ≡ answered (read place need i) (reply.Word word))

abbrev pub IsOnWord : Made → Type 0
IsOnWord made =
    IsRead made ⊎ ((place : ℕ) × (need : Need) × (i : ℕ) × (v : ℕ) × (made ≡ answered (write place need i v) reply.Wrote))

-- a whole call on a block of the pass's own, by one access to a shared word
abbrev pub CallsOnce : HeapFields → Pass → Call → Reply → Pass → Type 0
CallsOnce h p call answer q = HasCalled p call 0 answer q × OwnsFor p call × IsAtRest h q

-- calls of one access each, one after the other, led from one pass to the other
abbrev pub LedBy : HeapFields → Pass → List Made → Pass → Type 0
LedBy h p made q = LeadsBy (CallsOnce h) p made q

-- the events that these calls add: that of each write
abbrev pub event_of : ℕ → Call → List Event
event_of caller (write place need i v) = Write caller place i v ∷ []
event_of caller call = []

abbrev pub events_of : ℕ → List Made → List Event
events_of caller [] = []
events_of caller (made ∷ rest) = event_of caller made.call ++ events_of caller rest

-- the reads of a node, which found these three words
abbrev pub node_reads : Block → ℕ → ℕ × ℕ → List Made
node_reads block next pair = found_from block.place block.need 0 (next ∷ pair.0 ∷ pair.1 ∷ [])

-- the reads of a record, which found how many words there are, and these words
abbrev pub record_reads : Block → List ℕ → List Made
record_reads block words = found_from block.place block.need 0 (length words ∷ words)

-- the reads of one node after the other, from a number to another: each found the number of the next node and a pair
abbrev pub ReadsAlong : List Slot → ℕ → List (ℕ × ℕ) → ℕ → List Made → Type 0
ReadsAlong slots from [] to made = (from ≡ to) × (made ≡ [])
ReadsAlong slots from (pair ∷ pairs) to made =
    (slot : ℕ) × (block : Block) × (next : ℕ) × (rest : List Made) × (from ≡ suc slot) × (slice_get slots slot ≡ Some (Node block))
    × (made ≡ node_reads block next pair ++ rest) × ReadsAlong slots next pairs to rest

-- reads of the nodes from a number on, to the end of their list, led from one pass to the other, and found these pairs
abbrev pub ReadsPairs : HeapFields → Pass → List Slot → ℕ → List (ℕ × ℕ) → Pass → Type 0
ReadsPairs h p slots head pairs q = (made : List Made) × ReadsAlong slots head pairs 0 made × LedBy h p made q

-- reads of the record of this number led from one pass to the other, and found these words; where there is no such record nothing is read
abbrev pub ReadsRecord : HeapFields → Pass → List Block → ℕ → Option (List ℕ) → Pass → Type 0
ReadsRecord h p records number None q = q ≡ p
ReadsRecord h p records number (Some words) q =
    (block : Block) × (slice_get records number ≡ Some block) × LedBy h p (record_reads block words) q
