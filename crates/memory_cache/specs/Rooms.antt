-- Memory that a caller is given.
use Rattle.std.specs.Prelude.{◌≡◌, ◌+◌, length}
use Rattle.heap_geometry.specs.Need.{usable_words}
use Rattle.plain_words.specs.Places.{AllHere}
use Rattle.live_heap.specs.Heaps.{HeapFields}
use Rattle.live_heap.specs.declared.plain.Memory.{Memory}

-- the words are all the usable words of the block, in this heap's memory, and each is here; some may never have been laid
pub record IsRoomOf (h : HeapFields) (m : Memory) : Type 0 where
  pub at : m.words.at ≡ h.region.at
  pub first : m.words.first ≡ m.block.place + 1
  pub long : length m.words.places ≡ usable_words m.block.need
  pub here : AllHere m.words.places
