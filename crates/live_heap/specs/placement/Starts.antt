-- The places of the first words of each kind, and the stretches of words that are apart.
use Rattle.heap_geometry.specs.declared.geometry.Geometry.{Geometry}
use Rattle.word_table.specs.Table.{word_index}
use Rattle.word_table.specs.declared.name.WordName.{WordName}
use Rattle.word_table.specs.declared.name.WordName.TheVariants.{Arena, Anchor, Next, Info, Active, Slot, ListHead, FrameNext, FrameHead, DescHead, Hazard, Units, Shelf}
use Rattle.std.specs.Prelude.{ℕ, ◌+◌, ◌*◌}
use Rattle.heap_geometry.specs.declared.limits.TheConstants.{CLASSES}
use Rattle.live_heap.specs.declared.placement.TheConstants.{APART}
use Rattle.live_heap.specs.declared.placement.Starts.{Starts}
use Rattle.live_heap.specs.declared.placement.Stretches.{Stretches}
use Rattle.live_heap.specs.placement.Places.{place, stretch_of_heads, stretch_of_heaps, stretch_of_superblocks}

-- the place of a word
abbrev pub place_of : Geometry → WordName → ℕ
place_of g name = place g (word_index g name)

abbrev pub starts_of : Geometry → Starts
starts_of g = record {
  anchors = place_of g (Anchor 0);
  nexts = place_of g (Next 0);
  infos = place_of g (Info 0);
  actives = place_of g (Active 0 0);
  slots = place_of g (Slot 0 0);
  lists = place_of g (ListHead 0);
  frames = place_of g (FrameNext 0);
  frame_head = place_of g FrameHead;
  desc_head = place_of g DescHead;
  hazards = place_of g (Hazard 0);
  units = place_of g Units;
  shelves = place_of g (Shelf 0);
}

abbrev pub stretches_of : Geometry → Stretches
stretches_of g = record { superblocks = stretch_of_superblocks g; heaps = stretch_of_heaps g; heads = stretch_of_heads g }

-- the place of a word from that of the first one of its kind
abbrev pub place_from : Starts → WordName → ℕ
place_from s (Arena word) = word
place_from s (Anchor desc) = s.anchors + APART * desc
place_from s (Next desc) = s.nexts + desc
place_from s (Info desc) = s.infos + desc
place_from s (Active heap class) = s.actives + APART * (heap * CLASSES + class)
place_from s (Slot heap class) = s.slots + APART * (heap * CLASSES + class)
place_from s (ListHead class) = s.lists + APART * class
place_from s (FrameNext frame) = s.frames + frame
place_from s FrameHead = s.frame_head
place_from s DescHead = s.desc_head
place_from s (Hazard caller) = s.hazards + APART * caller
place_from s Units = s.units
place_from s (Shelf shelf) = s.shelves + shelf
