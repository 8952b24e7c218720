-- The words of a heap before the first step, and the state of its callers then.
use Rattle.std.specs.Prelude.{ℕ, ◌≡◌, ◌<◌, ◌+◌, ◌-◌, ◌==◌, ◌&&◌, nat_lt, min, if◌then◌else◌, []}
use Rattle.heap_geometry.specs.declared.geometry.Geometry.{Geometry}
use Rattle.heap_geometry.specs.Need.{block_count_of}
use Rattle.heap_geometry.specs.Place.{block_place, index_of}
use Rattle.packed_words.specs.declared.active.ActiveWord.TheVariants.{Held}
use Rattle.packed_words.specs.declared.anchor.AnchorState.TheVariants as state
use Rattle.packed_words.specs.Active.{active_word}
use Rattle.packed_words.specs.Anchor.{AnchorFields, anchor_word}
use Rattle.packed_words.specs.Info.{info_word}
use Rattle.word_table.specs.declared.limits.TheConstants.{MOST_CREDITS}
use Rattle.word_table.specs.declared.name.WordName.{WordName}
use Rattle.word_table.specs.declared.name.WordName.TheVariants.{Arena, Anchor, Next, Info, Active, Slot, ListHead, FrameNext, FrameHead, DescHead, Hazard, Units, Shelf}
use Rattle.word_table.specs.Counts.{descriptor_count}
use Rattle.word_table.specs.Table.{exists}
use Rattle.errand_steps.specs.Errands.{open_errand}
use Rattle.errand_steps.specs.Steps.{State}

-- the next word of an index in a stack of so many, in their order: the next index plus 1, and 0 for the last
abbrev pub next_index : ℕ → ℕ → ℕ
next_index count index = if index + 1 == count then 0 else index + 2

-- the words of a heap at opening: all descriptors and all frames stand on their stacks, the first one on top
abbrev pub opening : Geometry → WordName → ℕ
opening g (Arena word) = 0
opening g (Anchor desc) = 0
opening g (Next desc) = next_index (descriptor_count g) desc
opening g (Info desc) = 0
opening g (Active heap class) = 0
opening g (Slot heap class) = 0
opening g (ListHead class) = 0
opening g (FrameNext frame) = next_index g.frames frame
opening g FrameHead = 1
opening g DescHead = 1
opening g (Hazard caller) = 0
opening g Units = 0
opening g (Shelf shelf) = 0

-- the link of a free block of frame 0, which is the index of the next one, and 0 for the last; 0 at any other word
abbrev pub link_at : ℕ → ℕ → ℕ
link_at class word =
    let index = index_of class word in
    if word == block_place 0 class index && nat_lt (index + 1) (block_count_of class) then index + 1 else 0

-- the credits of a superblock whose blocks are all free
abbrev pub full_credits : ℕ → ℕ
full_credits class = min (block_count_of class) MOST_CREDITS - 1

-- the anchor of a superblock whose blocks are all free, where it is the active one
abbrev pub full_anchor : ℕ → AnchorFields
full_anchor class = record { avail = 0; count = block_count_of class - (full_credits class + 1); state = state.Active; tag = 0 }

-- the words at opening, with a superblock of the class in frame 0, of descriptor 0, that is the active one of heap 0 and all of whose blocks are free
abbrev pub installed : Geometry → ℕ → WordName → ℕ
installed g class (Arena word) = link_at class word
installed g class (Anchor desc) = if desc == 0 then anchor_word (full_anchor class) else 0
installed g class (Next desc) = opening g (Next desc)
installed g class (Info desc) = if desc == 0 then info_word (record { frame = 0; heap = 0; class = class }) else 0
installed g class (Active heap of_class) = if heap == 0 && of_class == class then active_word (Held 0 (full_credits class)) else 0
installed g class (Slot heap of_class) = 0
installed g class (ListHead of_class) = 0
installed g class (FrameNext frame) = opening g (FrameNext frame)
installed g class FrameHead = opening g (FrameNext 0)
installed g class DescHead = opening g (Next 0)
installed g class (Hazard caller) = 0
installed g class Units = 0
installed g class (Shelf shelf) = 0

-- no step is made: these are the words of the heap, and 0 for a name that it hasn't; every caller is idle, and nothing has happened
pub record IsOpening (g : Geometry) (first : WordName → ℕ) (s : State) : Type 0 where
  pub word : (n : WordName) → s.word n ≡ (if exists g n then first n else 0)
  pub errand : (caller : ℕ) → caller < g.callers → s.errand caller ≡ open_errand caller g
  pub history : s.history ≡ []
