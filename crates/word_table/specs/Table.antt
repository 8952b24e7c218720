-- The names of the shared words, and their order in the table.
use Rattle.std.specs.Prelude.{ℕ, Bool, true, ◌<◌, ◌+◌, ◌-◌, ◌*◌, ◌/◌, ◌%◌, ◌&&◌, nat_lt, if◌then◌else◌, List, [], ◌∷◌, map, take}
use Rattle.heap_geometry.specs.declared.geometry.Geometry.{Geometry}
use Rattle.heap_geometry.specs.declared.limits.TheConstants.{CLASSES, SHELVES}
use Rattle.word_table.specs.Counts.{arena_words, descriptor_count}
use Rattle.word_table.specs.declared.group.Group.{Group}
use Rattle.word_table.specs.declared.group.Group.TheVariants.{ArenaWords, Anchors, Nexts, Infos, Actives, Slots, ListHeads, FrameNexts, FrameHeads, DescHeads, Hazards, UnitWords, Shelves}
use Rattle.word_table.specs.declared.name.WordName.{WordName}
use Rattle.word_table.specs.declared.name.WordName.TheVariants.{Arena, Anchor, Next, Info, Active, Slot, ListHead, FrameNext, FrameHead, DescHead, Hazard, Units, Shelf}

-- the heap has this word: its numbers are in range
abbrev pub Exists : Geometry → WordName → Type 0
Exists g (Arena word) = word < arena_words g
Exists g (Anchor desc) = desc < descriptor_count g
Exists g (Next desc) = desc < descriptor_count g
Exists g (Info desc) = desc < descriptor_count g
Exists g (Active heap class) = (heap < g.heaps) × (class < CLASSES)
Exists g (Slot heap class) = (heap < g.heaps) × (class < CLASSES)
Exists g (ListHead class) = class < CLASSES
Exists g (FrameNext frame) = frame < g.frames
Exists g FrameHead = Unit {0}
Exists g DescHead = Unit {0}
Exists g (Hazard caller) = caller < g.callers
Exists g Units = Unit {0}
Exists g (Shelf shelf) = shelf < SHELVES

-- whether the heap has this word
abbrev pub exists : Geometry → WordName → Bool
exists g (Arena word) = nat_lt word (arena_words g)
exists g (Anchor desc) = nat_lt desc (descriptor_count g)
exists g (Next desc) = nat_lt desc (descriptor_count g)
exists g (Info desc) = nat_lt desc (descriptor_count g)
exists g (Active heap class) = nat_lt heap g.heaps && nat_lt class CLASSES
exists g (Slot heap class) = nat_lt heap g.heaps && nat_lt class CLASSES
exists g (ListHead class) = nat_lt class CLASSES
exists g (FrameNext frame) = nat_lt frame g.frames
exists g FrameHead = true
exists g DescHead = true
exists g (Hazard caller) = nat_lt caller g.callers
exists g Units = true
exists g (Shelf shelf) = nat_lt shelf SHELVES

-- the groups of words, in their order in the table
abbrev pub groups : List Group
groups =
    ArenaWords ∷ Anchors ∷ Nexts ∷ Infos ∷ Actives ∷ Slots ∷ ListHeads ∷ FrameNexts ∷ FrameHeads ∷ DescHeads ∷ Hazards
    ∷ UnitWords ∷ Shelves ∷ []

-- how many groups stand before one
abbrev pub group_number : Group → ℕ
group_number ArenaWords = 0
group_number Anchors = 1
group_number Nexts = 2
group_number Infos = 3
group_number Actives = 4
group_number Slots = 5
group_number ListHeads = 6
group_number FrameNexts = 7
group_number FrameHeads = 8
group_number DescHeads = 9
group_number Hazards = 10
group_number UnitWords = 11
group_number Shelves = 12

-- how many words a group has
abbrev pub group_words : Geometry → Group → ℕ
group_words g ArenaWords = arena_words g
group_words g Anchors = descriptor_count g
group_words g Nexts = descriptor_count g
group_words g Infos = descriptor_count g
group_words g Actives = g.heaps * CLASSES
group_words g Slots = g.heaps * CLASSES
group_words g ListHeads = CLASSES
group_words g FrameNexts = g.frames
group_words g FrameHeads = 1
group_words g DescHeads = 1
group_words g Hazards = g.callers
group_words g UnitWords = 1
group_words g Shelves = SHELVES

-- the word at a place of a group; of a heap's words for each class, those of one heap stand together
abbrev pub name_at : Group → ℕ → WordName
name_at ArenaWords offset = Arena offset
name_at Anchors offset = Anchor offset
name_at Nexts offset = Next offset
name_at Infos offset = Info offset
name_at Actives offset = Active (offset / CLASSES) (offset % CLASSES)
name_at Slots offset = Slot (offset / CLASSES) (offset % CLASSES)
name_at ListHeads offset = ListHead offset
name_at FrameNexts offset = FrameNext offset
name_at FrameHeads offset = FrameHead
name_at DescHeads offset = DescHead
name_at Hazards offset = Hazard offset
name_at UnitWords offset = Units
name_at Shelves offset = Shelf offset

-- the group of a word
abbrev pub group_of : WordName → Group
group_of (Arena word) = ArenaWords
group_of (Anchor desc) = Anchors
group_of (Next desc) = Nexts
group_of (Info desc) = Infos
group_of (Active heap class) = Actives
group_of (Slot heap class) = Slots
group_of (ListHead class) = ListHeads
group_of (FrameNext frame) = FrameNexts
group_of FrameHead = FrameHeads
group_of DescHead = DescHeads
group_of (Hazard caller) = Hazards
group_of Units = UnitWords
group_of (Shelf shelf) = Shelves

-- the place of a word in its group
abbrev pub offset_of : WordName → ℕ
offset_of (Arena word) = word
offset_of (Anchor desc) = desc
offset_of (Next desc) = desc
offset_of (Info desc) = desc
offset_of (Active heap class) = heap * CLASSES + class
offset_of (Slot heap class) = heap * CLASSES + class
offset_of (ListHead class) = class
offset_of (FrameNext frame) = frame
offset_of FrameHead = 0
offset_of DescHead = 0
offset_of (Hazard caller) = caller
offset_of Units = 0
offset_of (Shelf shelf) = shelf

-- the words of some groups
unfoldable pub words_in : Geometry → List Group → ℕ
words_in g [] = 0
words_in g (group ∷ rest) = group_words g group + words_in g rest

-- the beginning of a group in the table: behind the words of all groups before it
unfoldable pub start_of : Geometry → Group → ℕ
start_of g group = words_in g (take (group_number group) groups)

-- the beginnings of all groups in the table
abbrev pub starts_of : Geometry → List ℕ
starts_of g = map (start_of g) groups

-- the place of a word in the table
unfoldable pub word_index : Geometry → WordName → ℕ
word_index g name = start_of g (group_of name) + offset_of name

-- the word at a place of some groups; the head of the frames where they have no such place
unfoldable pub name_in : Geometry → List Group → ℕ → WordName
name_in g [] index = FrameHead
name_in g (group ∷ rest) index =
    if nat_lt index (group_words g group)
    then name_at group index
    else name_in g rest (index - group_words g group)

-- the word at a place of the table
unfoldable pub word_name : Geometry → ℕ → WordName
word_name g index = name_in g groups index
