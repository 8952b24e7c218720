-- A word and its place in its group lead to each other.
use Rattle.std.proofs.Common.{ℕ, zero, suc, ◌≡◌, ◌<◌, ◌+◌, ◌*◌, ◌/◌, ◌%◌, List, [], ◌∷◌, length, get_or, arith, refl}
use Rattle.heap_geometry.specs.declared.geometry.Geometry.{Geometry}
use Rattle.heap_geometry.specs.declared.limits.TheConstants.{CLASSES}
use Rattle.word_table.specs.Table.{Exists, groups, group_number, group_words, group_of, offset_of, name_at}
use Rattle.word_table.specs.declared.group.Group.{Group}
use Rattle.word_table.specs.declared.group.Group.TheVariants.{ArenaWords, Anchors, Nexts, Infos, Actives, Slots, ListHeads, FrameNexts, FrameHeads, DescHeads, Hazards, UnitWords, Shelves}
use Rattle.word_table.specs.declared.name.WordName.{WordName}
use Rattle.word_table.specs.declared.name.WordName.TheVariants.{Arena, Anchor, Next, Info, Active, Slot, ListHead, FrameNext, FrameHead, DescHead, Hazard, Units, Shelf}

-- a word that exists has a place in its group
pub offset_of-within : (g : Geometry) (name : WordName) → Exists g name → offset_of name < group_words g (group_of name)
offset_of-within g (Arena word) is = is
offset_of-within g (Anchor desc) is = is
offset_of-within g (Next desc) is = is
offset_of-within g (Info desc) is = is
offset_of-within g (Active heap class) is = omega arith
offset_of-within g (Slot heap class) is = omega arith
offset_of-within g (ListHead class) is = is
offset_of-within g (FrameNext frame) is = is
offset_of-within g FrameHead is = omega arith
offset_of-within g DescHead is = omega arith
offset_of-within g (Hazard caller) is = is
offset_of-within g Units is = omega arith
offset_of-within g (Shelf shelf) is = is

-- the word at the place of a name in its group is that of the name
pub name_at-offset_of : (g : Geometry) (name : WordName) → Exists g name → name_at (group_of name) (offset_of name) ≡ name
name_at-offset_of g (Arena word) is = refl
name_at-offset_of g (Anchor desc) is = refl
name_at-offset_of g (Next desc) is = refl
name_at-offset_of g (Info desc) is = refl
name_at-offset_of g (Active heap class) is =
    let heap_is : (heap * CLASSES + class) / CLASSES ≡ heap = omega arith in
    let class_is : (heap * CLASSES + class) % CLASSES ≡ class = omega arith in
    rw (heap_is, class_is) refl
name_at-offset_of g (Slot heap class) is =
    let heap_is : (heap * CLASSES + class) / CLASSES ≡ heap = omega arith in
    let class_is : (heap * CLASSES + class) % CLASSES ≡ class = omega arith in
    rw (heap_is, class_is) refl
name_at-offset_of g (ListHead class) is = refl
name_at-offset_of g (FrameNext frame) is = refl
name_at-offset_of g FrameHead is = refl
name_at-offset_of g DescHead is = refl
name_at-offset_of g (Hazard caller) is = refl
name_at-offset_of g Units is = refl
name_at-offset_of g (Shelf shelf) is = refl

-- the word at a place of a group exists
pub name_at-Exists : (g : Geometry) (group : Group) (offset : ℕ) → offset < group_words g group → Exists g (name_at group offset)
name_at-Exists g ArenaWords offset below = below
name_at-Exists g Anchors offset below = below
name_at-Exists g Nexts offset below = below
name_at-Exists g Infos offset below = below
name_at-Exists g Actives offset below = (omega arith, omega arith)
name_at-Exists g Slots offset below = (omega arith, omega arith)
name_at-Exists g ListHeads offset below = below
name_at-Exists g FrameNexts offset below = below
name_at-Exists g FrameHeads offset below = tt
name_at-Exists g DescHeads offset below = tt
name_at-Exists g Hazards offset below = below
name_at-Exists g UnitWords offset below = tt
name_at-Exists g Shelves offset below = below

-- the word at a place of a group is one of that group
pub group_of-name_at : (group : Group) (offset : ℕ) → group_of (name_at group offset) ≡ group
group_of-name_at ArenaWords offset = refl
group_of-name_at Anchors offset = refl
group_of-name_at Nexts offset = refl
group_of-name_at Infos offset = refl
group_of-name_at Actives offset = refl
group_of-name_at Slots offset = refl
group_of-name_at ListHeads offset = refl
group_of-name_at FrameNexts offset = refl
group_of-name_at FrameHeads offset = refl
group_of-name_at DescHeads offset = refl
group_of-name_at Hazards offset = refl
group_of-name_at UnitWords offset = refl
group_of-name_at Shelves offset = refl

-- the word at a place of a group has that place there
pub offset_of-name_at :
    (g : Geometry) (group : Group) (offset : ℕ) → offset < group_words g group → offset_of (name_at group offset) ≡ offset
offset_of-name_at g ArenaWords offset below = refl
offset_of-name_at g Anchors offset below = refl
offset_of-name_at g Nexts offset below = refl
offset_of-name_at g Infos offset below = refl
offset_of-name_at g Actives offset below = omega arith
offset_of-name_at g Slots offset below = omega arith
offset_of-name_at g ListHeads offset below = refl
offset_of-name_at g FrameNexts offset below = refl
offset_of-name_at g FrameHeads offset below = omega arith
offset_of-name_at g DescHeads offset below = omega arith
offset_of-name_at g Hazards offset below = refl
offset_of-name_at g UnitWords offset below = omega arith
offset_of-name_at g Shelves offset below = refl

-- a group stands at its number
pub groups-group_number : (group : Group) → get_or groups (group_number group) ArenaWords ≡ group
groups-group_number ArenaWords = refl
groups-group_number Anchors = refl
groups-group_number Nexts = refl
groups-group_number Infos = refl
groups-group_number Actives = refl
groups-group_number Slots = refl
groups-group_number ListHeads = refl
groups-group_number FrameNexts = refl
groups-group_number FrameHeads = refl
groups-group_number DescHeads = refl
groups-group_number Hazards = refl
groups-group_number UnitWords = refl
groups-group_number Shelves = refl

-- the number of a group is below the number of groups
pub group_number-within : (group : Group) → group_number group < length groups
group_number-within ArenaWords = omega arith
group_number-within Anchors = omega arith
group_number-within Nexts = omega arith
group_number-within Infos = omega arith
group_number-within Actives = omega arith
group_number-within Slots = omega arith
group_number-within ListHeads = omega arith
group_number-within FrameNexts = omega arith
group_number-within FrameHeads = omega arith
group_number-within DescHeads = omega arith
group_number-within Hazards = omega arith
group_number-within UnitWords = omega arith
group_number-within Shelves = omega arith

-- the groups are numbered from this number on
abbrev IsNumbered : ℕ → List Group → Type 0
IsNumbered first [] = Unit {0}
IsNumbered first (group ∷ rest) = (group_number group ≡ first) × IsNumbered (first + 1) rest

-- each of some groups that are numbered from one on has its place as its number
number-at :
    (first : ℕ) (list : List Group) (k : ℕ) → IsNumbered first list → k < length list
    → group_number (get_or list k ArenaWords) ≡ first + k
number-at first [] k is below = absurd (omega arith)
number-at first (group ∷ rest) zero is below = omega (arith, is.0)
number-at first (group ∷ rest) (suc k) is below = omega (arith, number-at (first + 1) rest k is.1 (omega arith))

-- the group at a place has it as its number
pub group_number-groups : (k : ℕ) → k < length groups → group_number (get_or groups k ArenaWords) ≡ k
group_number-groups k below =
    omega (arith, number-at 0 groups k (refl, (refl, (refl, (refl, (refl, (refl, (refl, (refl, (refl, (refl, (refl, (refl, (refl, tt))))))))))))) below)
