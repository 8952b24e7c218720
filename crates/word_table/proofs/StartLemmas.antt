-- Where the groups begin, as a list.
use Rattle.std.proofs.Common.{ℕ, ◌≡◌, ◌+◌, List, ap, refl, get_or}
use Rattle.heap_geometry.specs.declared.geometry.Geometry.{Geometry}
use Rattle.word_table.specs.Table.{group_number, group_of, offset_of, start_of, starts_of, word_index}
use Rattle.word_table.specs.declared.group.Group.{Group}
use Rattle.word_table.specs.declared.name.WordName.{WordName}
use Rattle.word_table.specs.declared.group.Group.TheVariants.{ArenaWords, Anchors, Nexts, Infos, Actives, Slots, ListHeads, FrameNexts, FrameHeads, DescHeads, Hazards, UnitWords, Shelves}

-- the entry of a group
start-read : (g : Geometry) (group : Group) → get_or (starts_of g) (group_number group) 0 ≡ start_of g group
start-read g ArenaWords = refl
start-read g Anchors = refl
start-read g Nexts = refl
start-read g Infos = refl
start-read g Actives = refl
start-read g Slots = refl
start-read g ListHeads = refl
start-read g FrameNexts = refl
start-read g FrameHeads = refl
start-read g DescHeads = refl
start-read g Hazards = refl
start-read g UnitWords = refl
start-read g Shelves = refl

-- the entry of a word's group, and its place there, lead to the word's place
pub index-is :
    (g value : Geometry) (name : WordName) (starts : List ℕ) (group : Group) (number offset : ℕ) → starts ≡ starts_of g → g ≡ value
    → group ≡ group_of name → number ≡ group_number group → offset ≡ offset_of name
    → get_or starts number 0 + offset ≡ word_index value name
unfolding word_index
index-is g value name starts group number offset are view is_group is_number is_offset =
    rw (are, is_number, is_group, is_offset, ← view) (ap (λ start. start + offset_of name) (start-read g (group_of name)))
