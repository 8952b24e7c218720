-- A word and its place in the table lead to each other: places in consecutive groups.
use Rattle.std.proofs.Common.{ℕ, zero, suc, ◌≡◌, ◌<◌, ◌≤◌, ◌+◌, ◌-◌, List, [], ◌∷◌, length, get_or, take, drop, arith, add-one, refl, ap, sym, ◌∙◌, inl, inr}
use Rattle.std.proofs.lemmas.List.{get_or-take, get_or_default, length-take, drop_more, drop_all}
use Rattle.std.proofs.lemmas.Bool.{lt-ltb, le-ltb, cases_lt}
use Rattle.heap_geometry.specs.declared.geometry.Geometry.{Geometry}
use Rattle.word_table.specs.Counts.{word_count}
use Rattle.word_table.specs.Table.{Exists, groups, group_number, group_words, group_of, offset_of, name_at, words_in, start_of, word_index, name_in, word_name}
use Rattle.word_table.specs.declared.group.Group.{Group}
use Rattle.word_table.specs.declared.group.Group.TheVariants.{ArenaWords, Shelves}
use Rattle.word_table.specs.declared.name.WordName.{WordName}
use Rattle.word_table.proofs.CountLemmas.{words_in-groups}
use Rattle.word_table.proofs.GroupLemmas.{offset_of-within, name_at-offset_of, name_at-Exists, group_of-name_at, offset_of-name_at, groups-group_number, group_number-within, group_number-groups}

-- the words before a group, and its own, are among the words of all
pub words_in-take-le :
    (g : Geometry) (list : List Group) (k : ℕ) → k < length list
    → words_in g (take k list) + group_words g (get_or list k ArenaWords) ≤ words_in g list
unfolding words_in
words_in-take-le g [] k below = absurd (omega arith)
words_in-take-le g (group ∷ rest) zero below = omega arith
words_in-take-le g (group ∷ rest) (suc k) below = omega (arith, words_in-take-le g rest k (omega arith))

-- the words of the first groups and of one more: those of the first, and its own
pub words_in-take_more :
    (g : Geometry) (list : List Group) (k : ℕ) → k < length list
    → words_in g (take (suc k) list) ≡ words_in g (take k list) + group_words g (get_or list k ArenaWords)
unfolding words_in
words_in-take_more g [] k below = absurd (omega arith)
words_in-take_more g (group ∷ rest) zero below = omega arith
words_in-take_more g (group ∷ rest) (suc k) below = omega (arith, words_in-take_more g rest k (omega arith))

-- the first groups, read one by one
record IsNext (g : Geometry) (number k words : ℕ) : Type 0 where
  group : k < length groups
  is : words ≡ group_words g (get_or groups k ArenaWords)

next :
    (g : Geometry) (number k words : ℕ) (d : Group) → k < length (take number groups)
    → words ≡ group_words g (get_or (take number groups) k d) → IsNext g number k words
next g number k words d below is =
    let before : k < number = omega (arith, length-take number groups) in
    let within : k < length groups = omega (arith, length-take number groups) in
    record { group = within; is = is ∙ ap (group_words g) (get_or-take number groups k d before ∙ get_or_default groups k d ArenaWords within) }

-- the words of the first groups and of the next one: those of the first, and its own
pub start_more :
    (g : Geometry) (number k words : ℕ) (d : Group) → k < length (take number groups)
    → words ≡ group_words g (get_or (take number groups) k d)
    → words_in g (take (k + 1) groups) ≡ words_in g (take k groups) + words
start_more g number k words d below is =
    let h = next g number k words d below is in
    rw (add-one, h.is) (words_in-take_more g groups k h.group)

-- the words of the first groups and of the next one are among the words of the table
pub start_more-within :
    (g : Geometry) (number k words : ℕ) (d : Group) → k < length (take number groups)
    → words ≡ group_words g (get_or (take number groups) k d)
    → words_in g (take k groups) + words ≤ word_count g
start_more-within g number k words d below is =
    let h = next g number k words d below is in
    rw (h.is, ← words_in-groups g) (words_in-take-le g groups k h.group)

-- the words of the first groups, up to a group's number, are the words before the group
pub start_of-is :
    (g : Geometry) (group : Group) (number k start : ℕ) → number ≡ group_number group → k ≤ length (take number groups)
    → length (take number groups) ≤ k → start ≡ words_in g (take k groups) → start ≡ start_of g group
unfolding start_of
start_of-is g group number k start is most least sum =
    let within : group_number group < length groups = group_number-within group in
    let same : k ≡ group_number group = omega (arith, length-take number groups) in
    sum ∙ ap (λ k. words_in g (take k groups)) same

-- the last group ends the table
pub start_of-Shelves : (g : Geometry) → start_of g Shelves + group_words g Shelves ≡ word_count g
unfolding start_of words_in word_count
start_of-Shelves g = omega arith

-- the groups from one on, read one by one
pub words_in-drop :
    (g : Geometry) (k words : ℕ) (d : Group) → k < length groups → words ≡ group_words g (get_or groups k d)
    → words_in g (drop k groups) ≡ words + words_in g (drop (k + 1) groups)
unfolding words_in
words_in-drop g k words d below is = rw (drop_more groups k d below, is) refl

-- a place among the groups from one on that is within the first of them is a place of that group
pub name_in-here :
    (g : Geometry) (k words offset : ℕ) (d : Group) → k < length groups → words ≡ group_words g (get_or groups k d)
    → offset < words → name_in g (drop k groups) offset ≡ name_at (get_or groups k d) offset
unfolding name_in
name_in-here g k words offset d below is here =
    let first : offset < group_words g (get_or groups k d) = omega arith in
    rw (drop_more groups k d below, lt-ltb offset (group_words g (get_or groups k d)) first) refl

-- a place among the groups from one on that is behind the first of them is one among the others
pub name_in-behind :
    (g : Geometry) (k words offset : ℕ) (d : Group) → k < length groups → words ≡ group_words g (get_or groups k d)
    → words ≤ offset → name_in g (drop k groups) offset ≡ name_in g (drop (k + 1) groups) (offset - words)
unfolding name_in
name_in-behind g k words offset d below is behind =
    let past : group_words g (get_or groups k d) ≤ offset = omega arith in
    rw (drop_more groups k d below, le-ltb offset (group_words g (get_or groups k d)) past, is) refl

-- no place is behind the last group
pub none-left : (g : Geometry) (k offset : ℕ) → length groups ≤ k → offset < words_in g (drop k groups) → ⊥
unfolding words_in
none-left g k offset past below =
    let none : words_in g (drop k groups) ≡ 0 = rw (drop_all k groups past) refl in
    absurd (omega arith)

-- behind the words before a group stand the group's own
pub name_in-take :
    (g : Geometry) (list : List Group) (k offset : ℕ) → k < length list → offset < group_words g (get_or list k ArenaWords)
    → name_in g list (words_in g (take k list) + offset) ≡ name_at (get_or list k ArenaWords) offset
unfolding words_in name_in
name_in-take g [] k offset below within = absurd (omega arith)
name_in-take g (group ∷ rest) zero offset below within =
    let e : 0 + offset ≡ offset = omega arith in
    rw (e, lt-ltb offset (group_words g group) within) refl
name_in-take g (group ∷ rest) (suc k) offset below within =
    let words = group_words g group in
    let before = words_in g (take k rest) in
    let e : words + before + offset - words ≡ before + offset = omega arith in
    rw (le-ltb (words + before + offset) words (omega arith), e) (name_in-take g rest k offset (omega arith) within)

-- the group of a place, and the place in the group
pub record IsAt (g : Geometry) (list : List Group) (index k offset : ℕ) : Type 0 where
  pub group : k < length list
  pub within : offset < group_words g (get_or list k ArenaWords)
  pub place : index ≡ words_in g (take k list) + offset

-- every place among the words of some groups is a place of one of them
pub find : (g : Geometry) (list : List Group) (index : ℕ) → index < words_in g list → (k : ℕ) × (offset : ℕ) × IsAt g list index k offset
unfolding words_in
find g [] index below = absurd (omega arith)
find g (group ∷ rest) index below =
    elim (cases_lt index (group_words g group)) [
      | inl here ↦ (0, index, record { group = omega arith; within = here; place = omega arith })
      | inr there ↦
          let (k, offset, is) = find g rest (index - group_words g group) (omega arith) in
          (suc k, offset, record { group = omega arith; within = is.within; place = omega arith })
    ]

-- the groups before one, and the group itself, have their place in the table
pub start_of-within : (g : Geometry) (group : Group) → start_of g group + group_words g group ≤ word_count g
unfolding start_of
start_of-within g group =
    let at : get_or groups (group_number group) ArenaWords ≡ group = groups-group_number group in
    let le = words_in-take-le g groups (group_number group) (group_number-within group) in
    omega (arith, rw at at le, words_in-groups g)

-- a word that exists has its place in the table
pub word_index-within : (g : Geometry) (name : WordName) → Exists g name → word_index g name < word_count g
unfolding word_index
word_index-within g name is = omega (arith, offset_of-within g name is, start_of-within g (group_of name))

-- at a word's place stands that word
pub word_name-word_index : (g : Geometry) (name : WordName) → Exists g name → word_name g (word_index g name) ≡ name
unfolding word_name word_index start_of
word_name-word_index g name is =
    let group = group_of name in
    let at : get_or groups (group_number group) ArenaWords ≡ group = groups-group_number group in
    let within : offset_of name < group_words g (get_or groups (group_number group) ArenaWords) =
    rw at (offset_of-within g name is) in
    name_in-take g groups (group_number group) (offset_of name) (group_number-within group) within
    ∙ (rw at (name_at-offset_of g name is))

-- two words have two places in the table
pub word_index-one :
    (g : Geometry) (m n : WordName) → Exists g m → Exists g n → word_index g m ≡ word_index g n → m ≡ n
word_index-one g m n is_m is_n same =
    sym (word_name-word_index g m is_m) ∙ (ap (word_name g) same ∙ word_name-word_index g n is_n)

-- what stands at a place of the table
pub word_name-at :
    (g : Geometry) (index k offset : ℕ) → IsAt g groups index k offset
    → word_name g index ≡ name_at (get_or groups k ArenaWords) offset
unfolding word_name
word_name-at g index k offset is = rw (is.place) (name_in-take g groups k offset is.group is.within)

-- a group that stands at a number begins behind the groups before it
start_of-at : (g : Geometry) (k : ℕ) → k < length groups → start_of g (get_or groups k ArenaWords) ≡ words_in g (take k groups)
unfolding start_of
start_of-at g k below = rw (group_number-groups k below) refl

-- the word at a place exists
pub word_name-Exists : (g : Geometry) (index : ℕ) → index < word_count g → Exists g (word_name g index)
word_name-Exists g index below =
    let (k, offset, is) = find g groups index (rw words_in-groups below) in
    rw (word_name-at g index k offset is) (name_at-Exists g (get_or groups k ArenaWords) offset is.within)

-- the word at a place of the table has that place
pub word_index-word_name : (g : Geometry) (index : ℕ) → index < word_count g → word_index g (word_name g index) ≡ index
unfolding word_index
word_index-word_name g index below =
    let (k, offset, is) = find g groups index (rw words_in-groups below) in
    let group = get_or groups k ArenaWords in
    let named : word_name g index ≡ name_at group offset = word_name-at g index k offset is in
    rw (named, group_of-name_at group offset, offset_of-name_at g group offset is.within, start_of-at g k is.group)
    (sym is.place)
