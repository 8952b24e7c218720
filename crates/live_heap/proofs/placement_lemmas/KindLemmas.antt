-- The place of a word from that of the first one of its kind.
use Rattle.std.proofs.Common.{ℕ, ◌≡◌, ◌<◌, ◌≤◌, ◌+◌, ◌*◌, ◌-◌, ◌^◌, arith, refl, subst, ◌≢◌, ◌⊎◌, inl, inr}
use Rattle.std.specs.Prelude.{min}
use Rattle.heap_geometry.specs.declared.geometry.Geometry.{Geometry}
use Rattle.heap_geometry.specs.declared.limits.TheConstants.{CLASSES}
use Rattle.heap_geometry.specs.Geometry.{IsChecked}
use Rattle.word_table.specs.Counts.{arena_words, descriptor_count}
use Rattle.word_table.specs.Table.{Exists, start_of, word_index, words_in}
use Rattle.word_table.specs.declared.name.WordName.TheVariants.{Arena, Anchor, Next, Info, Active, Slot, ListHead, FrameNext, FrameHead, DescHead, Hazard, Units, Shelf}
use Rattle.word_table.specs.declared.name.WordName.{WordName}
use Rattle.word_table.proofs.TableLemmas.{word_index-one, word_index-within}
use Rattle.live_heap.proofs.placement_lemmas.PlaceLemmas.{place-keeps, place-most}
use Rattle.live_heap.specs.declared.placement.Starts.{Starts}
use Rattle.live_heap.specs.placement.Starts.{place_from, place_of, starts_of}
use Rattle.live_heap.specs.declared.placement.TheConstants.{APART}
use Rattle.std.proofs.lemmas.Bool.{cases_lt}
use Rattle.live_heap.specs.placement.Places.{IsApart, place}

-- the numbers of the first words of the stretches
record AreAt (g : Geometry) : Type 0 where
  superblocks : word_index g (Anchor 0) ≡ arena_words g
  heaps : word_index g (Active 0 0) ≡ arena_words g + 3 * descriptor_count g
  heads : word_index g FrameHead ≡ arena_words g + 3 * descriptor_count g + 2 * (g.heaps * CLASSES) + CLASSES + g.frames

are-at : (g : Geometry) → AreAt g
unfolding word_index start_of words_in
are-at g = record { superblocks = omega arith; heaps = omega arith; heads = omega arith }

-- the arena lies before all other words
pub arena-first : (g : Geometry) → word_index g (Anchor 0) ≡ arena_words g
arena-first g = (are-at g).superblocks

-- the place of a number by its distance from the arena
abbrev by : (g : Geometry) → ℕ → ℕ
by g index =
    index
    + (APART - 1) * (min (index - (arena_words g - 1)) (descriptor_count g + 1)
    + min (index - (arena_words g + 3 * descriptor_count g - 1)) (2 * (g.heaps * CLASSES) + CLASSES + 1)
    + min (index - (arena_words g + 3 * descriptor_count g + 2 * (g.heaps * CLASSES) + CLASSES + g.frames - 1)) (g.callers + 3 + 1))

by-place : (g : Geometry) (index : ℕ) → place g index ≡ by g index
unfolding place
by-place g index = let a = are-at g in rw (a.superblocks, a.heaps, a.heads) refl

-- the place of a word is the one that the places of the first words lead to
pub start-place : (g : Geometry) (name : WordName) → IsChecked g → Exists g name → place_from (starts_of g) name ≡ place_of g name
unfolding word_index start_of words_in
start-place g (Arena word) checked is = omega (arith, checked.frames.0, by-place g (word_index g (Arena word)))
start-place g (Anchor desc) checked is = omega (arith, checked.frames.0, by-place g (word_index g (Anchor desc)), by-place g (word_index g (Anchor 0)))
start-place g (Next desc) checked is = omega (arith, checked.frames.0, by-place g (word_index g (Next desc)), by-place g (word_index g (Next 0)))
start-place g (Info desc) checked is = omega (arith, checked.frames.0, by-place g (word_index g (Info desc)), by-place g (word_index g (Info 0)))
start-place g (Active heap class) checked is = omega (arith, checked.frames.0, by-place g (word_index g (Active heap class)), by-place g (word_index g (Active 0 0)))
start-place g (Slot heap class) checked is = omega (arith, checked.frames.0, by-place g (word_index g (Slot heap class)), by-place g (word_index g (Slot 0 0)))
start-place g (ListHead class) checked is = omega (arith, checked.frames.0, by-place g (word_index g (ListHead class)), by-place g (word_index g (ListHead 0)))
start-place g (FrameNext frame) checked is = omega (arith, checked.frames.0, by-place g (word_index g (FrameNext frame)), by-place g (word_index g (FrameNext 0)))
start-place g FrameHead checked is = refl
start-place g DescHead checked is = refl
start-place g (Hazard caller) checked is = omega (arith, checked.frames.0, by-place g (word_index g (Hazard caller)), by-place g (word_index g (Hazard 0)))
start-place g Units checked is = refl
start-place g (Shelf shelf) checked is = omega (arith, checked.frames.0, by-place g (word_index g (Shelf shelf)), by-place g (word_index g (Shelf 0)))

-- the place of a word by the places of the first words, where these are known
pub known-place :
    (g value : Geometry) (s : Starts) (name : WordName) → g ≡ value → IsChecked g → s ≡ starts_of g → Exists value name
    → place_from s name ≡ place_of value name
known-place g value s name view checked is exists = rw (is, view) (start-place value name (subst IsChecked view checked) exists)

-- the place of a word is below 2 ^ 32, where the places of the first words are known
pub known-fits :
    (g value : Geometry) (s : Starts) (name : WordName) → g ≡ value → IsChecked g → s ≡ starts_of g → Exists value name → place_from s name < 2 ^ 32
known-fits g value s name view checked is exists =
    let all : IsChecked value = subst IsChecked view checked in
    let within = word_index-within value name exists in
    omega (arith, known-place g value s name view checked is exists, place-most value (word_index value name) all (omega arith))

-- a word that is apart lies far enough behind the word before it, and before the one behind it
pub apart-behind :
    (g : Geometry) (name : WordName) → IsChecked g → Exists g name → IsApart name → place g (word_index g name) + APART ≤ place g (word_index g name + 1)
unfolding word_index start_of words_in
apart-behind g (Arena word) checked is apart = absurd apart
apart-behind g (Anchor desc) checked is apart = omega (arith, checked.frames.0, by-place g (word_index g (Anchor desc)), by-place g (word_index g (Anchor desc) + 1))
apart-behind g (Next desc) checked is apart = absurd apart
apart-behind g (Info desc) checked is apart = absurd apart
apart-behind g (Active heap class) checked is apart = omega (arith, checked.frames.0, by-place g (word_index g (Active heap class)), by-place g (word_index g (Active heap class) + 1))
apart-behind g (Slot heap class) checked is apart = omega (arith, checked.frames.0, by-place g (word_index g (Slot heap class)), by-place g (word_index g (Slot heap class) + 1))
apart-behind g (ListHead class) checked is apart = omega (arith, checked.frames.0, by-place g (word_index g (ListHead class)), by-place g (word_index g (ListHead class) + 1))
apart-behind g (FrameNext frame) checked is apart = absurd apart
apart-behind g FrameHead checked is apart = omega (arith, checked.frames.0, by-place g (word_index g FrameHead), by-place g (word_index g FrameHead + 1))
apart-behind g DescHead checked is apart = omega (arith, checked.frames.0, by-place g (word_index g DescHead), by-place g (word_index g DescHead + 1))
apart-behind g (Hazard caller) checked is apart = omega (arith, checked.frames.0, by-place g (word_index g (Hazard caller)), by-place g (word_index g (Hazard caller) + 1))
apart-behind g Units checked is apart = omega (arith, checked.frames.0, by-place g (word_index g Units), by-place g (word_index g Units + 1))
apart-behind g (Shelf shelf) checked is apart = absurd apart

pub apart-before :
    (g : Geometry) (name : WordName) → IsChecked g → Exists g name → IsApart name → place g (word_index g name - 1) + APART ≤ place g (word_index g name)
unfolding word_index start_of words_in
apart-before g (Arena word) checked is apart = absurd apart
apart-before g (Anchor desc) checked is apart = omega (arith, checked.frames.0, by-place g (word_index g (Anchor desc)), by-place g (word_index g (Anchor desc) - 1))
apart-before g (Next desc) checked is apart = absurd apart
apart-before g (Info desc) checked is apart = absurd apart
apart-before g (Active heap class) checked is apart = omega (arith, checked.frames.0, by-place g (word_index g (Active heap class)), by-place g (word_index g (Active heap class) - 1))
apart-before g (Slot heap class) checked is apart = omega (arith, checked.frames.0, by-place g (word_index g (Slot heap class)), by-place g (word_index g (Slot heap class) - 1))
apart-before g (ListHead class) checked is apart = omega (arith, checked.frames.0, by-place g (word_index g (ListHead class)), by-place g (word_index g (ListHead class) - 1))
apart-before g (FrameNext frame) checked is apart = absurd apart
apart-before g FrameHead checked is apart = omega (arith, checked.frames.0, by-place g (word_index g FrameHead), by-place g (word_index g FrameHead - 1))
apart-before g DescHead checked is apart = omega (arith, checked.frames.0, by-place g (word_index g DescHead), by-place g (word_index g DescHead - 1))
apart-before g (Hazard caller) checked is apart = omega (arith, checked.frames.0, by-place g (word_index g (Hazard caller)), by-place g (word_index g (Hazard caller) - 1))
apart-before g Units checked is apart = omega (arith, checked.frames.0, by-place g (word_index g Units), by-place g (word_index g Units - 1))
apart-before g (Shelf shelf) checked is apart = absurd apart

-- a word that is apart lies far enough from every other word
pub apart-from :
    (g : Geometry) (m n : WordName) → IsChecked g → Exists g m → Exists g n → IsApart m → n ≢ m
    → (place_of g m + APART ≤ place_of g n) ⊎ (place_of g n + APART ≤ place_of g m)
apart-from g m n checked is_m is_n apart differ =
    let behind = apart-behind g m checked is_m apart in
    let before = apart-before g m checked is_m apart in
    let other : word_index g n ≢ word_index g m = λ same. differ (word_index-one g n m is_n is_m same) in
    elim (cases_lt (word_index g m) (word_index g n)) [
      | inl less ↦ inl (let r = place-keeps g (word_index g m + 1) (word_index g n) (omega arith) in omega arith)
      | inr not_less ↦
          elim (cases_lt (word_index g n) (word_index g m)) [
            | inl less ↦ inr (let r = place-keeps g (word_index g n) (word_index g m - 1) (omega arith) in omega arith)
            | inr past ↦ absurd (other (omega arith))
          ]
    ]
