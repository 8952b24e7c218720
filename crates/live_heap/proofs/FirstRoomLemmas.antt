-- The memory of a heap before its first step: an arena that is blank, and words behind it that are laid.
use Rattle.std.proofs.Common.{ℕ, zero, suc, ◌≡◌, ◌<◌, ◌≤◌, ◌+◌, ◌-◌, List, [], ◌∷◌, ◌++◌, length, slice_index, slice_set, take, drop, replicate, arith, refl, sym, ap, ◌∙◌, subst, inl, inr, length-append, length-take, length-drop, length-set, get_or-take, get_or-set_same, get_or-set_other}
use Rattle.std.specs.Prelude.{Some, None}
use Rattle.std.proofs.lemmas.Bool.{cases_eq, cases_lt}
use Rattle.std.proofs.lemmas.List.{get_or-append_right, get_or_append_left, get_or-replicate, get_or_past, length-map, length-replicate, map-set}
use Rattle.heap_geometry.specs.declared.geometry.Geometry.{Geometry}
use Rattle.word_table.specs.Counts.{arena_words}
use Rattle.word_table.specs.Table.{Exists, start_of, word_index, words_in}
use Rattle.word_table.specs.declared.name.WordName.{WordName}
use Rattle.word_table.specs.declared.name.WordName.TheVariants.{Next, FrameNext, FrameHead, DescHead}
use Rattle.word_table.proofs.TableLemmas.{word_index-within}
use Rattle.plain_words.specs.Places.{Place, IsHere, blanks, laid, laids, number, number_at, numbers, place_at}
use Rattle.live_heap.specs.placement.Places.{placed_count}
use Rattle.live_heap.specs.placement.Starts.{place_of}
use Rattle.live_heap.specs.placement.Writes.{Wrote}
use Rattle.live_heap.proofs.placement_lemmas.PlaceLemmas.{place-least, place-within}
use Rattle.live_heap.proofs.placement_lemmas.WordsLemmas.{wrote}
use Rattle.live_heap.specs.FirstRoom.{HasWritten, IsBlankRoom, IsLaidBehind}
use Rattle.live_heap.specs.Linked.{AreLinked}
use Rattle.live_heap.specs.Pieces.{mark_count, mark_place}
use Rattle.live_heap.proofs.Linked.{none-linked}

-- a number of the list is that of its place
pub at-numbers : (ps : List Place) (i : ℕ) → slice_index (numbers ps) i ≡ number_at ps i
at-numbers [] i = refl
at-numbers (p ∷ ps) zero = refl
at-numbers (p ∷ ps) (suc i) = at-numbers ps i

at-zeros : (n i : ℕ) → i < n → place_at (laids (replicate n 0)) i ≡ laid 0
at-zeros zero i lt = absurd (omega (arith, lt))
at-zeros (suc n) zero lt = refl
at-zeros (suc n) (suc i) lt = at-zeros n i (omega (arith, lt))

pub blank-here : (n i : ℕ) → i < n → IsHere (place_at (blanks n) i)
blank-here n i inside gone = let no : ◌≡◌ {A = Place} None (Some None) = sym gone ∙ get_or-replicate n i (Some None) None inside in cc

-- the first of so many blank words stay so, and the others are filled with 0
abbrev pub half_laid : ℕ → ℕ → List Place
half_laid first all = take first (blanks all) ++ laids (replicate (length (drop first (blanks all))) 0)

module _ (first all : ℕ) (within : first ≤ all) where
  many : length (blanks all) ≡ all
  many = length-replicate all (Some None)

  pub first-many : length (take first (blanks all)) ≡ first
  first-many = omega (arith, length-take first (blanks all), many, within)

  pub others-many : first + length (drop first (blanks all)) ≡ all
  others-many = omega (arith, length-drop first (blanks all), many, within)

  pub half-long : length (half_laid first all) ≡ all
  half-long =
      let n = length (drop first (blanks all)) in
      length-append (take first (blanks all)) (laids (replicate n 0))
      ∙ omega (arith, first-many, others-many, length-map (replicate n 0) laid, length-replicate {A = ℕ} n 0)

  half-blank : (i : ℕ) → i < first → place_at (half_laid first all) i ≡ Some None
  half-blank i before =
      get_or_append_left (take first (blanks all)) (laids (replicate (length (drop first (blanks all))) 0)) None i (omega (arith, before, first-many))
      ∙ get_or-take first (blanks all) i None before
      ∙ get_or-replicate all i (Some None) None (omega (arith, before, within))

  half-zeros : (i : ℕ) → first ≤ i → i < all → place_at (half_laid first all) i ≡ laid 0
  half-zeros i behind inside =
      let n = length (drop first (blanks all)) in
      get_or-append_right (take first (blanks all)) (laids (replicate n 0)) first i None first-many behind
      ∙ at-zeros n (i - first) (omega (arith, behind, inside, others-many))

  half-numbers : (i : ℕ) → number_at (half_laid first all) i ≡ 0
  half-numbers i =
      elim (cases_lt i first) [
        | inl before ↦ ap number (half-blank i before)
        | inr behind ↦
            elim (cases_lt i all) [
              | inl inside ↦ ap number (half-zeros i behind inside)
              | inr past ↦ ap number (get_or_past (half_laid first all) i None (omega (arith, past, half-long)))
            ]
      ]

  pub half-here : (i : ℕ) → i < length (half_laid first all) → IsHere (place_at (half_laid first all) i)
  half-here i inside gone =
      elim (cases_lt i first) [
        | inl before ↦ let no : ◌≡◌ {A = Place} None (Some None) = sym gone ∙ half-blank i before in cc
        | inr behind ↦ let no : ◌≡◌ {A = Place} None (laid 0) = sym gone ∙ half-zeros i behind (omega (arith, inside, half-long)) in cc
      ]

  -- where the first are those of the arena, the room is a blank one
  pub is-blank : (g : Geometry) → first ≡ arena_words g → all ≡ placed_count g + mark_count g → IsBlankRoom g (half_laid first all)
  is-blank g is_first is_all = record {
    behind = record {
      long = half-long ∙ is_all;
      arena = λ i before. half-blank i (omega (arith, before, is_first));
      behind = λ i beyond inside.
          let zero = half-zeros i (omega (arith, beyond, is_first)) (omega (arith, inside, half-long)) in zero ∙ sym (ap (λ p. laid (number p)) zero);
      marks = λ k has. half-numbers (mark_place g k);
    };
    zeros = half-numbers;
  }

-- a word of the heap's own is laid with a number
pub has-written :
    (g : Geometry) (places : List Place) (name : WordName) (new : ℕ) → IsLaidBehind g places → Exists g name → arena_words g ≤ word_index g name
    → HasWritten g places name new (slice_set places (place_of g name) (laid new))
has-written g places name new b is own =
    let at = place_of g name in
    let after : List Place = slice_set places at (laid new) in
    let numbered : slice_set (numbers places) at new ≡ numbers after = sym (map-set number places at (laid new)) in (
      record {
        long = length-set places at (laid new) ∙ b.long;
        arena = λ i before. get_or-set_other places at i (laid new) None (omega (arith, before, place-least g (word_index g name), own)) ∙ b.arena i before;
        behind = λ i beyond inside.
            elim (cases_eq i at) [
              | inl same ↦
                  let now : place_at after i ≡ laid new = ap (place_at after) same ∙ get_or-set_same places at (laid new) None within in
                  now ∙ sym (ap (λ p. laid (number p)) now)
              | inr other ↦
                  let now : place_at after i ≡ place_at places i = get_or-set_other places at i (laid new) None other in
                  now ∙ b.behind i beyond (omega (arith, inside, length-set places at (laid new))) ∙ sym (ap (λ p. laid (number p)) now)
            ];
        marks = λ k has. ap number (get_or-set_other places at (mark_place g k) (laid new) None (omega (arith, small))) ∙ b.marks k has;
      },
      subst (Wrote g (numbers places) name new) numbered (wrote g (numbers places) name new (omega (arith, length-map places number, b.long)) is),
    )
  where
    small : place_of g name < placed_count g
    small = place-within g (word_index g name) (word_index-within g name is)

    within : place_of g name < length places
    within = omega (arith, small, b.long)

-- the words that are links, and the heads, lie behind the arena
pub next-own : (g : Geometry) (desc : ℕ) → arena_words g ≤ word_index g (Next desc)
unfolding word_index start_of words_in
next-own g desc = omega arith

pub frame_next-own : (g : Geometry) (frame : ℕ) → arena_words g ≤ word_index g (FrameNext frame)
unfolding word_index start_of words_in
frame_next-own g frame = omega arith

pub heads-own : (g : Geometry) → (arena_words g ≤ word_index g FrameHead) × (arena_words g ≤ word_index g DescHead)
unfolding word_index start_of words_in
heads-own g = (omega arith, omega arith)

-- with all words 0, no link is written yet
pub blank-linked : (g : Geometry) (places : List Place) → IsBlankRoom g places → AreLinked g (numbers places) 0 0
blank-linked g places b = none-linked g (numbers places) (λ name is. at-numbers places (place_of g name) ∙ b.zeros (place_of g name))
