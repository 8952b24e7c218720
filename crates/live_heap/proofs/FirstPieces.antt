-- The rule of the region holds of a heap's memory before the first step.
use Rattle.std.proofs.Common.{ℕ, ◌≡◌, ◌<◌, ◌-◌, List, [], ◌∷◌, length, slice_index, take, refl, zero, suc, arith, sym, ap, ◌∙◌, subst, inl, inr, get_or-take, length-take}
use Rattle.std.proofs.lemmas.Bool.{cases_lt}
use Rattle.std.proofs.lemmas.List.{length-map}
use mathlib.Core.Option.{some, some-injective}
use lib.ListN.{get_elem?}
use Rattle.heap_geometry.specs.declared.geometry.Geometry.{Geometry}
use Rattle.heap_geometry.specs.Geometry.{IsChecked}
use Rattle.word_table.specs.Counts.{arena_words, word_count}
use Rattle.errand_steps.specs.Openings.{opening}
use Rattle.step_machine.specs.Firsts.{IsTable}
use Rattle.plain_words.specs.Places.{Place, laid, number, number_at, numbers, place_at}
use Rattle.atomic_region.specs.Region.{opening as opened}
use Rattle.live_heap.specs.placement.Places.{placed_count, words_at}
use Rattle.live_heap.proofs.placement_lemmas.WordsLemmas.{words_at-take}
use Rattle.live_heap.specs.FirstRoom.{IsFirstRoom}
use Rattle.pool_model.specs.declared.event.Event.{Event}
use Rattle.live_heap.specs.declared.view.Lent.{Lent}
use Rattle.live_heap.specs.declared.view.View.{View}
use Rattle.live_heap.specs.Pieces.{AreLent, PiecesHold, mark_place, shown}
use Rattle.live_heap.specs.Rule.{WordsHold}
use Rattle.live_heap.specs.Views.{opening_view}
use Rattle.live_heap.specs.Shelves.{AllowedWords}
use Rattle.live_heap.proofs.FirstRoomLemmas.{at-numbers}
use Rattle.live_heap.proofs.LentPlaces.{none-out}
use Rattle.live_heap.proofs.PieceEnds.{all_blank, opens-pieces}
use Rattle.live_heap.proofs.Seats.{opens, table-opening}
use Rattle.live_heap.proofs.Shows.{arena-placed, shown-arena, shown-behind, shown-own}

-- at opening no block is out
nothing-lent : (g : Geometry) (events : List Event) (places : List Place) → AreLent g events places places (opening_view g ∷ [])
nothing-lent g events places = record { long = refl; home = λ i inside free. refl; blocks = λ id n v b there found. absurd (none id n v b there found) }
  where
    none : (id n : ℕ) (v : View) (b : Lent) → get_elem? (opening_view g ∷ []) id ≡ some v → get_elem? v.lent n ≡ some b → ⊥
    none zero n v b there found = none-out (opening_view g) n b refl (ap (λ (z : View). get_elem? z.lent n) (some-injective (opening_view g) v there) ∙ found)
    none (suc id) n v b there found = let no : ⊥ = cc in no

module _ (g : Geometry) (places : List Place) (checked : IsChecked g) (room : IsFirstRoom g places) where
  abbrev words : List ℕ
  words = take (placed_count g) (numbers places)

  -- a word counts as what its place shows
  at-words : (i : ℕ) → i < placed_count g → slice_index words i ≡ number_at places i
  at-words i below = get_or-take (placed_count g) (numbers places) i 0 below ∙ at-numbers places i

  each-shown : (i : ℕ) → i < length places → place_at places i ≡ shown g words all_blank i
  each-shown i inside =
      elim (cases_lt i (arena_words g)) [
        | inl before ↦ room.behind.arena i before ∙ sym (shown-arena g words all_blank i before)
        | inr beyond ↦
            elim (cases_lt i (placed_count g)) [
              | inl own ↦
                  room.behind.behind i beyond inside ∙ ap laid (sym (at-words i own)) ∙ sym (shown-own g words all_blank i beyond own)
              | inr behind ↦
                  let k : ℕ = i - placed_count g in
                  let number : mark_place g k ≡ i = omega (arith, behind) in
                  room.behind.behind i beyond inside
                  ∙ ap laid (ap (number_at places) (sym number) ∙ room.behind.marks k (omega (arith, inside, behind, room.behind.long)))
                  ∙ sym (shown-behind g words all_blank i behind)
            ]
      ]

  pub first-pieces : {rule : AllowedWords} → PiecesHold rule g (opened places (opening_view g))
  first-pieces {rule} =
      let long : length words ≡ placed_count g = omega (arith, length-take (placed_count g) (numbers places), length-map places number, room.behind.long) in
      let table : IsTable g (opening g) (word_count g) (words_at g words) = subst (IsTable g (opening g) (word_count g)) (sym (words_at-take g (numbers places))) room.words in
      let kept : WordsHold rule g words (opening_view g ∷ []) = (long, opens {rule = rule} g (words_at g words) checked table.all (table-opening g (words_at g words) table)) in
      let zeros : (i : ℕ) → i < arena_words g → slice_index words i ≡ 0 = λ i before. at-words i (omega (arith, before, arena-placed g)) ∙ ap number (room.behind.arena i before) in
      (words, kept, places, opens-pieces g words places checked table room.behind.long each-shown zeros, nothing-lent g kept.1.events places)
