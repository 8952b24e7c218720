-- The words at the places of numbers.
use Rattle.std.proofs.Common.{ℕ, zero, suc, ◌≡◌, ◌≢◌, ◌<◌, ◌≤◌, ◌+◌, List, length, slice_index, slice_set, take, arith, refl, ap, sym, ◌∙◌, inl, inr, ◌⊎◌}
use Rattle.std.proofs.lemmas.List.{get_or-set_same, get_or-set_other, get_or-take, ext_get_or, length-set}
use Rattle.std.proofs.lemmas.Bool.{cases_eq}
use Rattle.heap_geometry.specs.declared.geometry.Geometry.{Geometry}
use Rattle.word_table.specs.Counts.{word_count}
use Rattle.word_table.specs.Table.{Exists, word_index, word_name}
use Rattle.word_table.specs.declared.name.WordName.{WordName}
use Rattle.word_table.proofs.TableLemmas.{word_index-one, word_index-within, word_index-word_name}
use Rattle.live_heap.specs.placement.Starts.{place_of}
use Rattle.live_heap.specs.placement.Writes.{Wrote, word_at}
use Rattle.live_heap.specs.placement.Places.{place, placed_count, words_at, words_from}
use Rattle.live_heap.proofs.placement_lemmas.PlaceLemmas.{place-apart, place-within}

pub length-words_from : (g : Geometry) (placed : List ℕ) (index more : ℕ) → length (words_from g placed index more) ≡ more
unfolding words_from
length-words_from g placed index zero = refl
length-words_from g placed index (suc more) = ap suc (length-words_from g placed (suc index) more)

-- the word of a number is the one at its place
at-words_from :
    (g : Geometry) (placed : List ℕ) (index more k : ℕ) → k < more
    → slice_index (words_from g placed index more) k ≡ slice_index placed (place g (index + k))
unfolding words_from
at-words_from g placed index zero k below = absurd (omega arith)
at-words_from g placed index (suc more) zero below = let e : index ≡ index + 0 = omega arith in ap (λ n. slice_index placed (place g n)) e
at-words_from g placed index (suc more) (suc k) below =
    let e : suc index + k ≡ index + suc k = omega arith in
    at-words_from g placed (suc index) more k (omega arith) ∙ ap (λ n. slice_index placed (place g n)) e

pub length-words_at : (g : Geometry) (placed : List ℕ) → length (words_at g placed) ≡ word_count g
length-words_at g placed = length-words_from g placed 0 (word_count g)

pub at-words_at : (g : Geometry) (placed : List ℕ) (i : ℕ) → i < word_count g → slice_index (words_at g placed) i ≡ slice_index placed (place g i)
at-words_at g placed i below =
    let e : 0 + i ≡ i = omega arith in
    at-words_from g placed 0 (word_count g) i below ∙ ap (λ n. slice_index placed (place g n)) e

-- numbers behind all places are no words
pub words_at-take : (g : Geometry) (placed : List ℕ) → words_at g (take (placed_count g) placed) ≡ words_at g placed
words_at-take g placed =
    let some = length-words_at g (take (placed_count g) placed) in
    let all = length-words_at g placed in
    ext_get_or 0 (words_at g (take (placed_count g) placed)) (words_at g placed) (omega arith)
    (λ j within.
    let has : j < word_count g = omega arith in
    at-words_at g (take (placed_count g) placed) j has ∙ get_or-take (placed_count g) placed (place g j) 0 (place-within g j has)
    ∙ sym (at-words_at g placed j has))

-- a change at a number's place is a change at the number
pub set-words_at :
    (g : Geometry) (placed : List ℕ) (i new : ℕ) → length placed ≡ placed_count g → i < word_count g
    → words_at g (slice_set placed (place g i) new) ≡ slice_set (words_at g placed) i new
set-words_at g placed i new whole below =
    let many = length-words_at g (slice_set placed (place g i) new) in
    let was = length-words_at g placed in
    let now = length-set (words_at g placed) i new in
    ext_get_or 0 (words_at g (slice_set placed (place g i) new)) (slice_set (words_at g placed) i new) (omega arith)
    (λ j within.
    let has : j < word_count g = omega arith in
    at-words_at g (slice_set placed (place g i) new) j has ∙ each j has (cases_eq j i))
  where
    each :
        (j : ℕ) → j < word_count g → (j ≡ i) ⊎ (j ≢ i)
        → slice_index (slice_set placed (place g i) new) (place g j) ≡ slice_index (slice_set (words_at g placed) i new) j
    each j has (inl same) =
        rw same
        (let l = place-within g i below in
        let m = length-words_at g placed in
        get_or-set_same placed (place g i) new 0 (omega arith) ∙ sym (get_or-set_same (words_at g placed) i new 0 (omega arith)))
    each j has (inr differ) =
        get_or-set_other placed (place g i) (place g j) new 0 (place-apart g i j differ)
        ∙ (sym (at-words_at g placed j has) ∙ sym (get_or-set_other (words_at g placed) i j new 0 differ))

-- a write at a name's place changes the word of that name alone
pub wrote :
    (g : Geometry) (placed : List ℕ) (name : WordName) (new : ℕ) → placed_count g ≤ length placed → Exists g name
    → Wrote g placed name new (slice_set placed (place_of g name) new)
wrote g placed name new whole is =
    let within = place-within g (word_index g name) (word_index-within g name is) in
    record {
      whole = length-set placed (place_of g name) new;
      here = get_or-set_same placed (place_of g name) new 0 (omega arith);
      elsewhere = λ other there differ.
          get_or-set_other placed (place_of g name) (place_of g other) new 0
          (place-apart g (word_index g name) (word_index g other) (λ same. differ (word_index-one g other name there is same)));
    }

-- the word of a number is that of the number's name
pub at-word_name :
    (g : Geometry) (placed : List ℕ) (i : ℕ) → i < word_count g → slice_index (words_at g placed) i ≡ word_at g placed (word_name g i)
at-word_name g placed i below =
    at-words_at g placed i below ∙ ap (λ n. slice_index placed (place g n)) (sym (word_index-word_name g i below))
