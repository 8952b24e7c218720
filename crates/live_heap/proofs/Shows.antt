-- What places show, and how it changes where a piece is taken out or laid.
use Rattle.std.proofs.Common.{ℕ, ◌≡◌, ◌≢◌, ◌<◌, ◌≤◌, ◌+◌, ◌-◌, ◌==◌, List, length, refl, arith, sym, ap, subst, inl, inr, ◌∙◌, eq-eqb, ne_eqb, get_or-set_same, get_or-set_other, length-set}
use Rattle.std.specs.Prelude.{nat_lt, if◌then◌else◌, slice_index, slice_set, None}
use Rattle.std.proofs.lemmas.Bool.{cases_eq, cases_lt, cond-true, cond-false}
use Rattle.heap_geometry.specs.declared.geometry.Geometry.{Geometry}
use Rattle.word_table.specs.Counts.{arena_words, word_count}
use Rattle.live_heap.specs.placement.Places.{placed_count}
use Rattle.live_heap.proofs.placement_lemmas.PlaceLemmas.{place-least}
use Rattle.plain_words.specs.Places.{Place, laid, place_at, put}
use Rattle.sound_laws.specs.uses.Pieces.{piece_count, piece_of, piece_start, piece_words}
use Rattle.sound_laws.proofs.uses_lemmas.PieceLemmas.{below-true, beyond-false, word-inside, word-among}
use Rattle.live_heap.specs.Pieces.{Status, mark_count, mark_of, place_as, mark_place, shown}
use Rattle.live_heap.proofs.PutPlaces.{at-put_before, at-put_in, at-put_behind}

pub arena-placed : (g : Geometry) → arena_words g ≤ placed_count g
unfolding word_count
arena-placed g = omega (arith, place-least g (word_count g))

module _ (g : Geometry) (words : List ℕ) (status : ℕ → Status) where
  pub shown-arena : (i : ℕ) → i < arena_words g → shown g words status i ≡ place_as (status (piece_of g i)) (slice_index words i)
  shown-arena i inside = cond-true {A = Place} (nat_lt i (arena_words g)) _ _ (below-true i (arena_words g) inside)

  pub shown-own : (i : ℕ) → arena_words g ≤ i → i < placed_count g → shown g words status i ≡ laid (slice_index words i)
  shown-own i beyond inside =
      cond-false {A = Place} (nat_lt i (arena_words g)) _ _ (beyond-false i (arena_words g) beyond)
      ∙ cond-true {A = Place} (nat_lt i (placed_count g)) _ _ (below-true i (placed_count g) inside)

  pub shown-behind : (i : ℕ) → placed_count g ≤ i → shown g words status i ≡ laid (mark_of (status (i - placed_count g)))
  shown-behind i beyond =
      cond-false {A = Place} (nat_lt i (arena_words g)) _ _ (beyond-false i (arena_words g) (omega (arith, beyond, arena-placed g)))
      ∙ cond-false {A = Place} (nat_lt i (placed_count g)) _ _ (beyond-false i (placed_count g) beyond)

  pub shown-mark : (k : ℕ) → shown g words status (mark_place g k) ≡ laid (mark_of (status k))
  shown-mark k =
      let back : placed_count g + k - placed_count g ≡ k = omega arith in shown-behind (mark_place g k) (omega arith) ∙ ap (λ j. laid (mark_of (status j))) back

-- one piece is as far as this, and the others as before
abbrev pub with_status : (ℕ → Status) → ℕ → Status → ℕ → Status
with_status status k st j = if j == k then st else status j

pub status-here : (status : ℕ → Status) (k : ℕ) (st : Status) → with_status status k st k ≡ st
status-here status k st = cond-true {A = Status} (k == k) st (status k) (eq-eqb k k refl)

pub status-else : (status : ℕ → Status) (k j : ℕ) (st : Status) → j ≢ k → with_status status k st j ≡ status j
status-else status k j st differ = cond-false {A = Status} (j == k) st (status j) (ne_eqb j k differ)

-- a place that is no word of the piece and not its mark shows what it did
pub shows-still :
    (g : Geometry) (words : List ℕ) (status : ℕ → Status) (k i : ℕ) (st : Status) → (i < arena_words g → piece_of g i ≢ k) → i ≢ mark_place g k
    → shown g words (with_status status k st) i ≡ shown g words status i
shows-still g words status k i st apart no_mark =
    elim (cases_lt i (arena_words g)) [
      | inl inside ↦
          shown-arena g words (with_status status k st) i inside
          ∙ ap (λ x. place_as x (slice_index words i)) (status-else status k (piece_of g i) st (apart inside)) ∙ sym (shown-arena g words status i inside)
      | inr beyond ↦
          elim (cases_lt i (placed_count g)) [
            | inl own ↦ shown-own g words (with_status status k st) i beyond own ∙ sym (shown-own g words status i beyond own)
            | inr behind ↦
                let differ : i - placed_count g ≢ k = λ same. no_mark (omega (arith, same, behind)) in
                shown-behind g words (with_status status k st) i behind
                ∙ ap (λ x. laid (mark_of x)) (status-else status k (i - placed_count g) st differ) ∙ sym (shown-behind g words status i behind)
          ]
    ]

piece-some : (g : Geometry) (k : ℕ) → 0 < piece_words g k
piece-some g k = grind (arith)

pub piece-end : (g : Geometry) (k : ℕ) → k < piece_count g → piece_start g k + piece_words g k ≤ arena_words g
piece-end g k has = let some = piece-some g k in let last = word-inside g k (piece_words g k - 1) has (omega (arith, some)) in omega (arith, last.0, some)

-- the places where a piece's words are put as far as this, and its mark says so
pub relaid :
    (g : Geometry) (words : List ℕ) (places qs : List Place) (status : ℕ → Status) (k : ℕ) (st : Status) → k < piece_count g
    → length places ≡ placed_count g + mark_count g → ((i : ℕ) → i < length places → place_at places i ≡ shown g words status i)
    → length qs ≡ piece_words g k → ((j : ℕ) → j < piece_words g k → place_at qs j ≡ place_as st (slice_index words (piece_start g k + j)))
    → (i : ℕ) → i < length places
    → place_at (put (slice_set places (mark_place g k) (laid (mark_of st))) (piece_start g k) qs) i ≡ shown g words (with_status status k st) i
relaid g words places qs status k st has long each size filled i inside =
    let p = mark_place g k in
    let start = piece_start g k in
    let marked : List Place = slice_set places p (laid (mark_of st)) in
    let same_long : length marked ≡ length places = length-set places p (laid (mark_of st)) in
    let now = with_status status k st in
    let arena = arena-placed g in
    let last : start + piece_words g k ≤ arena_words g = piece-end g k has in
    let within : start + length qs ≤ length marked = omega (arith, same_long, long, size, last, arena) in
    let aside : (place_at (put marked start qs) i ≡ place_at marked i) → (i < arena_words g → piece_of g i ≢ k) → place_at (put marked start qs) i ≡ shown g words now i =
    λ same apart. elim (cases_eq i p) [
      | inl mark ↦
          same ∙ ap (place_at marked) mark ∙ get_or-set_same places p (laid (mark_of st)) None (omega (arith, long, has))
          ∙ sym (ap (shown g words now) mark ∙ shown-mark g words now k ∙ ap (λ x. laid (mark_of x)) (status-here status k st))
      | inr no_mark ↦
          same ∙ get_or-set_other places p i (laid (mark_of st)) None no_mark ∙ each i inside ∙ sym (shows-still g words status k i st apart no_mark)
    ] in
    elim (cases_lt i start) [
      | inl before ↦
          aside (at-put_before marked qs start i within before)
          (λ in_arena same. let among = word-among g i in_arena in omega (arith, before, among.1, ap (piece_start g) same))
      | inr from ↦
          elim (cases_lt i (start + length qs)) [
            | inr behind ↦
                aside (at-put_behind marked qs start i within behind)
                (λ in_arena same. let among = word-among g i in_arena in
                omega (arith, behind, size, among.2, ap (piece_start g) same, ap (piece_words g) same))
            | inl below ↦
                let j : ℕ = i - start in
                let number : start + j ≡ i = omega (arith, from) in
                let short : j < piece_words g k = omega (arith, below, from, size) in
                let there = word-inside g k j has short in
                subst (λ m. place_at (put marked start qs) m ≡ shown g words now m) number
                (at-put_in marked qs start j within (omega (arith, short, size)) ∙ filled j short
                ∙ sym (shown-arena g words now (start + j) there.0
                ∙ ap (λ x. place_as x (slice_index words (start + j))) (ap now there.1 ∙ status-here status k st)))
          ]
    ]
