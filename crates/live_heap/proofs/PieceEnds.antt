-- A region with pieces at opening, and at the end.
use Rattle.std.proofs.Common.{ℕ, zero, suc, ◌≡◌, ◌<◌, ◌+◌, ◌-◌, Some, None, List, [], ◌∷◌, length, refl, arith, sym, ap, subst, inl, inr, ◌∙◌}
use Rattle.std.specs.Prelude.{slice_index}
use Rattle.std.proofs.lemmas.Bool.{cases_lt}
use mathlib.Core.Option.{some, some-injective}
use lib.ListN.{get_elem?}
use Rattle.heap_geometry.specs.declared.geometry.Geometry.{Geometry}
use Rattle.heap_geometry.specs.Geometry.{IsChecked}
use Rattle.word_table.specs.Counts.{arena_words, word_count}
use Rattle.word_table.specs.Occurs.{occurs}
use Rattle.live_heap.specs.placement.Places.{placed_count, words_at}
use Rattle.plain_words.specs.Places.{Place, laid, place_at, AllHere, IsHere}
use Rattle.errand_steps.specs.Begins.{IsIdle}
use Rattle.errand_steps.specs.Openings.{opening}
use Rattle.step_machine.specs.Firsts.{IsTable}
use Rattle.sound_laws.specs.uses.Pieces.{piece_count, piece_of, piece_start}
use Rattle.sound_laws.proofs.uses_lemmas.Opening.{unused-first}
use Rattle.sound_laws.proofs.uses_lemmas.PieceLemmas.{word-among, word-inside}
use Rattle.live_heap.specs.declared.view.Standing.{Standing}
use Rattle.live_heap.specs.declared.view.View.{View}
use Rattle.live_heap.specs.Pieces.{AreLaidOut, Status, mark_count, mark_of, place_as, shown}
use Rattle.live_heap.specs.Pieces.Status.{blank, out, used}
use Rattle.live_heap.specs.Rule.{first_errands, state_with}
use Rattle.live_heap.specs.Views.{opening_view}
use Rattle.live_heap.proofs.Claiming.{blank-out, unlike}
use Rattle.live_heap.proofs.Moves.{idle-opens}
use Rattle.live_heap.proofs.Seats.{first-there, table-opening}
use Rattle.live_heap.proofs.Shows.{shown-arena, shown-behind, shown-own}

-- nothing is laid of the arena
abbrev pub all_blank : ℕ → Status
all_blank k = blank

-- at opening the arena is blank, and every other word is laid as at opening, and each mark with 0
pub opens-pieces :
    (g : Geometry) (words : List ℕ) (places : List Place) → IsChecked g → IsTable g (opening g) (word_count g) (words_at g words)
    → length places ≡ placed_count g + mark_count g → ((i : ℕ) → i < length places → place_at places i ≡ shown g words all_blank i)
    → ((i : ℕ) → i < arena_words g → slice_index words i ≡ 0) → AreLaidOut g words places (opening_view g ∷ [])
opens-pieces g words places checked table long each zeros = record {
  status = all_blank;
  long = long;
  each = each;
  spare = λ k has unused. record {
    unused = inl (unused-first g (state_with g (words_at g words) (first_errands g) []) k checked (record { word = table-opening g (words_at g words) table; errand = first-there g; history = refl }) has);
    zeros = λ j short. zeros (piece_start g k + j) (word-inside g k j has short).0;
  };
  layer = λ k has gone. absurd (blank-out gone);
  lays = λ id v k there laying. absurd (unlike k (sym laying ∙ lays-none id v there));
  once = λ i j v w k there_i there_j laying_i laying_j. absurd (unlike k (sym laying_i ∙ lays-none i v there_i));
  ready = λ id v k there has. absurd (knows-none id v k there has);
}
  where
    lays-none : (id : ℕ) (v : View) → get_elem? (opening_view g ∷ []) id ≡ some v → v.lays ≡ None
    lays-none zero v is = ap (λ (z : View). z.lays) (sym (some-injective (opening_view g) v is))
    lays-none (suc id) v is = absurd (let no : ⊥ = cc in no)

    knows-none : (id : ℕ) (v : View) (k : ℕ) → get_elem? (opening_view g ∷ []) id ≡ some v → 0 < occurs k v.ready → ⊥
    knows-none zero v k is has = let none = subst (λ (z : View). 0 < occurs k z.ready) (sym (some-injective (opening_view g) v is)) has in omega (arith, none)
    knows-none (suc id) v k is has = let no : ⊥ = cc in no

-- where all callers are in no call, no piece is out
pub nothing-out :
    (g : Geometry) (words : List ℕ) (places : List Place) (views : List View) (a : AreLaidOut g words places views)
    → ((i n : ℕ) (u : View) (x : Standing) → get_elem? views i ≡ some u → get_elem? u.callers n ≡ some x → IsIdle x.errand)
    → (k : ℕ) → k < piece_count g → a.status k ≡ out → ⊥
nothing-out g words places views a idle k has gone =
    let by = a.layer k has gone in idle-opens g by.4.1.errand.point k (idle by.0 by.4.0 by.1 by.4.1 by.2 by.4.2) by.4.3

here-as : (st : Status) (n : ℕ) (p : Place) → (st ≡ out → ⊥) → p ≡ place_as st n → IsHere p
here-as blank n p no_hole is gone = let no : ◌≡◌ {A = Place} None (Some None) = sym gone ∙ is in cc
here-as out n p no_hole is gone = no_hole refl
here-as used n p no_hole is gone = let no : ◌≡◌ {A = Place} None (laid n) = sym gone ∙ is in cc

here-laid : (n : ℕ) (p : Place) → p ≡ laid n → IsHere p
here-laid n p is gone = let no : ◌≡◌ {A = Place} None (laid n) = sym gone ∙ is in cc

-- and all words are here
pub all-at_home :
    (g : Geometry) (words : List ℕ) (places : List Place) (views : List View) (a : AreLaidOut g words places views)
    → ((k : ℕ) → k < piece_count g → a.status k ≡ out → ⊥) → AllHere places
all-at_home g words places views a none i inside =
    let is = a.each i inside in
    elim (cases_lt i (arena_words g)) [
      | inl arena ↦
          here-as (a.status (piece_of g i)) (slice_index words i) (place_at places i) (none (piece_of g i) (word-among g i arena).0)
          (is ∙ shown-arena g words a.status i arena)
      | inr beyond ↦
          elim (cases_lt i (placed_count g)) [
            | inl own ↦ here-laid (slice_index words i) (place_at places i) (is ∙ shown-own g words a.status i beyond own)
            | inr behind ↦ here-laid (mark_of (a.status (i - placed_count g))) (place_at places i) (is ∙ shown-behind g words a.status i behind)
          ]
    ]
