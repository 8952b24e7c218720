-- The words that are out with passes: where they lie, and what leaves them so.
use Rattle.std.proofs.Common.{ℕ, ◌≡◌, ◌≢◌, ◌<◌, ◌≤◌, ◌+◌, ◌-◌, None, List, [], length, arith, sym, ap, subst, inl, inr, ◌∙◌, get_or-set_same, get_or-set_other}
use Rattle.std.specs.Prelude.{slice_index, slice_set}
use Rattle.std.proofs.lemmas.Bool.{cases_eq, cases_lt}
use mathlib.Core.Option.{some, some-ne-none}
use lib.ListN.{get_elem?}
use Rattle.heap_geometry.specs.declared.geometry.Geometry.{Geometry}
use Rattle.heap_geometry.specs.Need.{usable_words}
use Rattle.word_table.specs.Counts.{arena_words}
use Rattle.plain_words.specs.Places.{Place, laid, place_at, put}
use Rattle.pool_model.specs.declared.event.Event.{Event}
use Rattle.step_machine.specs.Cores.{OwnsAfter}
use Rattle.live_heap.specs.declared.view.Lent.{Lent}
use Rattle.live_heap.specs.declared.view.Standing.{Standing}
use Rattle.live_heap.specs.declared.view.View.{View}
use Rattle.live_heap.specs.Pieces.{AreLent, IsLent, IsOut, caller_mark, mark_of, mark_place}
use Rattle.live_heap.specs.Pieces.Status.{out}
use Rattle.live_heap.proofs.PutPlaces.{at-put_before, at-put_in, at-put_behind}

-- a word that is out is one of the arena, and laid
pub lent-laid :
    (g : Geometry) (events : List Event) (whole places : List Place) (views : List View) (i : ℕ) → AreLent g events whole places views → IsLent views i
    → (i < arena_words g) × ((x : ℕ) × (place_at whole i ≡ laid x))
lent-laid g events whole places views i l (id, v, n, b, there, at, above, below) =
    let o = l.blocks id n v b there at in
    let j : ℕ = i - (b.place + 1) in
    let number : b.place + 1 + j ≡ i = omega (arith, above) in
    (omega (arith, o.within, below), (slice_index b.numbers j, ap (place_at whole) (sym number) ∙ o.words j (omega (arith, above, below))))

-- so a place behind the arena is as if nothing were out
pub home-behind :
    (g : Geometry) (events : List Event) (whole places : List Place) (views : List View) (i : ℕ) → AreLent g events whole places views
    → arena_words g ≤ i → i < length places → place_at places i ≡ place_at whole i
home-behind g events whole places views i l beyond inside =
    l.home i inside (λ lent. omega (arith, (lent-laid g events whole places views i l lent).0, beyond))

-- a pass that has nothing out has no block out
pub none-out : (v : View) (n : ℕ) (b : Lent) → v.lent ≡ [] → get_elem? v.lent n ≡ some b → ⊥
none-out v n b home at = some-ne-none b (sym (subst (λ (l : List Lent). get_elem? l n ≡ some b) home at))

-- two rows that are alike at a place are alike there still, once the same is put into both
pub set-alike :
    (ps qs : List Place) (m i : ℕ) (x : Place) → m < length ps → length qs ≡ length ps → (i ≢ m → place_at ps i ≡ place_at qs i)
    → place_at (slice_set ps m x) i ≡ place_at (slice_set qs m x) i
set-alike ps qs m i x within long alike =
    elim (cases_eq i m) [
      | inl same ↦
          ap (place_at (slice_set ps m x)) same ∙ get_or-set_same ps m x None within
          ∙ sym (ap (place_at (slice_set qs m x)) same ∙ get_or-set_same qs m x None (omega (arith, long, within)))
      | inr other ↦ get_or-set_other ps m i x None other ∙ alike other ∙ sym (get_or-set_other qs m i x None other)
    ]

pub put-alike :
    (ps qs rs : List Place) (k i : ℕ) → k + length rs ≤ length ps → length qs ≡ length ps → (i < k → place_at ps i ≡ place_at qs i)
    → (k + length rs ≤ i → place_at ps i ≡ place_at qs i) → place_at (put ps k rs) i ≡ place_at (put qs k rs) i
put-alike ps qs rs k i within long before behind =
    let also : k + length rs ≤ length qs = omega (arith, within, long) in
    elim (cases_lt i k) [
      | inl less ↦ at-put_before ps rs k i within less ∙ before less ∙ sym (at-put_before qs rs k i also less)
      | inr from ↦
          elim (cases_lt i (k + length rs)) [
            | inr past ↦ at-put_behind ps rs k i within past ∙ behind past ∙ sym (at-put_behind qs rs k i also past)
            | inl inside ↦
                let j : ℕ = i - k in
                let number : k + j ≡ i = omega (arith, from) in
                let short : j < length rs = omega (arith, from, inside) in
                subst (λ m. place_at (put ps k rs) m ≡ place_at (put qs k rs) m) number
                (at-put_in ps rs k j within short ∙ sym (at-put_in qs rs k j also short))
          ]
    ]

-- a block that is out is so still where its words and its owner's mark are as they were, and it is owned still
pub out-on :
    (g : Geometry) (events later : List Event) (whole now : List Place) (v w : View) (b : Lent) (o : IsOut g events whole v b)
    → get_elem? w.callers o.number ≡ some o.owner → OwnsAfter later o.owner.errand.caller b.place b.need
    → place_at now (mark_place g (caller_mark g o.owner.errand.caller)) ≡ place_at whole (mark_place g (caller_mark g o.owner.errand.caller))
    → ((i : ℕ) → i < usable_words b.need → place_at now (b.place + 1 + i) ≡ place_at whole (b.place + 1 + i)) → IsOut g later now w b
out-on g events later whole now v w b o stands owned mark words = record {
  number = o.number;
  owner = o.owner;
  stands = stands;
  owned = owned;
  within = o.within;
  marked = mark ∙ o.marked;
  long = o.long;
  words = λ i short. words i short ∙ o.words i short;
}

-- so it is where each place that is laid stays as it was, but for one behind the arena that is no caller's mark
pub out-still :
    (g : Geometry) (events : List Event) (whole now : List Place) (v w : View) (b : Lent) (m : ℕ) → arena_words g ≤ m
    → ((caller : ℕ) → mark_place g (caller_mark g caller) ≢ m) → ((i x : ℕ) → i ≢ m → place_at whole i ≡ laid x → place_at now i ≡ laid x)
    → w.callers ≡ v.callers → IsOut g events whole v b → IsOut g events now w b
out-still g events whole now v w b m beyond apart still same o =
    out-on g events events whole now v w b o (ap (λ (l : List Standing). get_elem? l o.number) same ∙ o.stands) o.owned
    (still (mark_place g (caller_mark g o.owner.errand.caller)) (mark_of out) (apart o.owner.errand.caller) o.marked ∙ sym o.marked)
    (λ i short.
    still (b.place + 1 + i) (slice_index b.numbers i) (λ same_place. omega (arith, same_place, o.within, short, beyond)) (o.words i short)
    ∙ sym (o.words i short))
