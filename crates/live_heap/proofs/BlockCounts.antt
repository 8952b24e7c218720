-- How many blocks' words may be out with a pass: each lies in the arena, at a place of its own.
use Rattle.std.proofs.Common.{ℕ, zero, suc, ◌≡◌, ◌≢◌, ◌<◌, ◌≤◌, ◌+◌, ◌^◌, Bool, true, false, eqb, List, [], ◌∷◌, length, refl, sym, ap, ◌∙◌, subst, arith, eqb-true, ne_eqb, get_or}
use Rattle.std.specs.Prelude.{◌||◌}
use Rattle.std.proofs.lemmas.Map.Steps.{length-le_from_distinct_below}
use Rattle.std.proofs.lemmas.Map.Keys.{IsDistinct-from_apart}
use Rattle.std.specs.List.{IsDistinct, list_any}
use mathlib.Core.Option.{some}
use lib.ListN.{get_elem?}
use Rattle.heap_geometry.specs.declared.geometry.Geometry.{Geometry}
use Rattle.heap_geometry.specs.declared.need.Need.{Need}
use Rattle.heap_geometry.specs.Geometry.{IsChecked}
use Rattle.heap_geometry.specs.Need.{usable_words}
use Rattle.word_table.specs.Counts.{arena_words}
use Rattle.step_machine.specs.Cores.{OwnsAfter}
use Rattle.live_heap.specs.Heaps.{HeapFields}
use Rattle.live_heap.specs.declared.pass.Pass.{Pass}
use Rattle.live_heap.specs.declared.view.Lent.{Lent}
use Rattle.live_heap.specs.Passes.{IsOf, OwnsAt, seen, view}
use Rattle.live_heap.proofs.Begun.{heap-at, of-laid}
use Rattle.live_heap.proofs.Straight.{payload-end}

places_of : List Lent → List ℕ
places_of [] = []
places_of (b ∷ bs) = b.place ∷ places_of bs

places-length : (bs : List Lent) → length (places_of bs) ≡ length bs
unfolding places_of
places-length [] = refl
places-length (b ∷ bs) = ap suc (places-length bs)

there : (bs : List Lent) (k d : ℕ) → k < length bs → (b : Lent) × (get_elem? bs k ≡ some b) × (get_or (places_of bs) k d ≡ b.place)
unfolding places_of
there [] k d l = absurd (omega arith)
there (b ∷ bs) zero d l = (b, refl, refl)
there (b ∷ bs) (suc k) d l = there bs k d (omega arith)

any-below :
    (bs : List Lent) (n : ℕ) → ((k : ℕ) (b : Lent) → get_elem? bs k ≡ some b → b.place < n) → (q : ℕ) → list_any (eqb q) (places_of bs) ≡ true → q < n
unfolding places_of
any-below [] n below q is = absurd (cc)
any-below (b ∷ bs) n below q is = first (λ a. any-below bs n (λ k x at. below (suc k) x at) q a) (eqb q b.place) refl is
  where
    first : (list_any (eqb q) (places_of bs) ≡ true → q < n) → (t : Bool) → eqb q b.place ≡ t → (t || list_any (eqb q) (places_of bs)) ≡ true → q < n
    first later true same any = let e = eqb-true q b.place same in let l = below 0 b refl in omega arith
    first later false same any = later any

-- blocks at places of their own below n, and one more
module _ (bs : List Lent) (n place : ℕ) (below : (k : ℕ) (b : Lent) → get_elem? bs k ≡ some b → b.place < n)
    (once : (j k : ℕ) (a b : Lent) → get_elem? bs j ≡ some a → get_elem? bs k ≡ some b → a.place ≡ b.place → j ≡ k) (within : place < n)
    (home : (k : ℕ) (b : Lent) → get_elem? bs k ≡ some b → b.place ≢ place) where
  apart : (i j d : ℕ) → i < j → j < suc (length bs) → eqb (get_or (place ∷ places_of bs) i d) (get_or (place ∷ places_of bs) j d) ≡ false
  apart i zero d a b = absurd (omega arith)
  apart zero (suc j) d a b = let t = there bs j d (omega arith) in ne_eqb _ _ (λ same. home j t.0 t.1 (sym t.2 ∙ sym same))
  apart (suc i) (suc j) d a b =
      let t = there bs i d (omega arith) in
      let u = there bs j d (omega arith) in
      ne_eqb _ _ (λ same. let e : i ≡ j = once i j t.0 u.0 t.1 u.1 (sym t.2 ∙ (same ∙ u.2)) in omega arith)

  low : (q : ℕ) → list_any (eqb q) (place ∷ places_of bs) ≡ true → q < n
  low q is = first (eqb q place) refl is
    where
      first : (t : Bool) → eqb q place ≡ t → (t || list_any (eqb q) (places_of bs)) ≡ true → q < n
      first true same any = let e = eqb-true q place same in omega arith
      first false same any = any-below bs n below q any

  pub fewer : length bs < n
  fewer =
      let long = places-length bs in
      let distinct : IsDistinct eqb (place ∷ places_of bs) = IsDistinct-from_apart eqb (place ∷ places_of bs) (λ i j d a b. apart i j d a (omega arith)) in
      let h : suc (length (places_of bs)) ≤ n = length-le_from_distinct_below (place ∷ places_of bs) n distinct low in omega arith

-- the arena's words are no more than a number of 32 bits says
arena-small : (g : Geometry) → IsChecked g → arena_words g < 2 ^ 32
arena-small g checked = omega (arith, checked.frames.1, checked.units.1)

block-below :
    (h : HeapFields) (p : Pass) (place : ℕ) (need : Need) → IsOf h p → OwnsAfter (seen p) p.errand.caller place need → place < arena_words h.layout
block-below h p place need of owned =
    let within : place + 1 + usable_words need ≤ arena_words h.layout =
    subst (λ g. place + 1 + usable_words need ≤ arena_words g) (of-laid h p of) (payload-end p.errand.geometry place need (heap-at h p place need of owned)) in
    omega (arith, within)

-- the words of one block more may go out
pub out-small : (h : HeapFields) (p : Pass) (place : ℕ) (need : Need) → IsOf h p → OwnsAt p place need → p.out + 1 < 2 ^ 32
out-small h p place need of owned =
    let few =
    fewer (view p).lent (arena_words h.layout) place (λ k b at. block-below h p b.place b.need of (of.mine k b at)) of.once
    (block-below h p place need of owned.0) owned.1 in
    omega (arith, few, of.counted, arena-small h.layout h.checked)
