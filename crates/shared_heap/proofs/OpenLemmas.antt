-- The places at the start.
use Rattle.std.proofs.Common.{ℕ, zero, suc, ◌≡◌, ◌<◌, List, [], ◌∷◌, Option, None, length, map, replicate, get_or, refl, sym, subst, ◌∙◌, arith}
use Rattle.std.proofs.lemmas.List.{length-map, length-replicate}
use mathlib.Core.Option.{none, some, some-injective, some-ne-none}
use lib.ListN.{get_elem?}
use Rattle.atomic_table.specs.Table.{opening}
use Rattle.heap_geometry.specs.declared.limits.TheConstants.{MAX_CALLERS}
use Rattle.live_heap.specs.Heaps.{HeapFields}
use Rattle.shared_heap.specs.declared.places.Given.{Given}
use Rattle.shared_heap.specs.declared.places.Stand.TheVariants as stand
use Rattle.shared_heap.specs.Places.{IsNumber, Knows, PlacesHold, View}

all-zero : (n k : ℕ) → get_or (replicate n zero) k zero ≡ zero
all-zero zero k = refl
all-zero (suc n) zero = refl
all-zero (suc n) (suc k) = all-zero n k

all-home : (n k : ℕ) (none_yet : Option Given) → k < n → get_or (map some (replicate n none_yet)) k none ≡ some none_yet
all-home zero k none_yet low = absurd (omega (arith, low))
all-home (suc n) zero none_yet low = refl
all-home (suc n) (suc k) none_yet low = all-home n k none_yet (omega (arith, low))

only-one : (v u : View) (i : ℕ) → get_elem? (v ∷ []) i ≡ some u → (i ≡ 0) × (v ≡ u)
only-one v u zero at = (refl, some-injective v u at)
only-one v u (suc i) at = absurd (some-ne-none u (sym at))

-- no pass lies in a place, and none was counted
pub opens :
    (h : HeapFields) (words : ℕ) → MAX_CALLERS < words
    → PlacesHold h (opening (replicate words 0) (replicate MAX_CALLERS None) (h, stand.Deals 0))
opens h words more =
    let nothing : Option Given = None in
    let slots : List (Option Given) = replicate MAX_CALLERS nothing in
    let v : View = (h, stand.Deals 0) in
    let long : length (map some slots) ≡ MAX_CALLERS = length-map slots some ∙ length-replicate MAX_CALLERS nothing in
    record {
      words = subst (λ (n : ℕ). MAX_CALLERS < n) (sym (length-replicate words 0)) more;
      homes = omega (arith, long);
      in_order = record {
        order = [];
        count = all-zero words MAX_CALLERS;
        counted = λ number k at. absurd (some-ne-none k (sym at));
        numbered = λ i number k u at is. absurd (subst (λ (z : View). IsNumber z.1 number k) (sym (only-one v u i at).1) is);
      };
      each = λ is_open i u k at is within.
          subst (λ (z : View). Knows h z.1 k (get_or (replicate words 0) k 0) (get_or (map some slots) k none)) (only-one v u i at).1
          (all-zero words k, all-home MAX_CALLERS k nothing (omega (arith, long, within)));
      alone = λ i j a b k at_i at_j is_a is_b. (only-one v a i at_i).0 ∙ sym (only-one v b j at_j).0;
      filled = λ is_open k within two. absurd (omega (arith, all-zero words k, two));
    }
