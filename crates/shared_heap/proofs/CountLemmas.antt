-- The step that counts a pass keeps the rule, and the last one finds a pass in each place.
use Rattle.std.proofs.Common.{ℕ, zero, suc, ◌≡◌, ◌≢◌, ◌<◌, ◌≤◌, ◌+◌, ◌^◌, ◌%◌, ◌⊎◌, inl, inr, ⊎_elim, List, [], ◌∷◌, ◌++◌, Option, Some, None, length, get_or, set, refl, sym, ap, subst, ◌∙◌, mod-eq_of_lt, arith}
use Rattle.std.proofs.lemmas.List.{length-append, length-set, get_or-set_same, get_or-set_other}
use mathlib.Core.Option.{Option as Maybe, none, some, some-injective, some-ne-none}
use native.Mathlib.Decide.{dec_lt}
use mathlib.Core.Logic.{dite}
use lib.ListN.{get_elem?}
use Rattle.atomic_table.specs.Table.{Act, keeps, takes, chain, carried_after, homes_after, stepped, Allows, Valid}
use Rattle.atomic_table.proofs.Lists.{at_last, at_longer, at_set, set_else, set_here}
use Rattle.heap_geometry.specs.declared.limits.TheConstants.{MAX_CALLERS}
use Rattle.live_heap.specs.Heaps.{HeapFields}
use Rattle.shared_heap.specs.declared.places.Given.{Given}
use Rattle.shared_heap.specs.declared.places.Stand.{Stand}
use Rattle.shared_heap.specs.declared.places.Stand.TheVariants as stand
use Rattle.shared_heap.specs.Counted.{AllLay, HasCounted, slots_from}
use Rattle.shared_heap.specs.Places.{InOrder, IsAbout, IsGiven, IsNumber, Knows, PlaceState, PlacesHold, View, count_of, home_at}
use Rattle.shared_heap.proofs.OrderLemmas.{all-there, below-more, once-more}
use Rattle.shared_heap.proofs.PlaceLemmas.{about-number, at_end, lies-at, order-below, order-lacks, order-once, same-view, still-alone, still-open}

-- what was given back lies in the place
abbrev Lies : HeapFields → PlaceState → ℕ → Given → Type 0
Lies h s place g = (get_or s.words place 0 ≡ 2) × (home_at s place ≡ some (Some g)) × IsGiven h place g

counted-lies :
    (h : HeapFields) (s : PlaceState) (v : Stand) (number place : ℕ) → IsNumber v number place
    → Knows h v place (get_or s.words place 0) (home_at s place) → (g : Given) × Lies h s place g
counted-lies h s (stand.Deals next) number place is knows = absurd is
counted-lies h s (stand.Waits caller) number place is knows = absurd is
counted-lies h s (stand.Takes caller) number place is knows = absurd is
counted-lies h s (stand.Laid g) number place is knows = absurd is
counted-lies h s (stand.Counted g n) number place is knows = (g, knows)

is_given : Given → Option Given → Given
is_given d None = d
is_given d (Some g) = g

some-is : (g f : Given) → Some g ≡ Some f → g ≡ f
unfolding is_given
some-is g f same = ap (is_given g) same

there : {A : Type 0} (l : List A) (i : ℕ) → i < length l → (a : A) × (get_elem? l i ≡ some a)
there [] i low = absurd (omega (arith, low))
there (x ∷ xs) zero low = (x, refl)
there (x ∷ xs) (suc i) low = there xs i (omega (arith, low))

-- where all passes but one are counted, and this one is laid, one lies in each place of the heap's
module _ (h : HeapFields) (s : PlaceState) (holds : PlacesHold h s) (id : ℕ) (own : Given) (at : get_elem? s.views id ≡ some (h, stand.Laid own))
    (has : own.pass.errand.caller < h.layout.callers) (fit : h.layout.callers ≤ length s.homes) (last : suc (count_of s) ≡ h.layout.callers) where
  is-open : count_of s < h.layout.callers
  is-open = omega (arith, last)

  own-lies : Lies h s own.pass.errand.caller own
  own-lies = holds.each is-open id (h, stand.Laid own) own.pass.errand.caller at refl (omega (arith, has, fit))

  lies-each : (place : ℕ) → place < h.layout.callers → (g : Given) × Lies h s place g
  lies-each place low =
      let order = holds.in_order.order in
      let own_at = own.pass.errand.caller in
      let it =
      all-there (own_at ∷ order) h.layout.callers place
      (once-more order own_at (order-once h s holds) (order-lacks h s holds id own_at (h, stand.Laid own) at refl (λ _ _ is. is)))
      (below-more order own_at h.layout.callers (order-below h s holds) has) (omega (arith, holds.in_order.count, last)) low in
      from it.0 it.1
    where
      from : (i : ℕ) → get_elem? (own.pass.errand.caller ∷ holds.in_order.order) i ≡ some place → (g : Given) × Lies h s place g
      from zero is = (own, subst (λ (n : ℕ). Lies h s n own) (some-injective own.pass.errand.caller place is) own-lies)
      from (suc i) is =
          let it = holds.in_order.counted i place is in
          counted-lies h s it.2.1 i place it.4
          (holds.each is-open it.1 it.2 place it.3 (about-number it.2.1 i place it.4) (omega (arith, low, fit)))

  lies-from :
      (n place : ℕ) → place + n ≡ h.layout.callers
      → (givens : List Given) × (length givens ≡ n) × ((i k : ℕ) (g : Given) → get_elem? givens i ≡ some g → k ≡ place + i → Lies h s k g)
  lies-from zero place sum = ([], refl, λ i k g found is. absurd (some-ne-none g (sym found)))
  lies-from (suc n) place sum =
      let one = lies-each place (omega (arith, sum)) in
      let rest = lies-from n (suc place) (omega (arith, sum)) in
      (one.0 ∷ rest.0, ap suc rest.1, more one.0 rest.0 one.1 rest.2)
    where
      more :
          (f : Given) (fs : List Given) → Lies h s place f
          → ((i k : ℕ) (g : Given) → get_elem? fs i ≡ some g → k ≡ suc place + i → Lies h s k g)
          → (i k : ℕ) (g : Given) → get_elem? (f ∷ fs) i ≡ some g → k ≡ place + i → Lies h s k g
      more f fs first others zero k g found is =
          let k_is : place ≡ k = omega (arith, is) in
          subst (λ (m : ℕ). Lies h s m g) k_is (subst (Lies h s place) (some-injective f g found) first)
      more f fs first others (suc i) k g found is = others i k g found (omega (arith, is))

  pub all-lay :
      length s.homes ≡ MAX_CALLERS
      → (givens : List Given) × ((i k : ℕ) (g : Given) → get_elem? givens i ≡ some g → k ≡ 0 + i → Lies h s k g) × AllLay h own givens
  all-lay all =
      let it = lies-from h.layout.callers 0 (omega arith) in
      let mine = there it.0 own.pass.errand.caller (omega (arith, has, it.1)) in
      let lies = it.2 own.pass.errand.caller own.pass.errand.caller mine.0 mine.1 (omega arith) in
      let is_own : mine.0 ≡ own = some-is mine.0 own (some-injective (Some mine.0) (Some own) (sym lies.1 ∙ own-lies.1)) in (
        it.0,
        it.2,
        record {
          state = s;
          stood = record { holds = holds; id = id; laid = at; all = all; last = last };
          lie = λ place g found. it.2 place place g found (omega arith);
          many = it.1;
          has_own = mine.1 ∙ ap some is_own;
        },
      )

-- what lies in these places is taken, from one on
taking : ℕ → List Given → Act (Option Given)
taking place [] = keeps
taking place (g ∷ givens) = chain (taking (suc place) givens) (takes place (Some g))

taken-long : (place : ℕ) (givens : List Given) (homes : List (Maybe (Option Given))) → length (homes_after homes [] (taking place givens)) ≡ length homes
unfolding taking
taken-long place [] homes = refl
taken-long place (g ∷ givens) homes =
    length-set (homes_after homes [] (taking (suc place) givens)) place none ∙ taken-long (suc place) givens homes

taken-below :
    (place k : ℕ) (givens : List Given) (homes : List (Maybe (Option Given))) → k < place
    → get_elem? (homes_after homes [] (taking place givens)) k ≡ get_elem? homes k
unfolding taking
taken-below place k [] homes low = refl
taken-below place k (g ∷ givens) homes low =
    set_else (homes_after homes [] (taking (suc place) givens)) place k none (λ is. omega (arith, is, low))
    ∙ taken-below (suc place) k givens homes (omega (arith, low))

taken-are : (place : ℕ) (givens : List Given) → carried_after [] (taking place givens) ≡ slots_from place givens
unfolding taking
taken-are place [] = refl
taken-are place (g ∷ givens) = ap (λ (l : List (ℕ × Option Given)). (place, Some g) ∷ l) (taken-are (suc place) givens)

can-take :
    (place : ℕ) (givens : List Given) (homes : List (Maybe (Option Given)))
    → ((i k : ℕ) (g : Given) → get_elem? givens i ≡ some g → k ≡ place + i → get_elem? homes k ≡ some (some (Some g)))
    → Valid homes [] (taking place givens)
unfolding taking
can-take place [] homes are = tt
can-take place (g ∷ givens) homes are = (
  can-take (suc place) givens homes (λ i k f at is. are (suc i) k f at (omega (arith, is))),
  taken-below (suc place) place givens homes (omega arith) ∙ are zero place g refl (omega arith),
)

within-views : (l : List View) (i : ℕ) (a : View) → get_elem? l i ≡ some a → i < length l
within-views [] i a at = absurd (some-ne-none a (sym at))
within-views (x ∷ xs) zero a at = omega arith
within-views (x ∷ xs) (suc i) a at = let low = within-views xs i a at in omega (arith, low)

-- one pass more is counted; the last one may take what lies in the places
module _ (h : HeapFields) (s : PlaceState) (id : ℕ) (own : Given) (homes : List (Maybe (Option Given))) (holds : PlacesHold h s) (here : get_elem? s.views id ≡ some (h, stand.Laid own)) (has : own.pass.errand.caller < h.layout.callers) (long : length homes ≡ length s.homes) (kept : suc (count_of s) < h.layout.callers → homes ≡ s.homes) where
  abbrev n : ℕ
  n = count_of s

  abbrev place : ℕ
  place = own.pass.errand.caller

  abbrev o : InOrder h s
  o = holds.in_order

  abbrev v : View
  v = (h, stand.Laid own)

  abbrev w : View
  w = (h, stand.Counted own (count_of s))

  abbrev words : List ℕ
  words = set s.words MAX_CALLERS (suc (count_of s))

  count : get_or words MAX_CALLERS 0 ≡ suc n
  count = get_or-set_same s.words MAX_CALLERS (suc n) 0 holds.words

  one-more : (m : ℕ) → m + 1 ≡ suc m
  one-more m = omega arith

  less : get_or words MAX_CALLERS 0 < h.layout.callers → suc n < h.layout.callers
  less is = subst (λ (m : ℕ). m < h.layout.callers) count is

  was_open : get_or words MAX_CALLERS 0 < h.layout.callers → n < h.layout.callers
  was_open is = omega (arith, less is)

  word : (k : ℕ) → k < length homes → get_or words k 0 ≡ get_or s.words k 0
  word k within = get_or-set_other s.words MAX_CALLERS k (suc n) 0 (λ is. omega (arith, is, within, long, holds.homes))

  carry :
      get_or words MAX_CALLERS 0 < h.layout.callers → (k : ℕ) → k < length homes → (x : Stand)
      → Knows h x k (get_or s.words k 0) (home_at s k) → Knows h x k (get_or words k 0) (get_or homes k none)
  carry is_open k within x old =
      subst (λ (l : List (Maybe (Option Given))). Knows h x k (get_or words k 0) (get_or l k none)) (sym (kept (less is_open)))
      (subst (λ (m : ℕ). Knows h x k m (home_at s k)) (sym (word k within)) old)

  counted-in :
      (number k : ℕ) → (get_elem? o.order number ≡ some k) ⊎ ((number ≡ length o.order) × (place ≡ k))
      → (k < h.layout.callers) × (i : ℕ) × (u : View) × (get_elem? (set s.views id w) i ≡ some u) × IsNumber u.1 number k
  counted-in number k (inl old) =
      let it = o.counted number k old in
      let apart : it.1 ≢ id =
      λ same. absurd (subst (λ (z : View). IsNumber z.1 number k) (same-view s.views it.1 id it.2 v same it.3 here) it.4) in
      (it.0, it.1, it.2, set_else s.views id it.1 w apart ∙ it.3, it.4)
  counted-in number k (inr new) = (
    subst (λ (m : ℕ). m < h.layout.callers) new.1 has,
    id,
    w,
    set_here s.views id w (within-views s.views id v here),
    (new.0 ∙ sym o.count, sym new.1),
  )

  pub counts-on : PlacesHold h (record { words = set s.words MAX_CALLERS (suc (count_of s)); homes = homes; views = set s.views id (h, stand.Counted own (count_of s)) })
  counts-on = record {
    words = subst (λ (m : ℕ). MAX_CALLERS < m) (sym (length-set s.words MAX_CALLERS (suc n))) holds.words;
    homes = omega (arith, holds.homes, long);
    in_order = record {
      order = o.order ++ place ∷ [];
      count = count ∙ ap suc o.count ∙ sym (length-append o.order (place ∷ []) ∙ one-more (length o.order));
      counted = λ number k at. counted-in number k (at_end o.order place k number at);
      numbered = λ i number k u at is.
          ⊎_elim
          (λ same.
          let it : IsNumber w.1 number k = subst (λ (z : View). IsNumber z.1 number k) (sym same.1) is in
          subst (λ (m : ℕ). get_elem? (o.order ++ place ∷ []) m ≡ some k) (sym it.0)
          (at_last o.order place n (sym o.count) ∙ ap some (sym it.1)))
          (λ other. at_longer o.order (place ∷ []) number k (o.numbered i number k u other.1 is)) (at_set s.views id i w u at);
    };
    each = λ is_open i u k at is within.
        ⊎_elim
        (λ same.
        let mine : IsAbout v.1 k = subst (λ (z : View). IsAbout z.1 k) (sym same.1) is in
        subst (λ (z : View). Knows h z.1 k (get_or words k 0) (get_or homes k none)) same.1
        (carry is_open k within w.1 (holds.each (was_open is_open) id v k here mine (omega (arith, within, long)))))
        (λ other. carry is_open k within u.1 (holds.each (was_open is_open) i u k other.1 is (omega (arith, within, long)))) (at_set s.views id i w u at);
    alone = still-alone h s holds id v w here (λ k is. is);
    filled = λ is_open k within two.
        let it = holds.filled (was_open is_open) k (omega (arith, within, long)) (sym (word k within) ∙ two) in
        (it.0, ap (λ (l : List (Maybe (Option Given))). get_or l k none) (kept (less is_open)) ∙ it.1, it.2);
  }

-- a laid pass is counted
pub counts-pass :
    (h : HeapFields) (slots id : ℕ) (own : Given) → slots ≡ MAX_CALLERS → h.layout.callers ≤ MAX_CALLERS → own.pass.errand.caller < h.layout.callers
    → Allows (PlacesHold h) slots id ((h, stand.Laid own), []) MAX_CALLERS (λ n. (n + 1) % 2 ^ 64) (HasCounted ((h, stand.Laid own), []))
counts-pass h slots id own many most has s holds count at small =
    let n = count_of s in
    let open_yet : n < h.layout.callers = still-open h s holds id own.pass.errand.caller (h, stand.Laid own) at refl (λ _ _ is. is) has in
    let plus : suc n ≡ n + 1 = omega arith in
    let next : suc n ≡ (n + 1) % 2 ^ 64 = plus ∙ sym (mod-eq_of_lt {n = n + 1} {m = 2 ^ 64} (omega (arith, open_yet, most))) in
    dite (dec_lt (suc n) h.layout.callers)
    (λ less. (
      (h, stand.Counted own n),
      keeps,
      tt,
      subst (λ (m : ℕ). PlacesHold h (stepped s MAX_CALLERS m id [] (h, stand.Counted own n) keeps)) next
          (counts-on h s id own s.homes holds at has refl (λ _. refl)),
      (refl, inl (less, refl)),
    ))
    (λ past.
    let last : suc n ≡ h.layout.callers = omega (arith, open_yet, past) in
    let fit : h.layout.callers ≤ length s.homes = omega (arith, count, many, most) in
    let it = all-lay h s holds id own at has fit last (count ∙ many) in
    let act = taking 0 it.0 in (
      (h, stand.Counted own n),
      act,
      can-take 0 it.0 s.homes (λ i k g found is. lies-at s.homes k (Some g) (it.1 i k g found is).1),
      subst (λ (m : ℕ). PlacesHold h (stepped s MAX_CALLERS m id [] (h, stand.Counted own n) act)) next
          (counts-on h s id own (homes_after s.homes [] act) holds at has (taken-long 0 it.0 s.homes) (λ less. absurd (past less))),
      (refl, inr (last, it.0, taken-are 0 it.0, it.2)),
    ))
