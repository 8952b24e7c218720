-- The steps on places keep what lies in them.
use Rattle.std.proofs.Common.{ℕ, zero, suc, ◌≡◌, ◌≢◌, ◌<◌, ◌≤◌, ◌⊎◌, inl, inr, ⊎_elim, List, [], ◌∷◌, ◌++◌, Option, Some, None, length, get_or, set, refl, sym, ap, subst, ◌∙◌, arith}
use Rattle.std.proofs.lemmas.List.{length-set, get_or-set_same, get_or-set_other}
use mathlib.Core.Option.{Option as Maybe, none, some, some-injective, some-ne-none}
use native.Mathlib.Decide.{ℕ_discrete}
use mathlib.Core.Logic.{dite}
use lib.ListN.{get_elem?}
use Rattle.atomic_table.specs.Table.{takes, gives, Allows}
use Rattle.atomic_table.proofs.Lists.{at_longer, at_set, set_else}
use Rattle.heap_geometry.specs.declared.limits.TheConstants.{MAX_CALLERS}
use Rattle.live_heap.specs.Heaps.{HeapFields}
use Rattle.shared_heap.specs.declared.places.Given.{Given}
use Rattle.shared_heap.specs.declared.places.Stand.{Stand}
use Rattle.shared_heap.specs.declared.places.Stand.TheVariants as stand
use Rattle.shared_heap.specs.Places.{HasLaid, HasTaken, InOrder, IsAbout, IsGiven, IsNumber, Knows, PlaceState, PlacesHold, View, count_of, home_at}
use Rattle.shared_heap.proofs.OrderLemmas.{Below, Lacks, Once, below-more, fits, once-more}

-- a seat that has a number is about that place
pub about-number : (v : Stand) (number place : ℕ) → IsNumber v number place → IsAbout v place
about-number (stand.Deals next) number place is = absurd is
about-number (stand.Waits caller) number place is = absurd is
about-number (stand.Takes caller) number place is = absurd is
about-number (stand.Laid g) number place is = absurd is
about-number (stand.Counted g n) number place is = is.1

one-number : (v : Stand) (i j place : ℕ) → IsNumber v i place → IsNumber v j place → i ≡ j
one-number (stand.Deals next) i j place one other = absurd one
one-number (stand.Waits caller) i j place one other = absurd one
one-number (stand.Takes caller) i j place one other = absurd one
one-number (stand.Laid g) i j place one other = absurd one
one-number (stand.Counted g n) i j place one other = one.0 ∙ sym other.0

abbrev pub NoNumber : Stand → Type 0
NoNumber v = (number place : ℕ) → IsNumber v number place → ⊥

pub same-view :
    (views : List View) (i j : ℕ) (v w : View) → i ≡ j → get_elem? views i ≡ some v → get_elem? views j ≡ some w → v ≡ w
same-view views i j v w same at_i at_j = some-injective v w (sym at_i ∙ ap (get_elem? views) same ∙ at_j)

-- each caller was counted once
pub order-once : (h : HeapFields) (s : PlaceState) (holds : PlacesHold h s) → Once holds.in_order.order
order-once h s holds i j place at_i at_j =
    let one = holds.in_order.counted i place at_i in
    let other = holds.in_order.counted j place at_j in
    let same : one.1 ≡ other.1 =
    holds.alone one.1 other.1 one.2 other.2 place one.3 other.3 (about-number one.2.1 i place one.4) (about-number other.2.1 j place other.4) in
    let view : one.2 ≡ other.2 = same-view s.views one.1 other.1 one.2 other.2 same one.3 other.3 in
    one-number other.2.1 i j place (subst (λ (z : View). IsNumber z.1 i place) view one.4) other.4

pub order-below : (h : HeapFields) (s : PlaceState) (holds : PlacesHold h s) → Below holds.in_order.order h.layout.callers
order-below h s holds i place at = (holds.in_order.counted i place at).0

-- no place was counted that a seat with no number is about
pub order-lacks :
    (h : HeapFields) (s : PlaceState) (holds : PlacesHold h s) (id place : ℕ) (v : View) → get_elem? s.views id ≡ some v → IsAbout v.1 place
    → NoNumber v.1 → Lacks holds.in_order.order place
order-lacks h s holds id place v at about bare i at_i =
    let one = holds.in_order.counted i place at_i in
    let same : one.1 ≡ id = holds.alone one.1 id one.2 v place one.3 at (about-number one.2.1 i place one.4) about in
    let view : one.2 ≡ v = same-view s.views one.1 id one.2 v same one.3 at in
    bare i place (subst (λ (z : View). IsNumber z.1 i place) view one.4)

-- not all passes are counted, where a seat with no number is about a place of the heap's
pub still-open :
    (h : HeapFields) (s : PlaceState) → PlacesHold h s → (id place : ℕ) (v : View) → get_elem? s.views id ≡ some v → IsAbout v.1 place
    → NoNumber v.1 → place < h.layout.callers → count_of s < h.layout.callers
still-open h s holds id place v at about bare has =
    let order = holds.in_order.order in
    let many : suc (length order) ≤ h.layout.callers =
    fits (place ∷ order) h.layout.callers (once-more order place (order-once h s holds) (order-lacks h s holds id place v at about bare))
    (below-more order place h.layout.callers (order-below h s holds) has) in
    omega (arith, holds.in_order.count, many)

-- what a seat is about behind a step of one seat, which is about nothing new, some seat with its number was about before
pub before :
    (views : List View) (id : ℕ) (v w : View) → get_elem? views id ≡ some v → ((k : ℕ) → IsAbout w.1 k → IsAbout v.1 k)
    → (i k : ℕ) (a : View) → get_elem? (set views id w) i ≡ some a → IsAbout a.1 k
    → (u : View) × (get_elem? views i ≡ some u) × IsAbout u.1 k
before views id v w here still i k a at is =
    ⊎_elim (λ same. (v, ap (get_elem? views) same.0 ∙ here, still k (subst (λ (z : View). IsAbout z.1 k) (sym same.1) is)))
    (λ other. (a, other.1, is)) (at_set views id i w a at)

-- each place is still one seat's alone
pub still-alone :
    (h : HeapFields) (s : PlaceState) → PlacesHold h s → (id : ℕ) (v w : View) → get_elem? s.views id ≡ some v
    → ((k : ℕ) → IsAbout w.1 k → IsAbout v.1 k) → (i j : ℕ) (a b : View) (k : ℕ) → get_elem? (set s.views id w) i ≡ some a
    → get_elem? (set s.views id w) j ≡ some b → IsAbout a.1 k → IsAbout b.1 k → i ≡ j
still-alone h s holds id v w here still i j a b k at_i at_j is_a is_b =
    let first = before s.views id v w here still in
    let one = first i k a at_i is_a in
    let other = first j k b at_j is_b in
    holds.alone i j one.0 other.0 k one.1 other.1 one.2 other.2

-- the places, where a seat has changed what it is about and one place
abbrev changed : PlaceState → ℕ → ℕ → ℕ → View → Maybe (Option Given) → PlaceState
changed s id place n w x = record { words = set s.words place n; homes = set s.homes place x; views = set s.views id w }

not-count : (h : HeapFields) (s : PlaceState) → PlacesHold h s → (place : ℕ) → place < length s.homes → MAX_CALLERS ≢ place
not-count h s holds place low is = omega (arith, low, holds.homes, is)

-- a seat with no number changes what it is about, and gets none
still-in-order :
    (h : HeapFields) (s : PlaceState) (id place n : ℕ) (v w : View) (x : Maybe (Option Given)) → PlacesHold h s → get_elem? s.views id ≡ some v
    → place < length s.homes → NoNumber v.1 → NoNumber w.1 → InOrder h (changed s id place n w x)
still-in-order h s id place n v w x holds here low no_v no_w =
    let o = holds.in_order in
    record {
      order = o.order;
      count = get_or-set_other s.words place MAX_CALLERS n 0 (not-count h s holds place low) ∙ o.count;
      counted = λ number k at.
          let it = o.counted number k at in
          let apart : it.1 ≢ id =
          λ same. no_v number k (subst (λ (z : View). IsNumber z.1 number k) (same-view s.views it.1 id it.2 v same it.3 here) it.4) in
          (it.0, it.1, it.2, set_else s.views id it.1 w apart ∙ it.3, it.4);
      numbered = λ i number k u at is.
          ⊎_elim (λ same. absurd (no_w number k (subst (λ (z : View). IsNumber z.1 number k) (sym same.1) is)))
          (λ other. o.numbered i number k u other.1 is) (at_set s.views id i w u at);
    }

-- a seat that is about a place changes it, and what it is itself about, as the rule has it
moved :
    (h : HeapFields) (s : PlaceState) (id place n : ℕ) (v w : View) (x : Maybe (Option Given)) → PlacesHold h s → get_elem? s.views id ≡ some v
    → place < length s.homes → IsAbout v.1 place → ((k : ℕ) → IsAbout w.1 k → k ≡ place) → NoNumber v.1 → NoNumber w.1 → Knows h w.1 place n x
    → (n ≡ 2 → (g : Given) × (x ≡ some (Some g)) × IsGiven h place g) → PlacesHold h (changed s id place n w x)
moved h s id place n v w x holds here low about only no_v no_w knows given =
    let t = changed s id place n w x in
    let apart_word = not-count h s holds place low in
    let in_words : place < length s.words = omega (arith, low, holds.homes, holds.words) in
    let word : get_or t.words place 0 ≡ n = get_or-set_same s.words place n 0 in_words in
    let home : home_at t place ≡ x = get_or-set_same s.homes place x none low in
    let now : Knows h w.1 place (get_or t.words place 0) (home_at t place) =
    subst (λ (m : ℕ). Knows h w.1 place m (home_at t place)) (sym word) (subst (Knows h w.1 place n) (sym home) knows) in
    let count : count_of t ≡ count_of s = get_or-set_other s.words place MAX_CALLERS n 0 apart_word in
    let was_open : count_of t < h.layout.callers → count_of s < h.layout.callers = λ is. subst (λ (m : ℕ). m < h.layout.callers) count is in
    record {
      words = subst (λ (m : ℕ). MAX_CALLERS < m) (sym (length-set s.words place n)) holds.words;
      homes = subst (λ (m : ℕ). m ≤ MAX_CALLERS) (sym (length-set s.homes place x)) holds.homes;
      in_order = still-in-order h s id place n v w x holds here low no_v no_w;
      each = λ is_open i u k at is within.
          ⊎_elim
          (λ same.
          let k_is = only k (subst (λ (z : View). IsAbout z.1 k) (sym same.1) is) in
          subst (λ (z : View). Knows h z.1 k (get_or t.words k 0) (home_at t k)) same.1
          (subst (λ (m : ℕ). Knows h w.1 m (get_or t.words m 0) (home_at t m)) (sym k_is) now))
          (λ other.
          let apart : k ≢ place = λ k_is. other.0 (holds.alone i id u v place other.1 here (subst (IsAbout u.1) k_is is) about) in
          let old = holds.each (was_open is_open) i u k other.1 is (subst (λ (m : ℕ). k < m) (length-set s.homes place x) within) in
          subst (λ (m : ℕ). Knows h u.1 k m (home_at t k)) (sym (get_or-set_other s.words place k n 0 apart))
          (subst (Knows h u.1 k (get_or s.words k 0)) (sym (get_or-set_other s.homes place k x none apart)) old))
          (at_set s.views id i w u at);
      alone = still-alone h s holds id v w here (λ k is. subst (IsAbout v.1) (sym (only k is)) about);
      filled = λ is_open k within two.
          dite (ℕ_discrete k place)
          (λ same.
          let it = given (sym word ∙ ap (λ (m : ℕ). get_or t.words m 0) (sym same) ∙ two) in
          (it.0, ap (home_at t) same ∙ home ∙ it.1, subst (λ (m : ℕ). IsGiven h m it.0) (sym same) it.2))
          (λ apart.
          let it =
          holds.filled (was_open is_open) k (subst (λ (m : ℕ). k < m) (length-set s.homes place x) within)
          (sym (get_or-set_other s.words place k n 0 apart) ∙ two) in
          (it.0, get_or-set_other s.homes place k x none apart ∙ it.1, it.2));
    }

-- what lies at home lies there
pub lies-at : {A : Type 0} (l : List (Maybe A)) (i : ℕ) (a : A) → get_or l i none ≡ some a → get_elem? l i ≡ some (some a)
lies-at [] i a is = absurd (some-ne-none a (sym is))
lies-at (x ∷ xs) zero a is = ap some is
lies-at (x ∷ xs) (suc i) a is = lies-at xs i a is

-- a ticket's seat takes its place
pub takes-place :
    (h : HeapFields) (slots id place : ℕ) → place < slots → place < h.layout.callers
    → Allows (PlacesHold h) slots id ((h, stand.Waits place), []) place (λ _. 1) (λ _ after. HasTaken place ((h, stand.Waits place), []) after)
takes-place h slots id place within has s holds count at small =
    let low : place < length s.homes = subst (λ (n : ℕ). place < n) (sym count) within in
    let v : View = (h, stand.Waits place) in
    let knows = holds.each (still-open h s holds id place v at refl (λ _ _ is. is) has) id v place at refl low in (
      (h, stand.Takes place),
      takes place None,
      lies-at s.homes place None knows.1,
      moved h s id place 1 v (h, stand.Takes place) none holds at low refl (λ k is. is) (λ _ _ is. is) (λ _ _ is. is) refl
          (λ two. absurd (omega (arith, two))),
      refl,
    )

laid_in : List (ℕ × Option Given) → Given → Given
laid_in [] d = d
laid_in ((place, None) ∷ rest) d = d
laid_in ((place, Some g) ∷ rest) d = g

-- and leaves a pass there
pub lays-pass :
    (h : HeapFields) (slots id place : ℕ) (g : Given) → place < slots → IsGiven h place g
    → Allows (PlacesHold h) slots id ((h, stand.Takes place), (place, Some g) ∷ []) place (λ _. 2)
    (λ _ after. HasLaid place ((h, stand.Takes place), (place, Some g) ∷ []) after)
unfolding laid_in
lays-pass h slots id place g within given s holds count at small =
    let low : place < length s.homes = subst (λ (n : ℕ). place < n) (sym count) within in (
      (h, stand.Laid g),
      gives,
      tt,
      moved h s id place 2 (h, stand.Takes place) (h, stand.Laid g) (some (Some g)) holds at low refl (λ k is. is ∙ given.2) (λ _ _ is. is)
          (λ _ _ is. is) (refl, refl, given) (λ two. (g, refl, given)),
      λ q is. ap (λ (l : List (ℕ × Option Given)). ((h, stand.Laid (laid_in l g)), [])) is,
    )

-- what is found in a list with one thing more
pub at_end : {A : Type 0} (xs : List A) (a b : A) (j : ℕ) → get_elem? (xs ++ a ∷ []) j ≡ some b → (get_elem? xs j ≡ some b) ⊎ ((j ≡ length xs) × (a ≡ b))
at_end [] a b zero e = inr (refl, some-injective a b e)
at_end [] a b (suc j) e = absurd (some-ne-none b (sym e))
at_end (x ∷ xs) a b zero e = inl e
at_end (x ∷ xs) a b (suc j) e = ⊎_elim (λ t. inl t) (λ t. inr (ap suc t.0, t.1)) (at_end xs a b j e)

-- the seat that hands out places, the one that has the next place then, or another one as it was
abbrev Whose : HeapFields → PlaceState → ℕ → ℕ → ℕ → View → Type 0
Whose m s id next i u =
    ((i ≡ length s.views) × ((m, stand.Waits next) ≡ u)) ⊎ ((i ≡ id) × ((m, stand.Deals (suc next)) ≡ u))
    ⊎ ((i ≢ id) × (get_elem? s.views i ≡ some u))

whose :
    (m : HeapFields) (s : PlaceState) (id next i : ℕ) (u : View)
    → get_elem? (set s.views id (m, stand.Deals (suc next)) ++ (m, stand.Waits next) ∷ []) i ≡ some u → Whose m s id next i u
whose m s id next i u at =
    let rest : View = (m, stand.Deals (suc next)) in
    let given : View = (m, stand.Waits next) in
    ⊎_elim (λ old. ⊎_elim (λ same. inr (inl same)) (λ other. inr (inr other)) (at_set s.views id i rest u old))
    (λ new. inl (new.0 ∙ length-set s.views id rest, new.1)) (at_end (set s.views id rest) given u i at)

-- a place is handed out
module _ (h m : HeapFields) (s : PlaceState) (id next : ℕ) (holds : PlacesHold h s) (here : get_elem? s.views id ≡ some (m, stand.Deals next)) where
  abbrev o : InOrder h s
  o = holds.in_order

  abbrev v : View
  v = (m, stand.Deals next)

  abbrev rest : View
  rest = (m, stand.Deals (suc next))

  abbrev given : View
  given = (m, stand.Waits next)

  number-in : (i number k : ℕ) (u : View) → IsNumber u.1 number k → Whose m s id next i u → get_elem? o.order number ≡ some k
  number-in i number k u is (inl new) = absurd (subst (λ (z : View). IsNumber z.1 number k) (sym new.1) is)
  number-in i number k u is (inr (inl same)) = absurd (subst (λ (z : View). IsNumber z.1 number k) (sym same.1) is)
  number-in i number k u is (inr (inr other)) = o.numbered i number k u other.1 is

  far : (j k : ℕ) (b : View) → next ≤ k → j ≢ id → get_elem? s.views j ≡ some b → IsAbout b.1 k → ⊥
  far j k b past apart at is = apart (sym (holds.alone id j v b k here at past is))

  at_next : (k : ℕ) (a : View) → given ≡ a → IsAbout a.1 k → k ≡ next
  at_next k a same is = subst (λ (z : View). IsAbout z.1 k) (sym same) is

  past_next : (k : ℕ) (a : View) → rest ≡ a → IsAbout a.1 k → suc next ≤ k
  past_next k a same is = subst (λ (z : View). IsAbout z.1 k) (sym same) is

  both :
      (i j : ℕ) (a b : View) (k : ℕ) → Whose m s id next i a → Whose m s id next j b → IsAbout a.1 k → IsAbout b.1 k → i ≡ j
  both i j a b k (inl new) (inl also) is_a is_b = new.0 ∙ sym also.0
  both i j a b k (inl new) (inr (inl same)) is_a is_b = absurd (omega (arith, at_next k a new.1 is_a, past_next k b same.1 is_b))
  both i j a b k (inl new) (inr (inr other)) is_a is_b = absurd (far j k b (omega (arith, at_next k a new.1 is_a)) other.0 other.1 is_b)
  both i j a b k (inr (inl same)) (inl new) is_a is_b = absurd (omega (arith, at_next k b new.1 is_b, past_next k a same.1 is_a))
  both i j a b k (inr (inl same)) (inr (inl also)) is_a is_b = same.0 ∙ sym also.0
  both i j a b k (inr (inl same)) (inr (inr other)) is_a is_b = absurd (far j k b (omega (arith, past_next k a same.1 is_a)) other.0 other.1 is_b)
  both i j a b k (inr (inr other)) (inl new) is_a is_b = absurd (far i k a (omega (arith, at_next k b new.1 is_b)) other.0 other.1 is_a)
  both i j a b k (inr (inr other)) (inr (inl same)) is_a is_b = absurd (far i k a (omega (arith, past_next k b same.1 is_b)) other.0 other.1 is_a)
  both i j a b k (inr (inr one)) (inr (inr other)) is_a is_b = holds.alone i j a b k one.1 other.1 is_a is_b

  pub deals-place : PlacesHold h (record { words = s.words; homes = s.homes; views = set s.views id (m, stand.Deals (suc next)) ++ (m, stand.Waits next) ∷ [] })
  deals-place = record {
    words = holds.words;
    homes = holds.homes;
    filled = holds.filled;
    in_order = record {
      order = o.order;
      count = o.count;
      counted = λ number k at.
          let it = o.counted number k at in
          let apart : it.1 ≢ id =
          λ same. absurd (subst (λ (z : View). IsNumber z.1 number k) (same-view s.views it.1 id it.2 v same it.3 here) it.4) in
          (it.0, it.1, it.2, at_longer (set s.views id rest) (given ∷ []) it.1 it.2 (set_else s.views id it.1 rest apart ∙ it.3), it.4);
      numbered = λ i number k u at is. number-in i number k u is (whose m s id next i u at);
    };
    each = λ is_open i u k at is within.
        let old = holds.each is_open id v k here in
        ⊎_elim
        (λ new.
        let k_is : k ≡ next = subst (λ (z : View). IsAbout z.1 k) (sym new.1) is in
        subst (λ (z : View). Knows h z.1 k (get_or s.words k 0) (home_at s k)) new.1 (old (omega (arith, k_is)) within))
        (λ others.
        ⊎_elim
        (λ same.
        let past : suc next ≤ k = subst (λ (z : View). IsAbout z.1 k) (sym same.1) is in
        subst (λ (z : View). Knows h z.1 k (get_or s.words k 0) (home_at s k)) same.1 (old (omega (arith, past)) within))
        (λ other. holds.each is_open i u k other.1 is within) others) (whose m s id next i u at);
    alone = λ i j a b k at_i at_j is_a is_b. both i j a b k (whose m s id next i a at_i) (whose m s id next j b at_j) is_a is_b;
  }
