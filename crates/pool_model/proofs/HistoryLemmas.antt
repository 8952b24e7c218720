-- Histories that grow at their end.
use Rattle.std.proofs.Common.{ℕ, ◌≡◌, ◌⊎◌, eqb, List, [], ◌∷◌, ◌++◌, refl, sym, ◌∙◌, ap, inl, inr, append_assoc, append-nil, subst, subst₂}
use Rattle.std.proofs.lemmas.List.{same_from_push}
use Rattle.std.proofs.lemmas.Bool.{cases_Bool}
use Rattle.heap_geometry.specs.declared.geometry.Geometry.{Geometry}
use Rattle.pool_model.specs.declared.event.Event.{Event}
use Rattle.pool_model.specs.Histories.{caller_of, own, EachAfter}
use Rattle.pool_model.specs.Pool.{Pool, pool_after, pool_from, pool_of}
use Rattle.pool_model.specs.Legal.{IsLegal, IsLegalWithoutCounts, IsLegalEvent, IsLegalEventWithoutCounts}

pub pool_from-append : (pool : Pool) (events more : List Event) → pool_from pool (events ++ more) ≡ pool_from (pool_from pool events) more
pool_from-append pool [] more = refl
pool_from-append pool (event ∷ events) more = pool_from-append (pool_after pool event) events more

pub pool_of-push : (history : List Event) (event : Event) → pool_of (history ++ event ∷ []) ≡ pool_after (pool_of history) event
pool_of-push history event = pool_from-append [] history (event ∷ [])

-- a history with one event more, and then others, is the history with that event and the others
pub push-append : (history rest : List Event) (event : Event) → (history ++ event ∷ []) ++ rest ≡ history ++ event ∷ rest
push-append history rest event = append_assoc history (event ∷ []) rest

-- a list is empty, or has a last event
pub last_cases : (events : List Event) → (events ≡ []) ⊎ ((before : List Event) × (event : Event) × (events ≡ before ++ event ∷ []))
last_cases [] = inl refl
last_cases (first ∷ events) =
    inr (elim (last_cases events) [
      | inl none ↦ ([], first, ap (λ (xs : List Event). first ∷ xs) none)
      | inr some ↦ (first ∷ some.0, some.1, ap (λ (xs : List Event). first ∷ xs) some.2)
    ])

pub EachAfter-nil : (R : List Event → Event → Type 0) → EachAfter R []
EachAfter-nil R [] rest event e = absurd (cc)
EachAfter-nil R (first ∷ before) rest event e = absurd (cc)

pub EachAfter-cut : (R : List Event → Event → Type 0) (history rest : List Event) → EachAfter R (history ++ rest) → EachAfter R history
EachAfter-cut R history rest each before after event e =
    each before (after ++ rest) event (ap (λ (xs : List Event). xs ++ rest) e ∙ append_assoc before (event ∷ after) rest)

pub EachAfter-last : (R : List Event → Event → Type 0) (history : List Event) (event : Event) → EachAfter R (history ++ event ∷ []) → R history event
EachAfter-last R history event each = each history [] event refl

pub EachAfter-push :
    (R : List Event → Event → Type 0) (history : List Event) (event : Event) → EachAfter R history → R history event
    → EachAfter R (history ++ event ∷ [])
EachAfter-push R history event each last before rest next e =
    elim (last_cases rest) [
      | inl none ↦
          let whole : history ++ event ∷ [] ≡ before ++ next ∷ [] = e ∙ ap (λ (xs : List Event). before ++ next ∷ xs) none in
          let same = same_from_push history before event next whole in
          subst₂ R same.0 same.1 last
      | inr some ↦
          let whole : history ++ event ∷ [] ≡ (before ++ next ∷ some.0) ++ some.1 ∷ [] =
          e ∙ ap (λ (xs : List Event). before ++ next ∷ xs) some.2 ∙ sym (append_assoc before (next ∷ some.0) (some.1 ∷ [])) in
          each before some.0 next (same_from_push history (before ++ next ∷ some.0) event some.1 whole).0
    ]

pub EachAfter-map :
    (R S : List Event → Event → Type 0) (history : List Event) → ((before : List Event) (event : Event) → R before event → S before event)
    → EachAfter R history → EachAfter S history
EachAfter-map R S history f each before rest event e = f before event (each before rest event e)

-- a property that each legal event keeps holds from a history on
pub kept_on :
    (R : List Event → Event → Type 0) (P : List Event → Type 0) (history rest : List Event)
    → ((before : List Event) (event : Event) → R before event → P before → P (before ++ event ∷ [])) → EachAfter R (history ++ rest)
    → P history → P (history ++ rest)
kept_on R P history [] keep each first = subst P (sym (append-nil history)) first
kept_on R P history (event ∷ rest) keep each first =
    let whole : (history ++ event ∷ []) ++ rest ≡ history ++ event ∷ rest = push-append history rest event in
    subst P whole
    (kept_on R P (history ++ event ∷ []) rest keep (subst (EachAfter R) (sym whole) each)
    (keep history event (each history rest event refl) first))

-- a property of the empty history that each legal event keeps holds of a legal history
pub kept :
    (R : List Event → Event → Type 0) (P : List Event → Type 0) (history : List Event)
    → ((before : List Event) (event : Event) → R before event → P before → P (before ++ event ∷ [])) → EachAfter R history → P []
    → P history
kept R P history keep each first = kept_on R P [] history keep each first

pub legal-weaker : (g : Geometry) (history : List Event) → IsLegal g history → IsLegalWithoutCounts g history
legal-weaker g history legal =
    EachAfter-map (IsLegalEvent g) (IsLegalEventWithoutCounts g) history (λ before event h. h.0) legal

pub legal-push :
    (g : Geometry) (history : List Event) (event : Event) → IsLegal g history → IsLegalEvent g history event
    → IsLegal g (history ++ event ∷ [])
legal-push g history event legal last = EachAfter-push (IsLegalEvent g) history event legal last

-- the events of a caller in two lists joined
pub own-append : (caller : ℕ) (events more : List Event) → own caller (events ++ more) ≡ own caller events ++ own caller more
own-append caller [] more = refl
own-append caller (event ∷ events) more =
    elim (cases_Bool (eqb (caller_of event) caller)) [
      | inl hers ↦ rw hers (ap (λ (xs : List Event). event ∷ xs) (own-append caller events more))
      | inr other ↦ rw other (own-append caller events more)
    ]
