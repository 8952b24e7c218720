-- What a caller owns where its own events leave pools as they are, and where they end with one that does not.
use Rattle.std.proofs.Common.{ℕ, eqb, zero, suc, ◌≡◌, ◌++◌, List, [], ◌∷◌, refl, sym, ◌∙◌, ap, subst, inl, inr, eq-eqb, append_assoc, append-nil}
use Rattle.std.proofs.lemmas.Bool.{cases_Bool, eqb-false}
use Rattle.heap_geometry.specs.declared.geometry.Geometry.{Geometry}
use Rattle.pool_model.specs.declared.event.Event.{Event}
use Rattle.pool_model.specs.Calls.{looks}
use Rattle.pool_model.specs.Histories.{caller_of, own}
use Rattle.pool_model.specs.Owned.{if_of}
use Rattle.pool_model.specs.Pool.{Pool, block_at, pool_after, pool_of}
use Rattle.pool_model.specs.Legal.{IsAllowed, IsLegalWithoutCounts, IsLegalEventWithoutCounts}
use Rattle.pool_model.proofs.HistoryLemmas.{pool_of-push, push-append, EachAfter-cut, own-append}
use Rattle.pool_model.proofs.OwnedLemmas.{others-event}
use Rattle.pool_model.proofs.WellFormedLemmas.{sound-of, sound-differ}
use Rattle.live_heap.specs.Contents.{owned_after}
use Rattle.step_machine.proofs.ApartLemmas.{others-same, own-split}
use Rattle.live_heap.proofs.LawsKept.{same-rest}

-- the event leaves every pool as it is; all of the events do
abbrev pub IsQuiet : Event → Type 0
IsQuiet event = (pool : Pool) → pool_after pool event ≡ pool

abbrev pub AllQuiet : List Event → Type 0
AllQuiet [] = Unit {0}
AllQuiet (event ∷ events) = IsQuiet event × AllQuiet events

pub quiet-append : (xs ys : List Event) → AllQuiet xs → AllQuiet ys → AllQuiet (xs ++ ys)
quiet-append [] ys qx qy = qy
quiet-append (x ∷ xs) ys qx qy = (qx.0, quiet-append xs ys qx.1 qy)

pub looks-quiet : (caller class count : ℕ) → AllQuiet (looks caller class count)
looks-quiet caller class zero = tt
looks-quiet caller class (suc count) = ((λ pool. refl), looks-quiet caller class count)

-- where a caller's own events are quiet, what it owns stays
pub quiet-all :
    (g : Geometry) (history rest : List Event) (caller place : ℕ) → IsLegalWithoutCounts g (history ++ rest) → AllQuiet (own caller rest)
    → owned_after (history ++ rest) caller place ≡ owned_after history caller place
quiet-all g history [] caller place legal quiet = ap (λ (h : List Event). owned_after h caller place) (append-nil history)
quiet-all g history (event ∷ rest) caller place legal quiet =
    let whole : (history ++ event ∷ []) ++ rest ≡ history ++ event ∷ rest = push-append history rest event in
    let legal_on : IsLegalWithoutCounts g ((history ++ event ∷ []) ++ rest) = subst (IsLegalWithoutCounts g) (sym whole) legal in
    elim (cases_Bool (eqb (caller_of event) caller)) [
      | inl hers ↦
          let q : IsQuiet event × AllQuiet (own caller rest) = rw hers at quiet in
          let one : owned_after (history ++ event ∷ []) caller place ≡ owned_after history caller place =
          ap (λ (pool : Pool). if_of caller (block_at place pool)) (pool_of-push history event ∙ q.0 (pool_of history)) in
          subst (λ (h : List Event). owned_after h caller place ≡ owned_after history caller place) whole
          (quiet-all g (history ++ event ∷ []) rest caller place legal_on q.1 ∙ one)
      | inr other ↦
          let q : AllQuiet (own caller rest) = rw other at quiet in
          let sound = sound-of g history (EachAfter-cut (IsLegalEventWithoutCounts g) history (event ∷ rest) legal) in
          let one : owned_after (history ++ event ∷ []) caller place ≡ owned_after history caller place =
          rw (pool_of-push history event)
          (others-event g history event caller place (sound-differ g (pool_of history) sound) (legal history rest event refl).1
          (eqb-false (caller_of event) caller other)) in
          subst (λ (h : List Event). owned_after h caller place ≡ owned_after history caller place) whole
          (quiet-all g (history ++ event ∷ []) rest caller place legal_on q ∙ one)
    ]

-- where a caller's events end with one, the events are cut there
pub record IsCut (caller : ℕ) (front : List Event) (event : Event) (events : List Event) : Type 0 where
  pub before : List Event
  pub after : List Event
  pub whole : events ≡ before ++ event ∷ after
  pub own_before : own caller before ≡ front
  pub own_after : own caller after ≡ []

pub cut :
    (caller : ℕ) (events front : List Event) (event : Event) → caller_of event ≡ caller → own caller events ≡ front ++ event ∷ []
    → IsCut caller front event events
cut caller events front event hers is =
    let t = own-split caller events front event is in
    let here : own caller (event ∷ t.1) ≡ event ∷ own caller t.1 = rw (eq-eqb (caller_of event) caller hers) refl in
    let parts : own caller events ≡ front ++ event ∷ own caller t.1 =
    ap (own caller) t.2 ∙ own-append caller t.0 (event ∷ t.1) ∙ ap (λ (l : List Event). l ++ own caller (event ∷ t.1)) t.3
    ∙ ap (λ (l : List Event). front ++ l) here in
    record {
      before = t.0;
      after = t.1;
      whole = t.2;
      own_before = t.3;
      own_after = others-same event event (own caller t.1) [] (same-rest front (event ∷ own caller t.1) (event ∷ []) (sym parts ∙ is));
    }

-- what a caller owns changes as this event changes it, at some moment in between
pub record IsChange (g : Geometry) (caller : ℕ) (before after : List Event) (event : Event) : Type 0 where
  pub moment : List Event
  pub more : List Event
  pub whole : after ≡ moment ++ event ∷ more
  pub not_own : own caller more ≡ []
  pub legal : IsLegalWithoutCounts g moment
  pub allowed : IsAllowed g moment event
  pub was : (place : ℕ) → owned_after moment caller place ≡ owned_after before caller place
  pub is : (place : ℕ) → owned_after after caller place ≡ if_of caller (block_at place (pool_after (pool_of moment) event))

-- what a caller owns changes as an event does, where its own events are quiet ones and then this one
pub changes :
    (g : Geometry) (caller : ℕ) (before rest after front : List Event) (event : Event) → IsLegalWithoutCounts g after → after ≡ before ++ rest
    → caller_of event ≡ caller → own caller rest ≡ front ++ event ∷ [] → AllQuiet front → IsChange g caller before after event
changes g caller before rest after front event legal is hers own_is quiet =
    let c = cut caller rest front event hers own_is in
    let whole : (before ++ c.before) ++ event ∷ c.after ≡ after =
    append_assoc before c.before (event ∷ c.after) ∙ ap (λ (l : List Event). before ++ l) (sym c.whole) ∙ sym is in
    let all : IsLegalWithoutCounts g ((before ++ c.before) ++ event ∷ c.after) = subst (IsLegalWithoutCounts g) (sym whole) legal in
    let until : IsLegalWithoutCounts g (before ++ c.before) = EachAfter-cut (IsLegalEventWithoutCounts g) (before ++ c.before) (event ∷ c.after) all in
    let on : ((before ++ c.before) ++ event ∷ []) ++ c.after ≡ (before ++ c.before) ++ event ∷ c.after = push-append (before ++ c.before) c.after event in
    record {
      moment = before ++ c.before;
      more = c.after;
      whole = sym whole;
      not_own = c.own_after;
      legal = until;
      allowed = (all (before ++ c.before) c.after event refl).1;
      was = λ place. quiet-all g before c.before caller place until (subst AllQuiet (sym c.own_before) quiet);
      is = λ place.
          ap (λ (h : List Event). owned_after h caller place) (sym whole ∙ sym on)
          ∙ quiet-all g ((before ++ c.before) ++ event ∷ []) c.after caller place (subst (IsLegalWithoutCounts g) (sym on) all)
          (subst AllQuiet (sym c.own_after) tt)
          ∙ ap (λ (pool : Pool). if_of caller (block_at place pool)) (pool_of-push (before ++ c.before) event);
    }
