-- Lanes by their numbers, sums over them, and a caller's events among those of a history.
use Rattle.std.proofs.Common.{ℕ, zero, suc, Bool, eqb, cond, get_or, sum_by, count_by, ◌≡◌, ◌+◌, ◌<◌, ◌≤◌, List, [], ◌∷◌, ◌++◌, length, refl, sym, ◌∙◌, ap, subst, inl, inr, arith, add-zero, append-nil}
use Rattle.std.specs.List.{AllByRecursion}
use Rattle.std.proofs.lemmas.Bool.{cases_Bool}
use Rattle.std.proofs.lemmas.List.Sums.{sum_by-cons, sum_by-append}
use Rattle.pool_model.specs.declared.event.Event.{Event}
use Rattle.pool_model.specs.Histories.{caller_of, own, Begins}
use Rattle.pool_model.specs.Pool.{Pool, pool_after}
use Rattle.pool_model.proofs.HistoryLemmas.{own-append}
use Rattle.lane_outcomes.proofs.FollowLemmas.{cut-at}
use Rattle.lane_outcomes.proofs.TallyLemmas.{tally, of_caller, sum_from, partition}

-- a sum over lane numbers is at most one over the lanes, where each term is
pub sum-lanes :
    {X : Type 0} (x : ℕ → ℕ) (f : X → ℕ) (d : X) (first : ℕ) (xs : List X) → ((k : ℕ) → k < length xs → x (first + k) ≤ f (get_or xs k d))
    → sum_from x first (length xs) ≤ sum_by f xs
sum-lanes x f d first [] each = omega arith
sum-lanes x f d first (lane ∷ xs) each =
    let here : x (first + 0) ≤ f lane = each 0 (omega arith) in
    let at_first : x (first + 0) ≡ x first = ap x (add-zero first) in
    let rest : sum_from x (suc first) (length xs) ≤ sum_by f xs =
    sum-lanes x f d (suc first) xs
    (λ k below.
    let next : first + suc k ≡ suc first + k = omega arith in
    subst (λ n. x n ≤ f (get_or xs k d)) next (each (suc k) (omega arith))) in
    omega (arith, sum_by-cons f lane xs)

-- a sum over lane numbers leaves room, among the lanes, for one that has no share in it
pub sum-lanes_but :
    {X : Type 0} (x : ℕ → ℕ) (f : X → ℕ) (d : X) (first : ℕ) (xs : List X) → ((k : ℕ) → k < length xs → x (first + k) ≤ f (get_or xs k d))
    → (s : ℕ) → s < length xs → x (first + s) ≡ 0 → sum_from x first (length xs) + f (get_or xs s d) ≤ sum_by f xs
sum-lanes_but x f d first [] each s below none = absurd (omega arith)
sum-lanes_but x f d first (lane ∷ xs) each zero below none =
    let at_first : x (first + 0) ≡ x first = ap x (add-zero first) in
    let rest : sum_from x (suc first) (length xs) ≤ sum_by f xs =
    sum-lanes x f d (suc first) xs
    (λ k within.
    let next : first + suc k ≡ suc first + k = omega arith in
    subst (λ n. x n ≤ f (get_or xs k d)) next (each (suc k) (omega arith))) in
    omega (arith, sum_by-cons f lane xs)
sum-lanes_but x f d first (lane ∷ xs) each (suc s) below none =
    let here : x (first + 0) ≤ f lane = each 0 (omega arith) in
    let at_first : x (first + 0) ≡ x first = ap x (add-zero first) in
    let there : first + suc s ≡ suc first + s = omega arith in
    let rest : sum_from x (suc first) (length xs) + f (get_or xs s d) ≤ sum_by f xs =
    sum-lanes_but x f d (suc first) xs
    (λ k within.
    let next : first + suc k ≡ suc first + k = omega arith in
    subst (λ n. x n ≤ f (get_or xs k d)) next (each (suc k) (omega arith)))
    s (omega arith) (subst (λ n. x n ≡ 0) there none) in
    omega (arith, sum_by-cons f lane xs)

-- sums with the same terms, and sums with terms that are added
sum_from-same : (x y : ℕ → ℕ) (first count : ℕ) → ((k : ℕ) → x k ≡ y k) → sum_from x first count ≡ sum_from y first count
sum_from-same x y first zero each = refl
sum_from-same x y first (suc count) each = omega (arith, each first, sum_from-same x y (suc first) count each)

pub sum_from-both :
    (x y z : ℕ → ℕ) (first count : ℕ) → ((k : ℕ) → first ≤ k → k < first + count → x k ≤ y k + z k)
    → sum_from x first count ≤ sum_from y first count + sum_from z first count
sum_from-both x y z first zero each = omega arith
sum_from-both x y z first (suc count) each =
    omega (
      arith,
      each first (omega arith) (omega arith),
      sum_from-both x y z (suc first) count (λ k from below. each k (omega arith) (omega arith)),
    )

-- the events that pass a test, counted caller by caller
abbrev weight_of : (Event → Bool) → Pool → Event → ℕ
weight_of test pool event = cond (test event) 1 0

all-count : (test : Event → Bool) (pool : Pool) (events : List Event) → tally (weight_of test) pool events ≡ count_by test events
all-count test pool [] = refl
all-count test pool (event ∷ events) =
    omega (arith, sum_by-cons (λ e. cond (test e) 1 0) event events, all-count test (pool_after pool event) events)

own-count :
    (test : Event → Bool) (caller : ℕ) (pool : Pool) (events : List Event)
    → tally (of_caller caller (weight_of test)) pool events ≡ count_by test (own caller events)
own-count test caller pool [] = refl
own-count test caller pool (event ∷ events) =
    elim (cases_Bool (eqb (caller_of event) caller)) [
      | inl hers ↦
          rw hers
          (omega (arith, sum_by-cons (λ e. cond (test e) 1 0) event (own caller events), own-count test caller (pool_after pool event) events))
      | inr other ↦ rw other (omega (arith, own-count test caller (pool_after pool event) events))
    ]

pub by-caller :
    (test : Event → Bool) (callers : ℕ) (events : List Event) → AllByRecursion (λ event. caller_of event < callers) events
    → sum_from (λ caller. count_by test (own caller events)) 0 callers ≡ count_by test events
by-caller test callers events all =
    sum_from-same _ _ 0 callers (λ caller. sym (own-count test caller [] events))
    ∙ partition (weight_of test) callers [] events all
    ∙ all-count test [] events

-- a beginning of a list of events has no more that pass a test than the list
pub count-begins : (test : Event → Bool) (part whole : List Event) → Begins part whole → count_by test part ≤ count_by test whole
count-begins test part whole (rest, is) =
    let parts : count_by test (part ++ rest) ≡ count_by test part + count_by test rest = sum_by-append (λ e. cond (test e) 1 0) part rest in
    let same : count_by test whole ≡ count_by test (part ++ rest) = ap (count_by test) is in
    omega arith

-- what holds of each event of a history holds of those of a beginning
pub all-begins :
    (P : Event → Type 0) (part rest : List Event) → AllByRecursion P (part ++ rest) → AllByRecursion P part
all-begins P [] rest all = tt
all-begins P (event ∷ part) rest all = (all.0, all-begins P part rest all.1)

pub all-ends :
    (P : Event → Type 0) (part rest : List Event) → AllByRecursion P (part ++ rest) → AllByRecursion P rest
all-ends P [] rest all = all
all-ends P (event ∷ part) rest all = all-ends P part rest all.1

-- what holds of each event of a list holds of a caller's own ones
pub all-own : (P : Event → Type 0) (caller : ℕ) (events : List Event) → AllByRecursion P events → AllByRecursion P (own caller events)
all-own P caller [] all = tt
all-own P caller (event ∷ events) all =
    elim (cases_Bool (eqb (caller_of event) caller)) [
      | inl hers ↦ rw hers (all.0, all-own P caller events all.1)
      | inr other ↦ rw other (all-own P caller events all.1)
    ]

-- a caller's events at a beginning are a beginning of its events
pub own-begins : (caller : ℕ) (before history : List Event) → Begins before history → Begins (own caller before) (own caller history)
own-begins caller before history (rest, is) = (own caller rest, ap (own caller) is ∙ own-append caller before rest)

-- a list of events is a caller's own at some moment of a history
abbrev pub HasMoment : ℕ → List Event → List Event → Type 0
HasMoment caller history part = (before : List Event) × Begins before history × (own caller before ≡ part)

pub moment-of : (caller : ℕ) (history part rest : List Event) → own caller history ≡ part ++ rest → HasMoment caller history part
moment-of caller history part [] is = (history, ([], sym (append-nil history)), is ∙ append-nil part)
moment-of caller history part (event ∷ rest) is =
    let cut = cut-at caller part event rest history is in (cut.front, (event ∷ cut.back, cut.whole), cut.own_front)
