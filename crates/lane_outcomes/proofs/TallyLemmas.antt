-- Tallies of the events of a history: of all its events, and of one caller's.
use Rattle.std.proofs.Common.{ℕ, zero, suc, eqb, cond, ◌≡◌, ◌+◌, ◌<◌, ◌≤◌, List, [], ◌∷◌, ◌++◌, refl, ◌∙◌, ap, inl, inr, arith, eq-eqb, ne_eqb}
use Rattle.std.specs.List.{AllByRecursion}
use Rattle.std.proofs.lemmas.Bool.{cases_eq}
use Rattle.pool_model.specs.declared.event.Event.{Event}
use Rattle.pool_model.specs.Histories.{caller_of, own}
use Rattle.pool_model.specs.Pool.{Pool, pool_after, pool_from}
use Rattle.pool_model.proofs.OwnerLemmas.{own-none}

-- what events add up to, each with a weight in the pool that it meets
abbrev pub tally : (Pool → Event → ℕ) → Pool → List Event → ℕ
tally weight pool [] = 0
tally weight pool (event ∷ events) = weight pool event + tally weight (pool_after pool event) events

-- the weight of one caller's events, the others having none
abbrev pub of_caller : ℕ → (Pool → Event → ℕ) → Pool → Event → ℕ
of_caller caller weight pool event = cond (eqb (caller_of event) caller) (weight pool event) 0

pub tally-append :
    (weight : Pool → Event → ℕ) (pool : Pool) (events more : List Event)
    → tally weight pool (events ++ more) ≡ tally weight pool events + tally weight (pool_from pool events) more
tally-append weight pool [] more = omega arith
tally-append weight pool (event ∷ events) more = omega (arith, tally-append weight (pool_after pool event) events more)

-- the events of others add nothing to a caller's
pub tally-none :
    (weight : Pool → Event → ℕ) (caller : ℕ) (pool : Pool) (events : List Event) → own caller events ≡ []
    → tally (of_caller caller weight) pool events ≡ 0
tally-none weight caller pool [] none = refl
tally-none weight caller pool (event ∷ events) none =
    let parts = own-none caller event events none in
    rw (ne_eqb (caller_of event) caller parts.0) (omega (arith, tally-none weight caller (pool_after pool event) events parts.1))

-- the tally of one event of the caller is its weight
pub tally-own :
    (weight : Pool → Event → ℕ) (caller : ℕ) (pool : Pool) (event : Event) → caller_of event ≡ caller
    → tally (of_caller caller weight) pool (event ∷ []) ≡ weight pool event
tally-own weight caller pool event hers = rw (eq-eqb (caller_of event) caller hers) (omega arith)

-- a sum over so many numbers from one on
abbrev pub sum_from : (ℕ → ℕ) → ℕ → ℕ → ℕ
sum_from f first zero = 0
sum_from f first (suc count) = f first + sum_from f (suc first) count

sum_from-none : (first count : ℕ) → sum_from (λ k. 0) first count ≡ 0
sum_from-none first zero = refl
sum_from-none first (suc count) = omega (arith, sum_from-none (suc first) count)

sum_from-add : (f h : ℕ → ℕ) (first count : ℕ) → sum_from (λ k. f k + h k) first count ≡ sum_from f first count + sum_from h first count
sum_from-add f h first zero = refl
sum_from-add f h first (suc count) = omega (arith, sum_from-add f h (suc first) count)

-- a weight that one number has counts once, where that number is among them
sum_from-before : (caller weight first count : ℕ) → caller < first → sum_from (λ k. cond (eqb caller k) weight 0) first count ≡ 0
sum_from-before caller weight first zero before = refl
sum_from-before caller weight first (suc count) before =
    rw (ne_eqb caller first (λ e. absurd (omega arith))) (omega (arith, sum_from-before caller weight (suc first) count (omega arith)))

sum_from-pick :
    (caller weight first count : ℕ) → first ≤ caller → caller < first + count → sum_from (λ k. cond (eqb caller k) weight 0) first count ≡ weight
sum_from-pick caller weight first zero from below = absurd (omega arith)
sum_from-pick caller weight first (suc count) from below =
    elim (cases_eq caller first) [
      | inl same ↦ rw (eq-eqb caller first same) (omega (arith, sum_from-before caller weight (suc first) count (omega arith)))
      | inr other ↦ rw (ne_eqb caller first other) (omega (arith, sum_from-pick caller weight (suc first) count (omega (arith, other)) (omega arith)))
    ]

-- the tallies of all callers together are the tally of all events
pub partition :
    (weight : Pool → Event → ℕ) (callers : ℕ) (pool : Pool) (events : List Event) → AllByRecursion (λ event. caller_of event < callers) events
    → sum_from (λ caller. tally (of_caller caller weight) pool events) 0 callers ≡ tally weight pool events
partition weight callers pool [] all = sum_from-none 0 callers
partition weight callers pool (event ∷ events) all =
    sum_from-add (λ caller. cond (eqb (caller_of event) caller) (weight pool event) 0)
    (λ caller. tally (of_caller caller weight) (pool_after pool event) events) 0 callers
    ∙ ap (λ n. n + sum_from (λ caller. tally (of_caller caller weight) (pool_after pool event) events) 0 callers)
    (sum_from-pick (caller_of event) (weight pool event) 0 callers (omega arith) (omega (arith, all.0)))
    ∙ ap (λ n. weight pool event + n) (partition weight callers (pool_after pool event) events all.1)
