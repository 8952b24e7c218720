-- The events of an operation: how many blocks they give and free, and which needs they refuse.
use Rattle.std.proofs.Common.{ℕ, Bool, false, cond, count_by, ◌≡◌, ◌+◌, ◌≤◌, List, [], ◌∷◌, ◌++◌, refl, sym, ap, subst, arith}
use Rattle.std.specs.List.{AllByRecursion}
use Rattle.std.proofs.lemmas.List.Sums.{sum_by-cons, sum_by-append}
use Rattle.heap_geometry.specs.declared.limits.TheConstants.{SMALL_MOST}
use Rattle.pool_model.specs.declared.event.Event.{Event}
use Rattle.pool_model.specs.declared.event.Event.TheVariants.{Alloc, Refuse, Write, TakeNone}
use Rattle.pool_model.specs.Counts.{is_alloc, is_free}
use Rattle.lane_outcomes.specs.Lane.{writing}
use Rattle.lane_outcomes.proofs.SlotRows.{IsMild}
use Rattle.lane_outcomes.proofs.WalkLemmas.{IsGiven, all-looks, all-map, all-writing}

-- what holds of each write and of each take in vain holds of events that leave all blocks where they are
mild-one : (P : Event → Type 0) (caller : ℕ) (event : Event) → ((by place i n : ℕ) → P (Write by place i n)) → ((by shelf : ℕ) → P (TakeNone by shelf)) → IsMild caller event → P event
mild-one P caller (Write by place i v) writes takes mild = writes by place i v
mild-one P caller (TakeNone by shelf) writes takes mild = takes by shelf
mild-one P caller event writes takes mild = absurd mild

pub all-mild :
    (P : Event → Type 0) (caller : ℕ) (events : List Event) → ((by place i n : ℕ) → P (Write by place i n)) → ((by shelf : ℕ) → P (TakeNone by shelf))
    → AllByRecursion (IsMild caller) events → AllByRecursion P events
all-mild P caller events writes takes milds = all-map (IsMild caller) P events (λ event mild. mild-one P caller event writes takes mild) milds

-- events that give so many blocks and free so many
pub record Counts (events : List Event) (given freed : ℕ) : Type 0 where
  pub gives : count_by is_alloc events ≡ given
  pub frees : count_by is_free events ≡ freed

abbrev pub IsQuiet : Event → Type 0
IsQuiet event = (is_alloc event ≡ false) × (is_free event ≡ false)

count-none : (test : Event → Bool) (events : List Event) → AllByRecursion (λ event. test event ≡ false) events → count_by test events ≡ 0
count-none test [] none = refl
count-none test (event ∷ events) none =
    let here : cond {A = ℕ} (test event) 1 0 ≡ 0 = ap (λ b. cond {A = ℕ} b 1 0) none.0 in
    omega (arith, sum_by-cons (λ e. cond (test e) 1 0) event events, count-none test events none.1)

pub quiet-counts : (events : List Event) → AllByRecursion IsQuiet events → Counts events 0 0
quiet-counts events quiet =
    record {
      gives = count-none is_alloc events (all-map IsQuiet (λ event. is_alloc event ≡ false) events (λ event q. q.0) quiet);
      frees = count-none is_free events (all-map IsQuiet (λ event. is_free event ≡ false) events (λ event q. q.1) quiet);
    }

pub counts-append :
    (first last : List Event) (given freed given_too freed_too : ℕ) → Counts first given freed → Counts last given_too freed_too
    → Counts (first ++ last) (given + given_too) (freed + freed_too)
counts-append first last given freed given_too freed_too one two =
    record {
      gives = omega (arith, sum_by-append (λ e. cond (is_alloc e) 1 0) first last, one.gives, two.gives);
      frees = omega (arith, sum_by-append (λ e. cond (is_free e) 1 0) first last, one.frees, two.frees);
    }

pub quiet-writing : (caller place words : ℕ) (value : ℕ → ℕ) → AllByRecursion IsQuiet (writing caller place words value)
quiet-writing caller place words value = all-writing IsQuiet caller place words value (λ i n. (refl, refl))

pub given-counts :
    (caller need place words : ℕ) (value : ℕ → ℕ) (calls piece : List Event) → IsGiven caller need place calls
    → piece ≡ calls ++ writing caller place words value → Counts piece 1 0
given-counts caller need place words value calls piece given is =
    let looked = quiet-counts given.looked (all-looks IsQuiet caller given.looked (λ class. (refl, refl)) given.look) in
    let one : Counts (Alloc caller need place ∷ []) 1 0 = record { gives = refl; frees = refl } in
    let filled = quiet-counts (writing caller place words value) (quiet-writing caller place words value) in
    let called : Counts calls 1 0 =
    subst (λ xs. Counts xs 1 0) (sym given.whole) (counts-append given.looked (Alloc caller need place ∷ []) 0 0 1 0 looked one) in
    subst (λ xs. Counts xs 1 0) (sym is) (counts-append calls (writing caller place words value) 1 0 0 0 called filled)

-- an event that, where it refuses, refuses a small need
abbrev pub IsTame : Event → Type 0
IsTame (Refuse by need) = need ≤ SMALL_MOST
IsTame event = Unit {0}
