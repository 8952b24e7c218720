-- No lane of a roomy trace runs out of turns.
use Rattle.std.proofs.Common.{suc, if◌then◌else◌, ℕ, Bool, true, false, eqb, cond, get_or, sum_by, count_by, ◌≡◌, ◌+◌, ◌<◌, ◌≤◌, List, [], ◌∷◌, length, refl, ◌∙◌, ap, subst, inl, inr, arith, zero-add}
use Rattle.std.specs.List.{AllByRecursion}
use Rattle.std.proofs.lemmas.Bool.{cases_Bool}
use Rattle.std.proofs.lemmas.List.Sums.{sum_by-cons, sum_by-le-sum_by}
use Rattle.heap_geometry.specs.Need.{need_of}
use Rattle.pool_model.specs.declared.event.Event.{Event}
use Rattle.pool_model.specs.declared.event.Event.TheVariants.{Alloc}
use Rattle.pool_model.specs.Counts.{is_alloc}
use Rattle.pool_model.specs.Histories.{caller_of, own, Begins}
use Rattle.trace_text.specs.declared.trace.Op.{Op}
use Rattle.lane_outcomes.specs.Deeds.{Deed, deed_of, given_by}
use Rattle.lane_outcomes.specs.Deeds as deed
use Rattle.lane_outcomes.specs.declared.outcome.Outcome.{Outcome}
use Rattle.lane_outcomes.specs.declared.outcome.Outcome.TheVariants as outcome
use Rattle.lane_outcomes.specs.Lane.{answered_with, Position, is_small, answered_after, spent_after}
use Rattle.lane_outcomes.specs.LaneCounts.{words_given, count_with, as_one}
use Rattle.lane_outcomes.specs.Rows.{Setting, IsSpent, gives_another_small}
use Rattle.lane_outcomes.specs.Cached.{CachedPosition, CachedRow}
use Rattle.lane_outcomes.proofs.TallyLemmas.{sum_from}
use Rattle.lane_outcomes.proofs.SlotRows.{row-spent}
use Rattle.roomy_traces.specs.Roomy.{may_allocate}
use Rattle.roomy_traces.proofs.LaneLemmas.{sum-lanes_but, by-caller}
use Rattle.roomy_traces.proofs.SerialRows.{allocates, allocates-asked, asks}

-- an operation is given no more blocks than it asks for
given-by : (done : Deed) → count_with as_one (given_by done) ≤ allocates done
given-by (deed.gives need v words place) = omega arith
given-by (deed.replaces need words place) = omega arith
given-by done = omega arith

pub given-asked : (operation : Op) (result : Outcome) → count_with as_one (words_given operation result) ≤ asks operation
given-asked operation result = omega (arith, given-by (deed_of operation result), allocates-asked operation result)

-- an outcome that isn't want of a turn
abbrev pub IsUnspent : Outcome → Type 0
IsUnspent outcome.Spent = ⊥
IsUnspent result = Unit {0}

pub spent-stays : (spent : Bool) (result : Outcome) → IsUnspent result → spent_after spent result ≡ spent
spent-stays spent outcome.Spent unspent = absurd unspent
spent-stays spent result unspent = refl

one-more : (small : Bool) (answered : ℕ) → (if small then suc answered else answered) ≤ answered + 1
one-more true answered = omega arith
one-more false answered = omega arith

answered-by : (answered : ℕ) (done : Deed) → answered_with answered done ≤ answered + allocates done
answered-by answered (deed.gives need v words place) = one-more (is_small (need_of need)) answered
answered-by answered (deed.replaces need words place) = one-more (is_small (need_of need)) answered
answered-by answered (deed.refuses need) = one-more (is_small (need_of need)) answered
answered-by answered done = omega arith

pub answered-step : (answered : ℕ) (operation : Op) (result : Outcome) → answered_after answered operation result ≤ answered + asks operation
answered-step answered operation result = omega (arith, answered-by answered (deed_of operation result), allocates-asked operation result)

-- at most so many small blocks are given to others, at any moment
abbrev pub AreFewOthers : Setting → ℕ → Type 0
AreFewOthers setting others = (before : List Event) → Begins before setting.history → count_by (gives_another_small setting.caller) before ≤ others

spent-not :
    (setting : Setting) (position : Position) (others need : ℕ) (piece : List Event) → AreFewOthers setting others
    → position.answered + 1 + others ≤ setting.turn_limit → position.spent ≡ false → IsSpent setting position need piece position.spent → ⊥
spent-not setting position others need piece few room fresh row =
    let spent : IsSpent setting position need piece false = subst (IsSpent setting position need piece) fresh row in
    absurd (omega (arith, room, spent.3, few spent.2.before spent.2.begins))

pub row-unspent :
    (setting : Setting) (depth : ℕ) (position : CachedPosition) (others : ℕ) (operation : Op) (result : Outcome) (piece : List Event)
    → AreFewOthers setting others → position.base.answered + asks operation + others ≤ setting.turn_limit → position.base.spent ≡ false
    → CachedRow setting depth position operation result piece → IsUnspent result
row-unspent setting depth position others operation outcome.Spent piece few room fresh row =
    let (need, is, spent) = row-spent setting depth position operation piece row in
    let asked : 1 ≤ asks operation = subst (λ done. allocates done ≤ asks operation) is (allocates-asked operation outcome.Spent) in
    spent-not setting position.base others need piece few (omega (arith, room, asked)) fresh spent
row-unspent setting depth position others operation result piece few room fresh row = tt

-- a caller's own events are its own, and give no block to another
own-hers : (caller : ℕ) (events : List Event) → AllByRecursion (λ event. eqb (caller_of event) caller ≡ true) (own caller events)
own-hers caller [] = tt
own-hers caller (event ∷ events) =
    elim (cases_Bool (eqb (caller_of event) caller)) [
      | inl hers ↦ rw hers (hers, own-hers caller events)
      | inr other ↦ rw other (own-hers caller events)
    ]

not-another : (caller : ℕ) (event : Event) → eqb (caller_of event) caller ≡ true → gives_another_small caller event ≡ false
not-another caller (Alloc by words place) hers = rw hers refl
not-another caller event hers = refl

none-another :
    (caller : ℕ) (events : List Event) → AllByRecursion (λ event. eqb (caller_of event) caller ≡ true) events
    → count_by (gives_another_small caller) events ≡ 0
none-another caller [] hers = refl
none-another caller (event ∷ events) hers =
    let here : cond {A = ℕ} (gives_another_small caller event) 1 0 ≡ 0 = ap (λ b. cond {A = ℕ} b 1 0) (not-another caller event hers.0) in
    omega (arith, here, sum_by-cons (λ e. cond (gives_another_small caller e) 1 0) event events, none-another caller events hers.1)

another-alloc : (caller : ℕ) (event : Event) → cond {A = ℕ} (gives_another_small caller event) 1 0 ≤ cond {A = ℕ} (is_alloc event) 1 0
another-alloc caller (Alloc by words place) =
    elim (cases_Bool (gives_another_small caller (Alloc by words place))) [ inl gives ↦ rw gives (omega arith) | inr other ↦ rw other (omega arith) ]
another-alloc caller event = omega arith

-- what others are given and what a lane asks for are together at most what all ask for
pub few-others :
    (history : List Event) (lanes : List (List Op)) → AllByRecursion (λ event. caller_of event < length lanes) history
    → ((t : ℕ) → t < length lanes → count_by is_alloc (own t history) ≤ count_by may_allocate (get_or lanes t [])) → (k : ℕ) → k < length lanes
    → count_by (gives_another_small k) history + count_by may_allocate (get_or lanes k []) ≤ sum_by (count_by may_allocate) lanes
few-others history lanes callers each k below =
    let share : ℕ → ℕ = λ t. count_by (gives_another_small k) (own t history) in
    let all = by-caller (gives_another_small k) (length lanes) history callers in
    let own_share : share (0 + k) ≡ 0 =
    ap share (zero-add k) ∙ none-another k (own k history) (own-hers k history) in
    let some : sum_from share 0 (length lanes) + count_by may_allocate (get_or lanes k []) ≤ sum_by (count_by may_allocate) lanes =
    sum-lanes_but share (count_by may_allocate) [] 0 lanes
    (λ t within.
    let few : count_by is_alloc (own t history) ≤ count_by may_allocate (get_or lanes t []) = each t within in
    let fewer : share t ≤ count_by is_alloc (own t history) =
    sum_by-le-sum_by (λ e. cond (gives_another_small k e) 1 0) (λ e. cond (is_alloc e) 1 0) (own t history) (another-alloc k) in
    let same : share (0 + t) ≡ share t = ap share (zero-add t) in
    omega arith)
    k below own_share in
    omega (arith, all, some)
