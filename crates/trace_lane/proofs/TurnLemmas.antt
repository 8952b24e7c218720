-- How many small allocations of a lane were answered, and where it has no turn left.
use Rattle.std.proofs.Common.{ℕ, zero, suc, Bool, true, false, eqb, ◌≡◌, ◌≤◌, ◌+◌, ◌%◌, ◌^◌, ◌&&◌, ◌∷◌, ◌++◌, List, [], append-nil, Option, Some, None, refl, sym, ap, ◌∙◌, inl, inr, arith}
use Rattle.std.specs.List.{AllByRecursion}
use Rattle.trace_lane.proofs.Common.{Geometry, Need, Small, Large, TooLarge, Event, ErrandFields, IsServed, Op, Outcome, Deed, LARGE_MOST, SMALL_MOST, IsGiving, EventsOf}
use Rattle.trace_lane.proofs.Common.{Alloc, Looked, Refuse, TakeNone, Write, IsIdle, Position, IsSpent, MayAsk, Moment, Setting, count_by, is_spent, deed_of}
use Rattle.trace_lane.proofs.Common.{register_of, true≢false, cases_Bool, eq-eqb, setting_in, sum_by-append, alloc_spent, looks, caller_of, own, begins_with, alloc_answer}
use Rattle.trace_lane.proofs.Common.{is_idle, filling, writing}
use Rattle.std.specs.Prelude.{if◌then◌else◌, nat_le}
use Rattle.std.proofs.lemmas.List.Sums.{sum_by-cons}
use Rattle.heap_geometry.specs.Need.{need_of}
use Rattle.pool_model.specs.Calls.{IsRefusing, IsSpending}
use Rattle.errand_steps.specs.declared.point.Point.{Point}
use Rattle.errand_steps.specs.declared.point.Point.TheVariants as point
use Rattle.errand_steps.specs.declared.reply.Begun.TheVariants as begun
use Rattle.sound_state.specs.TurnStages.{turn_stage_of, lacks_answer}
use Rattle.sound_state.specs.Turns.{gives_small, refuses_small, is_small_alloc, one_if}
use Rattle.lane_outcomes.specs.Lane.{answered_after, answered_with, is_small}
use Rattle.lane_outcomes.specs.Rows.{gives_another_small}
use Rattle.lane_outcomes.specs.Deeds as deed
use Rattle.lane_outcomes.proofs.FillLemmas.{writes_of}
use Rattle.lane_outcomes.specs.Magazines.{freeing, is_kept, magazines_given, served_by}
use Rattle.lane_outcomes.specs.Cached.{CachedPosition, CachedRow, IsGivenBy, answered_by, served_for, served_with}
use Rattle.lane_outcomes.proofs.SlotRows.{Adds, IsMild, row-adds}

-- how many small allocations of a caller were given a block or refused
abbrev pub answered_in : ℕ → List Event → ℕ
answered_in caller events = count_by (gives_small caller) events + count_by (refuses_small caller) events

abbrev answers : ℕ → Event → ℕ
answers caller event = one_if (gives_small caller event) + one_if (refuses_small caller event)

answered-cons : (caller : ℕ) (event : Event) (events : List Event) → answered_in caller (event ∷ events) ≡ answers caller event + answered_in caller events
answered-cons caller event events =
    let gives : count_by (gives_small caller) (event ∷ events) ≡ one_if (gives_small caller event) + count_by (gives_small caller) events =
    sum_by-cons (λ x. one_if (gives_small caller x)) event events in
    let refuses : count_by (refuses_small caller) (event ∷ events) ≡ one_if (refuses_small caller event) + count_by (refuses_small caller) events =
    sum_by-cons (λ x. one_if (refuses_small caller x)) event events in
    omega arith

pub answered-append : (caller : ℕ) (events more : List Event) → answered_in caller (events ++ more) ≡ answered_in caller events + answered_in caller more
answered-append caller events more =
    let gives : count_by (gives_small caller) (events ++ more) ≡ count_by (gives_small caller) events + count_by (gives_small caller) more =
    sum_by-append (λ x. one_if (gives_small caller x)) events more in
    let refuses : count_by (refuses_small caller) (events ++ more) ≡ count_by (refuses_small caller) events + count_by (refuses_small caller) more =
    sum_by-append (λ x. one_if (refuses_small caller x)) events more in
    omega arith

looks-none : (caller by class count : ℕ) → answered_in caller (looks by class count) ≡ 0
looks-none caller by class zero = refl
looks-none caller by class (suc count) = answered-cons caller (Looked by class) (looks by class count) ∙ ap (λ n. 0 + n) (looks-none caller by class count)

pub writes-none : (caller count first by place : ℕ) (value : ℕ → ℕ) → answered_in caller (writes_of by place value first count) ≡ 0
writes-none caller zero first by place value = refl
writes-none caller (suc count) first by place value =
    answered-cons caller (Write by place first (value first)) (writes_of by place value (first + 1) count)
    ∙ ap (λ n. 0 + n) (writes-none caller count (first + 1) by place value)

-- a need is small where it is of at most `SMALL_MOST` words
small-need : (need : ℕ) → is_small (need_of need) ≡ nat_le need SMALL_MOST
unfolding need_of
small-need need =
    elim (cases_Bool (nat_le need SMALL_MOST)) [
      | inl small ↦ rw small refl
      | inr large ↦ rw large (elim (cases_Bool (nat_le need LARGE_MOST)) [
        | inl fits ↦ rw fits refl
        | inr none ↦ rw none refl
      ])
    ]

-- an answer counts where it is the caller's own, and of a small need
own-answer : (caller : ℕ) (b : Bool) → one_if (eqb caller caller && b) ≡ one_if b
own-answer caller b = rw (eq-eqb caller caller refl) refl

given-one : (caller need place : ℕ) → answered_in caller (Alloc caller need place ∷ []) ≡ one_if (nat_le need SMALL_MOST)
given-one caller need place = let one = own-answer caller (nat_le need SMALL_MOST) in let all = answered-cons caller (Alloc caller need place) [] in omega arith

refused-one : (caller need : ℕ) → answered_in caller (Refuse caller need ∷ []) ≡ one_if (nat_le need SMALL_MOST)
refused-one caller need = let one = own-answer caller (nat_le need SMALL_MOST) in let all = answered-cons caller (Refuse caller need) [] in omega arith

pub giving-count :
    (caller need place : ℕ) (n : Need) (piece : List Event) → IsGiving caller need place n piece
    → answered_in caller piece ≡ one_if (nat_le need SMALL_MOST)
giving-count caller need place (Small class) piece giving =
    let all = answered-append caller (looks caller class giving.0) (Alloc caller need place ∷ []) in
    let none = looks-none caller caller class giving.0 in
    let one = given-one caller need place in
    ap (answered_in caller) giving.1 ∙ omega arith
giving-count caller need place (Large units) piece giving = ap (answered_in caller) giving ∙ given-one caller need place
giving-count caller need place TooLarge piece giving = absurd giving

refusing-count :
    (caller need : ℕ) (n : Need) (piece : List Event) → IsRefusing caller need n piece
    → answered_in caller piece ≡ one_if (nat_le need SMALL_MOST)
refusing-count caller need (Small class) piece refusing =
    let all = answered-append caller (looks caller class (suc refusing.0)) (Refuse caller need ∷ []) in
    let none = looks-none caller caller class (suc refusing.0) in
    let one = refused-one caller need in
    ap (answered_in caller) refusing.1 ∙ omega arith
refusing-count caller need (Large units) piece refusing = ap (answered_in caller) refusing ∙ refused-one caller need
refusing-count caller need TooLarge piece refusing = absurd refusing

spending-count : (caller : ℕ) (n : Need) (piece : List Event) → IsSpending caller n piece → answered_in caller piece ≡ 0
spending-count caller (Small class) piece spending = ap (answered_in caller) spending.1 ∙ looks-none caller caller class spending.0
spending-count caller (Large units) piece spending = absurd spending
spending-count caller TooLarge piece spending = absurd spending

spent-count :
    (setting : Setting) (position : Position) (need : ℕ) (piece : List Event) (spent : Bool) → IsSpent setting position need piece spent
    → answered_in setting.caller piece ≡ 0
spent-count setting position need piece true row = ap (answered_in setting.caller) row.1
spent-count setting position need piece false row = spending-count setting.caller (need_of need) piece row.0

-- a piece that has so many answers
pub piece-count :
    (caller : ℕ) (done piece : List Event) (answered more : ℕ) → answered ≡ answered_in caller done → answered_in caller piece ≡ more
    → answered + more ≡ answered_in caller (done ++ piece)
piece-count caller done piece answered more so_far is = let all = answered-append caller done piece in omega arith

counted : (b : Bool) (answered : ℕ) → (if b then suc answered else answered) ≡ answered + one_if b
counted true answered = omega arith
counted false answered = omega arith

-- who is answered a small allocation has one answer more
pub small-more : (need answered : ℕ) → (if is_small (need_of need) then suc answered else answered) ≡ answered + one_if (nat_le need SMALL_MOST)
small-more need answered = ap (λ b. if b then suc answered else answered) (small-need need) ∙ counted (nat_le need SMALL_MOST) answered

-- how many answers an operation with its outcome is: none where a magazine served it
abbrev given_answers : Option ℕ → ℕ → ℕ
given_answers None need = one_if (nat_le need SMALL_MOST)
given_answers (Some place) need = 0

abbrev answers_by : Option ℕ → Deed → ℕ
answers_by served (deed.gives need v words place) = given_answers served need
answers_by served (deed.replaces need words place) = given_answers served need
answers_by served (deed.refuses need) = one_if (nat_le need SMALL_MOST)
answers_by served done = 0

given-more :
    (served : Option ℕ) (answered need : ℕ) (operation : Op) (result : Outcome)
    → answered_after answered operation result ≡ (if is_small (need_of need) then suc answered else answered)
    → answered_by served answered operation result ≡ answered + given_answers served need
given-more None answered need operation result is = is ∙ small-more need answered
given-more (Some place) answered need operation result is = omega arith

answered-more :
    (magazines : List (List ℕ)) (answered : ℕ) (operation : Op) (result : Outcome) (done : Deed)
    → answered_after answered operation result ≡ answered_with answered done
    → answered_by (served_with magazines done) answered operation result ≡ answered + answers_by (served_with magazines done) done
answered-more magazines answered operation result (deed.gives need v words place) is =
    given-more (served_by magazines (need_of need)) answered need operation result is
answered-more magazines answered operation result (deed.replaces need words place) is =
    given-more (served_by magazines (need_of need)) answered need operation result is
answered-more magazines answered operation result (deed.refuses need) is = is ∙ small-more need answered
answered-more magazines answered operation result done is = is ∙ omega arith

-- a block was given, and other events followed that are no answers
given-count :
    (caller need place : ℕ) (calls more : List Event) → IsGiving caller need place (need_of need) calls → answered_in caller more ≡ 0
    → answered_in caller (calls ++ more) ≡ one_if (nat_le need SMALL_MOST)
given-count caller need place calls more giving none =
    let all = answered-append caller calls more in let one = giving-count caller need place (need_of need) calls giving in omega arith

freeing-none : (caller : ℕ) (keeps : Bool) (place : ℕ) → answered_in caller (freeing caller keeps place) ≡ 0
freeing-none caller true place = refl
freeing-none caller false place = refl

mild-none : (caller by : ℕ) (events : List Event) → AllByRecursion (IsMild by) events → answered_in caller events ≡ 0
mild-none caller by [] milds = refl
mild-none caller by (Write other place i v ∷ events) milds = mild-none caller by events milds.1
mild-none caller by (TakeNone other shelf ∷ events) milds = mild-none caller by events milds.1
mild-none caller by (event ∷ events) milds = absurd milds.0

-- a magazine or the heap gave a block
handed-count :
    (setting : Setting) (position : CachedPosition) (need place : ℕ) (calls more : List Event) (served : Option ℕ)
    → IsGivenBy served setting position need place calls → answered_in setting.caller more ≡ 0
    → answered_in setting.caller (calls ++ more) ≡ given_answers served need
handed-count setting position need place calls more None given none = given-count setting.caller need place calls more given.1 none
handed-count setting position need place calls more (Some at) given none = ap (λ es. answered_in setting.caller (es ++ more)) given.1 ∙ none

count-by :
    (setting : Setting) (depth : ℕ) (position : CachedPosition) (r : ℕ) (done : Deed) (piece : List Event) → Adds setting depth position r done piece
    → answered_in setting.caller piece ≡ answers_by (served_with position.magazines done) done
count-by setting depth position r (deed.gives need v words place) piece (empty, words_are, calls, given, is) =
    ap (answered_in setting.caller) is
    ∙ handed-count setting position need place calls (filling setting.caller place words v) (served_by position.magazines (need_of need)) given
    (writes-none setting.caller words 0 setting.caller place (λ i. (v + i) % 2 ^ 64))
count-by setting depth position r (deed.replaces need words place) piece (held, full, differ, words_are, calls, given, value, copy, is) =
    let caller = setting.caller in
    let writes = writing caller place words value in
    let freed = freeing caller (is_kept depth (magazines_given position.magazines (need_of need)) held.need) held.place in
    let made = handed-count setting position need place calls writes (served_by position.magazines (need_of need)) given
    (writes-none caller words 0 caller place value) in
    let none : answered_in caller freed ≡ 0 = freeing-none caller _ held.place in
    ap (answered_in caller) is ∙ omega (arith, answered-append caller (calls ++ writes) freed, made, none)
count-by setting depth position r deed.frees piece (held, full, is) = ap (answered_in setting.caller) is ∙ freeing-none setting.caller _ held.place
count-by setting depth position r deed.lays piece (held, full, shelf, is) = ap (answered_in setting.caller) is
count-by setting depth position r (deed.takes words place need) piece (shelf, row) = ap (answered_in setting.caller) row.0
count-by setting depth position r (deed.refuses need) piece events = refusing-count setting.caller need (need_of need) piece events
count-by setting depth position r (deed.spends need) piece spent = spent-count setting position.base need piece position.base.spent spent
count-by setting depth position r deed.stays piece milds = mild-none setting.caller setting.caller piece milds

-- how many small allocations were answered, with one operation more, also through a cache
pub cached-answered :
    (setting : Setting) (depth : ℕ) (position : CachedPosition) (operation : Op) (result : Outcome) (piece : List Event)
    → CachedRow setting depth position operation result piece → position.base.answered ≡ answered_in setting.caller position.base.done
    → answered_by (served_for position.magazines operation result) position.base.answered operation result
    ≡ answered_in setting.caller (position.base.done ++ piece)
cached-answered setting depth position operation result piece row so_far =
    answered-more position.magazines position.base.answered operation result (deed_of operation result) refl
    ∙ piece-count setting.caller position.base.done piece position.base.answered _ so_far
    (count-by setting depth position (register_of operation) (deed_of operation result) piece (row-adds setting depth position operation result piece row))

-- an event of another caller's is no answer to this one
others-answer : (caller : ℕ) (event : Event) → eqb (caller_of event) caller ≡ false → answers caller event ≡ 0
others-answer caller (Alloc by need place) other = rw other refl
others-answer caller (Refuse by need) other = rw other refl
others-answer caller event other = refl

-- a caller's own events tell how many of its small allocations were answered
pub answered-own : (caller : ℕ) (events : List Event) → answered_in caller events ≡ answered_in caller (own caller events)
answered-own caller [] = refl
answered-own caller (event ∷ events) =
    let rest = answered-own caller events in
    let first = answered-cons caller event events in
    elim (cases_Bool (eqb (caller_of event) caller)) [
      | inl hers ↦ rw hers (let kept = answered-cons caller event (own caller events) in omega arith)
      | inr other ↦ rw other (let none = others-answer caller event other in omega arith)
    ]

-- who is in no call awaits no answer
point-answered : (p : Point) → is_idle p ≡ true → one_if (lacks_answer (turn_stage_of p)) ≡ 0
point-answered point.Idle idle = refl
point-answered p idle = absurd (true≢false (sym idle))

-- a small block goes to this caller or to another one
given-to : (caller : ℕ) (event : Event) → one_if (is_small_alloc event) ≡ one_if (gives_small caller event) + one_if (gives_another_small caller event)
given-to caller (Alloc by words place) =
    rw (small-need words) (elim (cases_Bool (eqb by caller)) [
      | inl hers ↦ rw hers (omega arith)
      | inr other ↦ rw other (omega arith)
    ])
given-to caller event = refl

given-to-all :
    (caller : ℕ) (events : List Event)
    → count_by is_small_alloc events ≡ count_by (gives_small caller) events + count_by (gives_another_small caller) events
given-to-all caller [] = refl
given-to-all caller (event ∷ events) =
    let rest = given-to-all caller events in
    let one = given-to caller event in
    let all : count_by is_small_alloc (event ∷ events) ≡ one_if (is_small_alloc event) + count_by is_small_alloc events =
    sum_by-cons (λ x. one_if (is_small_alloc x)) event events in
    let hers : count_by (gives_small caller) (event ∷ events) ≡ one_if (gives_small caller event) + count_by (gives_small caller) events =
    sum_by-cons (λ x. one_if (gives_small caller x)) event events in
    let others : count_by (gives_another_small caller) (event ∷ events) ≡ one_if (gives_another_small caller event) + count_by (gives_another_small caller) events =
    sum_by-cons (λ x. one_if (gives_another_small caller x)) event events in
    omega arith

-- an allocation that finds no turn left fits, where its caller has begun as many as it may
spent-rows :
    (setting : Setting) (position : Position) (need : ℕ) (piece : List Event) (spent : Bool) → EventsOf setting.caller (alloc_spent need) piece
    → is_small (need_of need) ≡ true → (spent ≡ true → piece ≡ []) → setting.turn_limit ≤ position.answered + setting.lost
    → (moment : Moment setting (position.done ++ piece))
    → setting.turn_limit ≤ position.answered + count_by (gives_another_small setting.caller) moment.before
    → IsSpent setting position need piece spent
spent-rows setting position need piece true events small none limit moment given = (small, none refl)
spent-rows setting position need piece false events small none limit moment given = (events, limit, moment, given)

spending-small : (caller : ℕ) (n : Need) (piece : List Event) → IsSpending caller n piece → is_small n ≡ true
spending-small caller (Small class) piece spending = refl
spending-small caller (Large units) piece spending = absurd spending
spending-small caller TooLarge piece spending = absurd spending

pub is-spent :
    (g : Geometry) (caller : ℕ) (after : List Event) (f : ErrandFields) (position : Position) (need : ℕ) (piece : List Event)
    → IsServed g caller f after → IsIdle f → f.turns ≡ g.turn_limit → own caller after ≡ position.done ++ piece
    → position.answered ≡ answered_in caller position.done → EventsOf caller (alloc_spent need) piece → (position.spent ≡ true → piece ≡ [])
    → IsSpent (setting_in after caller g.turn_limit f.lost) position need piece position.spent
is-spent g caller after f position need piece served idle limit own_is answered events none =
    let stage = point-answered f.point idle in
    let seen = answered-own caller after in
    let told : answered_in caller (own caller after) ≡ answered_in caller (position.done ++ piece) = ap (answered_in caller) own_is in
    let more = answered-append caller position.done piece in
    let nothing = spending-count caller (need_of need) piece events in
    let by_lost = served.by_lost in
    let few : g.turn_limit ≤ position.answered + f.lost = omega arith in
    let by_given = served.by_given in
    let parts = given-to-all caller after in
    let given : g.turn_limit ≤ position.answered + count_by (gives_another_small caller) after = omega arith in
    let moment : Moment (setting_in after caller g.turn_limit f.lost) (position.done ++ piece) =
    record { before = after; begins = ([], sym (append-nil after)); own_done = own_is } in
    spent-rows (setting_in after caller g.turn_limit f.lost) position need piece position.spent events (spending-small caller (need_of need) piece events)
    none few moment given

-- a lane that is spent is answered so: so an allocation that starts may ask
started-asks :
    (e : ErrandFields) (n : Need) (spent : Bool) → (spent ≡ true → is_spent e ≡ true) → begins_with e n ≡ begun.Started
    → (is_small n && spent) ≡ false
started-asks e (Small class) false limit starts = refl
started-asks e (Small class) true limit starts =
    absurd (let e : begun.Spent ≡ begun.Started = ap (λ (b : Bool). if b then begun.Spent else begun.Started) (sym (limit refl)) ∙ starts in cc)
started-asks e (Large units) spent limit starts = refl
started-asks e TooLarge spent limit starts = refl

pub may-ask :
    (e : ErrandFields) (position : Position) (need : ℕ) → (position.spent ≡ true → e.turns ≡ e.geometry.turn_limit)
    → alloc_answer e need ≡ begun.Started → MayAsk position need
may-ask e position need limit starts =
    started-asks e (need_of need) position.spent (λ is. eq-eqb e.turns e.geometry.turn_limit (limit is)) starts

-- a lane that was spent before, and may ask, adds no event where it finds no turn left
pub asked-unspent :
    (position : Position) (need caller : ℕ) (piece : List Event) → MayAsk position need → EventsOf caller (alloc_spent need) piece
    → position.spent ≡ true → piece ≡ []
asked-unspent position need caller piece asks events spent =
    let small = spending-small caller (need_of need) piece events in
    let both : (is_small (need_of need) && position.spent) ≡ true = rw (small, spent) refl in
    absurd (true≢false (sym both ∙ asks))
