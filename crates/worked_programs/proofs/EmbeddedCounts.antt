-- How many events of a kind the program's calls add, and that no block is live behind them.
use Rattle.std.proofs.Common.{ℕ, zero, suc, Bool, true, false, cond, ◌≡◌, ◌≢◌, ◌<◌, ◌+◌, List, [], ◌∷◌, ◌++◌, Some, count_by, refl, sym, ◌∙◌, ap, subst, inl, inr, arith, eqb, eq-eqb, ne_eqb}
use Rattle.std.proofs.lemmas.Bool.{cases_eq}
use Rattle.std.proofs.lemmas.List.Sums.{sum_by-append}
use Rattle.heap_geometry.specs.declared.need.Need.{Need}
use Rattle.heap_geometry.specs.declared.need.Need.TheVariants.{Small, Large, TooLarge}
use Rattle.heap_geometry.specs.Need.{need_of}
use Rattle.pool_model.specs.declared.event.Event.{Event}
use Rattle.pool_model.specs.declared.event.Event.TheVariants.{Alloc, Looked, Free, Write, Put, Take}
use Rattle.pool_model.specs.Calls.{Ended, EventsOf, IsGiving, alloc_given, freed, wrote, put_done, take_got, looks}
use Rattle.pool_model.specs.Calls as ended
use Rattle.pool_model.specs.Histories.{caller_of, own}
use Rattle.errand_steps.specs.declared.reply.Reply.{Reply}
use Rattle.errand_steps.specs.declared.reply.Reply.TheVariants as reply
use Rattle.errand_steps.specs.Calls.{Call, alloc, free, put, read, take, write}
use Rattle.sound_laws.specs.events.Ends.{end_of}
use Rattle.sound_laws.specs.events.Made.{LeadsBy}
use Rattle.live_heap.specs.Heaps.{HeapFields}
use Rattle.live_heap.specs.declared.pass.Pass.{Pass}
use Rattle.live_heap.specs.Passes.{seen}
use Rattle.live_heap.specs.Whole.{HasEndedCall, MadeByPass, by_steps, at_once}
use Rattle.worked_programs.specs.declared.embedded.TheConstants.{SHELF}
use Rattle.worked_programs.specs.Embedded.{Makes, first_calls, second_calls}

-- an event that is counted, or isn't
abbrev pub one : (Event → Bool) → Event → ℕ
one P event = count_by P (event ∷ [])

pub count-append : (P : Event → Bool) (xs ys : List Event) → count_by P (xs ++ ys) ≡ count_by P xs + count_by P ys
count-append P xs ys = sum_by-append (λ x. cond (P x) 1 0) xs ys

pub count-first : (P : Event → Bool) (event : Event) (events : List Event) → count_by P (event ∷ events) ≡ one P event + count_by P events
count-first P event events = count-append P (event ∷ []) events

pub one-on : (P : Event → Bool) (event : Event) → P event ≡ true → one P event ≡ 1
one-on P event is = rw is (omega arith)

pub one-off : (P : Event → Bool) (event : Event) → P event ≡ false → one P event ≡ 0
one-off P event is = rw is (omega arith)

count-looks : (P : Event → Bool) (k class n : ℕ) → P (Looked k class) ≡ false → count_by P (looks k class n) ≡ 0
count-looks P k class zero off = refl
count-looks P k class (suc n) off =
    omega (arith, count-first P (Looked k class) (looks k class n), one-off P (Looked k class) off, count-looks P k class n off)

-- looks are not counted
abbrev pub IsBlind : (Event → Bool) → Type 0
IsBlind P = (caller class : ℕ) → P (Looked caller class) ≡ false

pub giving-counts :
    (P : Event → Bool) (k words place : ℕ) (need : Need) (events : List Event) → IsBlind P → IsGiving k words place need events
    → count_by P events ≡ one P (Alloc k words place)
giving-counts P k words place (Small class) events blind is =
    omega (
      arith,
      ap (count_by P) is.1,
      count-append P (looks k class is.0) (Alloc k words place ∷ []),
      count-looks P k class is.0 (blind k class),
    )
giving-counts P k words place (Large units) events blind is = ap (count_by P) is
giving-counts P k words place TooLarge events blind is = absurd is

-- a call that did not end for want of a turn was made by its steps
pub called-of : (p q : Pass) (call : Call) (answer : Reply) → MadeByPass p call answer q → answer ≢ reply.Spent → HasEndedCall p call answer q
called-of p q call answer made ne = elim made [
  | by_steps called ↦ called
  | at_once words is spent once ↦ absurd (ne spent)
]

-- the pass is this caller's, and has seen so many events of its own that are counted
abbrev pub Counts : (Event → Bool) → ℕ → ℕ → Pass → Type 0
Counts P k n p = (p.errand.caller ≡ k) × (count_by P (own k (seen p)) ≡ n)

-- a call adds to the count as many as the events of its end
pub counts-on :
    (P : Event → Bool) (k n m : ℕ) (p q : Pass) (call : Call) (answer : Reply) (end : Ended)
    → end_of call answer ≡ Some end → ((added : List Event) → EventsOf k end added → count_by P added ≡ m)
    → HasEndedCall p call answer q → Counts P k n p → Counts P k (n + m) q
counts-on P k n m p q call answer end is tells ended had =
    let c = ended.1 in
    let same : Some end ≡ Some c.ended.ended.0 = sym is ∙ c.ended.ended.1 in
    let ends : end ≡ c.ended.ended.0 = cc in
    let of_end : EventsOf p.errand.caller end c.added = subst (λ (x : Ended). EventsOf p.errand.caller x c.added) (sym ends) c.ended.ended.2 in
    let mine : EventsOf k end c.added = subst (λ (j : ℕ). EventsOf j end c.added) had.0 of_end in
    let grown : own k (seen q) ≡ own k (seen p) ++ c.added = subst (λ (j : ℕ). own j (seen q) ≡ own j (seen p) ++ c.added) had.0 c.events in (
      c.caller ∙ had.0,
      omega (arith, ap (count_by P) grown, count-append P (own k (seen p)) c.added, tells c.added mine, had.1),
    )

-- what the calls of each pass count
abbrev pub first_count : (Event → Bool) → ℕ → ℕ → ℕ → ℕ
first_count P k place other =
    0 + one P (Alloc k 3 place) + one P (Write k place 1 7) + one P (Alloc k 5 other) + one P (Write k other 1 8) + one P (Free k other) + 0
    + one P (Put k place SHELF)

abbrev pub second_count : (Event → Bool) → ℕ → ℕ → ℕ
second_count P k place = 0 + one P (Take k SHELF place) + 0 + one P (Free k place)

pub counts-first :
    (P : Event → Bool) (h : HeapFields) (first p : Pass) (k place : ℕ) (need : Need) (other : ℕ) (wide : Need) (kept : ℕ) → IsBlind P
    → LeadsBy (Makes h) first (first_calls place need other wide kept) p → Counts P k 0 first → Counts P k (first_count P k place other) p
counts-first P h first p k place need other wide kept blind made had =
    let (p1, m1, r1) = made in
    let (p2, m2, r2) = r1 in
    let (p3, m3, r3) = r2 in
    let (p4, m4, r4) = r3 in
    let (p5, m5, r5) = r4 in
    let (p6, m6, r6) = r5 in
    let (p7, m7, last) = r6 in
    let c1 =
    counts-on P k 0 (one P (Alloc k 3 place)) first p1 (alloc 3) (reply.Given place need) (alloc_given 3 place) refl
    (λ added e. giving-counts P k 3 place (need_of 3) added blind e) (called-of _ _ _ _ m1.0.0 (λ (e : reply.Given place need ≡ reply.Spent). cc)) had in
    let c2 =
    counts-on P k _ (one P (Write k place 1 7)) p1 p2 (write place need 1 7) reply.Wrote (wrote place 1 7) refl
    (λ added e. ap (count_by P) e) (called-of _ _ _ _ m2.0.0 (λ (e : reply.Wrote ≡ reply.Spent). cc)) c1 in
    let c3 =
    counts-on P k _ (one P (Alloc k 5 other)) p2 p3 (alloc 5) (reply.Given other wide) (alloc_given 5 other) refl
    (λ added e. giving-counts P k 5 other (need_of 5) added blind e) (called-of _ _ _ _ m3.0.0 (λ (e : reply.Given other wide ≡ reply.Spent). cc)) c2 in
    let c4 =
    counts-on P k _ (one P (Write k other 1 8)) p3 p4 (write other wide 1 8) reply.Wrote (wrote other 1 8) refl
    (λ added e. ap (count_by P) e) (called-of _ _ _ _ m4.0.0 (λ (e : reply.Wrote ≡ reply.Spent). cc)) c3 in
    let c5 =
    counts-on P k _ (one P (Free k other)) p4 p5 (free other wide) reply.Freed (freed other) refl
    (λ added e. ap (count_by P) e) (called-of _ _ _ _ m5.0.0 (λ (e : reply.Freed ≡ reply.Spent). cc)) c4 in
    let c6 =
    counts-on P k _ 0 p5 p6 (read place need 1) (reply.Word kept) ended.read refl
    (λ added e. ap (count_by P) e) (called-of _ _ _ _ m6.0.0 (λ (e : reply.Word kept ≡ reply.Spent). cc)) c5 in
    let c7 =
    counts-on P k _ (one P (Put k place SHELF)) p6 p7 (put place need SHELF) reply.Put (put_done place SHELF) refl
    (λ added e. ap (count_by P) e) (called-of _ _ _ _ m7.0.0 (λ (e : reply.Put ≡ reply.Spent). cc)) c6 in
    subst (Counts P k (first_count P k place other)) (sym last) c7

pub counts-second :
    (P : Event → Bool) (h : HeapFields) (second q : Pass) (k place : ℕ) (need : Need) (handed : ℕ)
    → LeadsBy (Makes h) second (second_calls place need handed) q → Counts P k 0 second → Counts P k (second_count P k place) q
counts-second P h second q k place need handed made had =
    let (q1, m1, r1) = made in
    let (q2, m2, r2) = r1 in
    let (q3, m3, last) = r2 in
    let c1 =
    counts-on P k 0 (one P (Take k SHELF place)) second q1 (take SHELF) (reply.Got place need) (take_got SHELF place) refl
    (λ added e. ap (count_by P) e) (called-of _ _ _ _ m1.0.0 (λ (e : reply.Got place need ≡ reply.Spent). cc)) had in
    let c2 =
    counts-on P k _ 0 q1 q2 (read place need 1) (reply.Word handed) ended.read refl
    (λ added e. ap (count_by P) e) (called-of _ _ _ _ m2.0.0 (λ (e : reply.Word handed ≡ reply.Spent). cc)) c1 in
    let c3 =
    counts-on P k _ (one P (Free k place)) q2 q3 (free place need) reply.Freed (freed place) refl
    (λ added e. ap (count_by P) e) (called-of _ _ _ _ m3.0.0 (λ (e : reply.Freed ≡ reply.Spent). cc)) c2 in
    subst (Counts P k (second_count P k place)) (sym last) c3

-- what is counted is what each of two callers counts, where there are no others
pub callers-count :
    (P : Event → Bool) (events : List Event)
    → ((before rest : List Event) (event : Event) → events ≡ before ++ event ∷ rest → caller_of event < 2)
    → count_by P events ≡ count_by P (own 0 events) + count_by P (own 1 events)
callers-count P [] two = refl
callers-count P (first ∷ events) two =
    let rest = callers-count P events (λ before rest event e. two (first ∷ before) rest event (ap (λ (xs : List Event). first ∷ xs) e)) in
    let whole = count-first P first events in
    let few : caller_of first < 2 = two [] events first refl in
    elim (cases_eq (caller_of first) 0) [
      | inl here ↦
          let on : eqb (caller_of first) 0 ≡ true = eq-eqb (caller_of first) 0 here in
          let off : eqb (caller_of first) 1 ≡ false = ne_eqb (caller_of first) 1 (λ (e : caller_of first ≡ 1). omega (arith, here, e)) in
          let mine : own 0 (first ∷ events) ≡ first ∷ own 0 events = rw on refl in
          let others : own 1 (first ∷ events) ≡ own 1 events = rw off refl in
          omega (arith, rest, whole, ap (count_by P) mine, ap (count_by P) others, count-first P first (own 0 events))
      | inr past ↦
          let is : caller_of first ≡ 1 = omega (arith, few, past) in
          let on : eqb (caller_of first) 1 ≡ true = eq-eqb (caller_of first) 1 is in
          let off : eqb (caller_of first) 0 ≡ false = ne_eqb (caller_of first) 0 past in
          let mine : own 1 (first ∷ events) ≡ first ∷ own 1 events = rw on refl in
          let others : own 0 (first ∷ events) ≡ own 0 events = rw off refl in
          omega (arith, rest, whole, ap (count_by P) mine, ap (count_by P) others, count-first P first (own 1 events))
    ]
