-- What a lane holds and keeps at the moments of a history, other callers' events between its own.
use Rattle.std.proofs.Common.{ℕ, replicate, None, true, eqb, ◌≡◌, ◌+◌, List, [], ◌∷◌, ◌++◌, Option, refl, sym, ◌∙◌, ap, subst, inl, inr, arith, eq-eqb, append_assoc, append-nil}
use Rattle.std.specs.List.{AllByRecursion, sum_by}
use Rattle.std.proofs.lemmas.Bool.{cases_Bool}
use Rattle.heap_geometry.specs.declared.geometry.Geometry.{Geometry}
use Rattle.pool_model.specs.declared.event.Event.{Event}
use Rattle.pool_model.specs.declared.event.Event.TheVariants.{Alloc, Free, Write, Put, Take}
use Rattle.pool_model.specs.Histories.{caller_of, own, Begins}
use Rattle.pool_model.specs.Pool.{pool_of}
use Rattle.pool_model.specs.Legal.{IsLegalWithoutCounts, IsLegalEventWithoutCounts}
use Rattle.pool_model.proofs.HistoryLemmas.{pool_of-push, push-append, EachAfter-cut}
use Rattle.pool_model.proofs.OwnerLemmas.{others-keep_all}
use Rattle.trace_text.specs.declared.limits.TheConstants.{REGISTERS}
use Rattle.lane_outcomes.specs.declared.registers.HeldBlock.{HeldBlock}
use Rattle.lane_outcomes.specs.Standing.{HoldsOwn}
use Rattle.lane_outcomes.proofs.FillLemmas.{owns-written}
use Rattle.lane_outcomes.proofs.HoldLemmas.{holds-nothing, holds-still, owns-on}
use Rattle.lane_outcomes.proofs.SlotLemmas.{slots}
use Rattle.lane_outcomes.proofs.TallyLemmas.{tally, of_caller, tally-append, tally-none, tally-own}
use Rattle.lane_outcomes.proofs.MeasureLemmas.{give_at, free_at}

-- what blocks count, where one of so many words counts as `f` says
abbrev pub amount : (ℕ → ℕ) → List HeldBlock → ℕ
amount f kept = sum_by (λ held. f held.words) kept

-- what a caller's events gave and freed
abbrev pub given_to : (ℕ → ℕ) → List Event → ℕ → ℕ
given_to f history caller = tally (of_caller caller (give_at f)) [] history

abbrev pub freed_by : (ℕ → ℕ) → List Event → ℕ → ℕ
freed_by f history caller = tally (of_caller caller (free_at f)) [] history

-- a lane holds its blocks: in its registers, and others that it keeps beside them. By its outcomes it was given and has freed so much: as much as by its
-- events, but that what it keeps is freed by no event yet
pub record Keeps (f : ℕ → ℕ) (caller : ℕ) (before : List Event) (kept : List HeldBlock) (registers : List (Option HeldBlock)) (got gone : ℕ) : Type 0 where
  pub holds : HoldsOwn (pool_of before) caller (slots kept registers)
  pub balance : given_to f before caller + gone ≡ got + freed_by f before caller + amount f kept

-- it does so at each moment of a history at which these are the lane's events
abbrev pub KeepsAt : (ℕ → ℕ) → List Event → ℕ → List Event → List HeldBlock → List (Option HeldBlock) → ℕ → ℕ → Type 0
KeepsAt f history caller done kept registers got gone =
    (before : List Event) → Begins before history → own caller before ≡ done → Keeps f caller before kept registers got gone

-- events cut at one of a caller's: before it are these of its own, and behind it the rest
pub record IsCut (caller : ℕ) (done : List Event) (event : Event) (rest events : List Event) : Type 0 where
  pub front : List Event
  pub back : List Event
  pub whole : events ≡ front ++ event ∷ back
  pub own_front : own caller front ≡ done
  pub own_back : own caller back ≡ rest

cut-hers :
    (caller : ℕ) (done : List Event) (event : Event) (rest : List Event) (next : Event) (events : List Event) → eqb (caller_of next) caller ≡ true
    → next ∷ own caller events ≡ done ++ event ∷ rest
    → ((others : List Event) → own caller events ≡ others ++ event ∷ rest → IsCut caller others event rest events)
    → IsCut caller done event rest (next ∷ events)
cut-hers caller [] event rest next events hers own_is later =
    let e : next ∷ own caller events ≡ event ∷ rest = own_is in
    let same : next ≡ event = cc in
    record { front = []; back = events; whole = ap (λ x. x ∷ events) same; own_front = refl; own_back = cc }
cut-hers caller (head ∷ done) event rest next events hers own_is later =
    let e : next ∷ own caller events ≡ head ∷ (done ++ event ∷ rest) = own_is in
    let same : next ≡ head = cc in
    let cut = later done (cc) in
    record {
      front = next ∷ cut.front;
      back = cut.back;
      whole = ap (λ xs. next ∷ xs) cut.whole;
      own_front = rw hers (ap (λ xs. next ∷ xs) cut.own_front ∙ ap (λ x. x ∷ done) same);
      own_back = cut.own_back;
    }

pub cut-at :
    (caller : ℕ) (done : List Event) (event : Event) (rest events : List Event) → own caller events ≡ done ++ event ∷ rest → IsCut caller done event rest events
cut-at caller [] event rest [] own_is = absurd (cc)
cut-at caller (head ∷ done) event rest [] own_is = absurd (cc)
cut-at caller done event rest (next ∷ events) own_is =
    elim (cases_Bool (eqb (caller_of next) caller)) [
      | inl hers ↦ cut-hers caller done event rest next events hers (rw hers at own_is) (λ others is. cut-at caller others event rest events is)
      | inr other ↦
          let cut = cut-at caller done event rest events (rw other at own_is) in
          record {
            front = next ∷ cut.front;
            back = cut.back;
            whole = ap (λ xs. next ∷ xs) cut.whole;
            own_front = rw other cut.own_front;
            own_back = cut.own_back;
          }
    ]

-- two cuts of events at a caller's event, with the same own events before it, are one
pub same-moment :
    (caller : ℕ) (event : Event) (front other back rest : List Event) → caller_of event ≡ caller → front ++ event ∷ back ≡ other ++ event ∷ rest
    → own caller front ≡ own caller other → front ≡ other
same-moment caller event [] [] back rest hers whole own_is = refl
same-moment caller event [] (next ∷ other) back rest hers whole own_is =
    let e : event ∷ back ≡ next ∷ (other ++ event ∷ rest) = whole in
    let same : next ≡ event = cc in
    let own_next : own caller (next ∷ other) ≡ next ∷ own caller other =
    rw (eq-eqb (caller_of next) caller (ap caller_of same ∙ hers)) refl in
    absurd (let f : [] ≡ next ∷ own caller other = own_is ∙ own_next in cc)
same-moment caller event (next ∷ front) [] back rest hers whole own_is =
    let e : next ∷ (front ++ event ∷ back) ≡ event ∷ rest = whole in
    let same : next ≡ event = cc in
    let own_next : own caller (next ∷ front) ≡ next ∷ own caller front =
    rw (eq-eqb (caller_of next) caller (ap caller_of same ∙ hers)) refl in
    absurd (let f : next ∷ own caller front ≡ [] = sym own_next ∙ own_is in cc)
same-moment caller event (first ∷ front) (second ∷ other) back rest hers whole own_is =
    let e : first ∷ (front ++ event ∷ back) ≡ second ∷ (other ++ event ∷ rest) = whole in
    let same : first ≡ second = cc in
    let tails : front ++ event ∷ back ≡ other ++ event ∷ rest = cc in
    let moved : own caller (first ∷ front) ≡ own caller (first ∷ other) = own_is ∙ ap (λ x. own caller (x ∷ other)) (sym same) in
    let owns : own caller front ≡ own caller other =
    elim (cases_Bool (eqb (caller_of first) caller)) [
      | inl hers_too ↦ let f : first ∷ own caller front ≡ first ∷ own caller other = rw hers_too at moved in cc
      | inr another ↦ rw another at moved
    ] in
    ap (λ xs. first ∷ xs) (same-moment caller event front other back rest hers tails owns) ∙ ap (λ x. x ∷ other) same

-- events of other callers leave what a lane keeps
keeps-others :
    (f : ℕ → ℕ) (g : Geometry) (caller : ℕ) (before rest : List Event) (kept : List HeldBlock) (registers : List (Option HeldBlock)) (got gone : ℕ)
    → IsLegalWithoutCounts g (before ++ rest) → own caller rest ≡ [] → Keeps f caller before kept registers got gone
    → Keeps f caller (before ++ rest) kept registers got gone
keeps-others f g caller before rest kept registers got gone legal none h =
    let gives = tally-append (of_caller caller (give_at f)) [] before rest in
    let no_gives = tally-none (give_at f) caller (pool_of before) rest none in
    let frees = tally-append (of_caller caller (free_at f)) [] before rest in
    let no_frees = tally-none (free_at f) caller (pool_of before) rest none in
    record {
      holds = holds-still (pool_of before) (pool_of (before ++ rest)) caller (slots kept registers)
          (λ held owns.
          owns-on (pool_of before) _ caller held owns (others-keep_all g before rest caller held.place owns.block legal none owns.live owns.owned))
          h.holds;
      balance = omega (arith, gives, no_gives, frees, no_frees, h.balance);
    }

module _ (f : ℕ → ℕ) (g : Geometry) (history : List Event) (caller : ℕ) (legal : IsLegalWithoutCounts g history) where
  -- what an event of the lane's makes of what it keeps, of what it was given and of what it has freed
  abbrev pub StepsAt : List Event → Event → List HeldBlock → List HeldBlock → List (Option HeldBlock) → List (Option HeldBlock) → ℕ → ℕ → ℕ → ℕ → Type 0
  StepsAt done event kept others registers after got gone got_after gone_after =
      (before : List Event) → IsLegalWithoutCounts g (before ++ event ∷ []) → Begins (before ++ event ∷ []) history → own caller before ≡ done
      → HoldsOwn (pool_of before) caller (slots kept registers)
      → HoldsOwn (pool_of (before ++ event ∷ [])) caller (slots others after)
      × (give_at f (pool_of before) event + gone_after + (got + amount f kept) ≡ gone + (got_after + free_at f (pool_of before) event + amount f others))

  -- a lane goes on by an event of its own
  pub keeps-step :
      (done : List Event) (event : Event) (kept others : List HeldBlock) (registers after : List (Option HeldBlock)) (got gone got_after gone_after : ℕ)
      → caller_of event ≡ caller → StepsAt done event kept others registers after got gone got_after gone_after
      → KeepsAt f history caller done kept registers got gone → KeepsAt f history caller (done ++ event ∷ []) others after got_after gone_after
  keeps-step done event kept others registers after got gone got_after gone_after hers step keeps events (more, is) own_is =
      let cut = cut-at caller done event [] events own_is in
      let past : (cut.front ++ event ∷ []) ++ cut.back ≡ events = push-append cut.front cut.back event ∙ sym cut.whole in
      let here : history ≡ (cut.front ++ event ∷ []) ++ (cut.back ++ more) =
      is ∙ ap (λ xs. xs ++ more) (sym past) ∙ append_assoc (cut.front ++ event ∷ []) cut.back more in
      let before : history ≡ cut.front ++ (event ∷ (cut.back ++ more)) = here ∙ push-append cut.front (cut.back ++ more) event in
      let legal_here : IsLegalWithoutCounts g (cut.front ++ event ∷ []) =
      EachAfter-cut (IsLegalEventWithoutCounts g) (cut.front ++ event ∷ []) (cut.back ++ more) (subst (IsLegalWithoutCounts g) here legal) in
      let legal_past : IsLegalWithoutCounts g ((cut.front ++ event ∷ []) ++ cut.back) =
      subst (IsLegalWithoutCounts g) (sym past) (EachAfter-cut (IsLegalEventWithoutCounts g) events more (subst (IsLegalWithoutCounts g) is legal)) in
      let was = keeps cut.front (event ∷ (cut.back ++ more), before) cut.own_front in
      let stepped = step cut.front legal_here (cut.back ++ more, here) cut.own_front was.holds in
      let gives = tally-append (of_caller caller (give_at f)) [] cut.front (event ∷ []) in
      let one_give = tally-own (give_at f) caller (pool_of cut.front) event hers in
      let frees = tally-append (of_caller caller (free_at f)) [] cut.front (event ∷ []) in
      let one_free = tally-own (free_at f) caller (pool_of cut.front) event hers in
      subst (λ (xs : List Event). Keeps f caller xs others after got_after gone_after) past
      (keeps-others f g caller (cut.front ++ event ∷ []) cut.back others after got_after gone_after legal_past cut.own_back
      (record { holds = stepped.0; balance = omega (arith, was.balance, stepped.1, gives, one_give, frees, one_free) }))

  -- blocks change places without an event
  pub keeps-moved :
      (done : List Event) (kept others : List HeldBlock) (registers after : List (Option HeldBlock)) (got gone got_after gone_after : ℕ)
      → ((before : List Event) → IsLegalWithoutCounts g before → HoldsOwn (pool_of before) caller (slots kept registers)
      → HoldsOwn (pool_of before) caller (slots others after) × (gone_after + (got + amount f kept) ≡ gone + (got_after + amount f others)))
      → KeepsAt f history caller done kept registers got gone → KeepsAt f history caller done others after got_after gone_after
  keeps-moved done kept others registers after got gone got_after gone_after moved keeps before begins own_is =
      let was = keeps before begins own_is in
      let now = moved before (EachAfter-cut (IsLegalEventWithoutCounts g) before begins.0 (subst (IsLegalWithoutCounts g) begins.1 legal)) was.holds in
      record { holds = now.0; balance = omega (arith, was.balance, now.1) }

-- an event that gives no block, frees none and hands none over
abbrev pub IsStill : ℕ → Event → Type 0
IsStill caller (Alloc other need place) = ⊥
IsStill caller (Free other place) = ⊥
IsStill caller (Put other place shelf) = ⊥
IsStill caller (Take other shelf place) = ⊥
IsStill caller event = caller_of event ≡ caller

still-own : (caller : ℕ) (event : Event) → IsStill caller event → caller_of event ≡ caller
still-own caller (Alloc other need place) still = absurd still
still-own caller (Free other place) still = absurd still
still-own caller (Put other place shelf) still = absurd still
still-own caller (Take other shelf place) still = absurd still
still-own caller event still = still

still-holds :
    (caller : ℕ) (before : List Event) (event : Event) (held : List (Option HeldBlock)) → IsStill caller event → HoldsOwn (pool_of before) caller held
    → HoldsOwn (pool_of (before ++ event ∷ [])) caller held
still-holds caller before (Alloc other need place) held still h = absurd still
still-holds caller before (Free other place) held still h = absurd still
still-holds caller before (Put other place shelf) held still h = absurd still
still-holds caller before (Take other shelf place) held still h = absurd still
still-holds caller before (Write other place i v) held still h =
    rw (pool_of-push before (Write other place i v))
    (holds-still (pool_of before) _ caller held (λ block. owns-written (pool_of before) caller block other place i v) h)
still-holds caller before event held still h = rw (pool_of-push before event) h

still-counts :
    (f : ℕ → ℕ) (caller : ℕ) (before : List Event) (event : Event) → IsStill caller event
    → (give_at f (pool_of before) event ≡ 0) × (free_at f (pool_of before) event ≡ 0)
still-counts f caller before (Alloc other need place) still = absurd still
still-counts f caller before (Free other place) still = absurd still
still-counts f caller before event still = (refl, refl)

-- such events leave what a lane keeps
pub keeps-stills :
    (f : ℕ → ℕ) (g : Geometry) (history : List Event) (caller : ℕ) (legal : IsLegalWithoutCounts g history) (done events : List Event)
    (kept : List HeldBlock) (registers : List (Option HeldBlock)) (got gone : ℕ) → AllByRecursion (IsStill caller) events
    → KeepsAt f history caller done kept registers got gone → KeepsAt f history caller (done ++ events) kept registers got gone
keeps-stills f g history caller legal done [] kept registers got gone stills keeps = rw (append-nil done) keeps
keeps-stills f g history caller legal done (event ∷ events) kept registers got gone stills keeps =
    rw (← push-append done events event)
    (keeps-stills f g history caller legal (done ++ event ∷ []) events kept registers got gone stills.1
    (keeps-step f g history caller legal done event kept kept registers registers got gone got gone (still-own caller event stills.0)
    (λ before legal_here begins own_is holds.
    let none = still-counts f caller before event stills.0 in
    (still-holds caller before event (slots kept registers) stills.0 holds, omega (arith, none.0, none.1)))
    keeps))

-- empty registers hold a lane's blocks before its first event
pub keeps-start : (f : ℕ → ℕ) (history : List Event) (caller : ℕ) → KeepsAt f history caller [] [] (replicate REGISTERS None) 0 0
keeps-start f history caller before begins own_is =
    record {
      holds = holds-nothing (pool_of before) caller REGISTERS;
      balance = omega (arith, tally-none (give_at f) caller [] before own_is, tally-none (free_at f) caller [] before own_is);
    }
