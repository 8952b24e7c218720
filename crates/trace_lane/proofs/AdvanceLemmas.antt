-- An advance of a lane from its parts, and what its caller's moves leave of the machine.
use Rattle.std.proofs.Common.{ℕ, Bool, true, false, eqb, ◌≡◌, ◌<◌, ◌+◌, ◌∷◌, ◌++◌, List, [], length, refl, sym, ap, ◌∙◌, subst, inl, inr, arith, append_assoc, ◌≢◌, Option, Some, None}
use Rattle.trace_lane.proofs.Common.{Op, MovesCore, LaneState, Event, ErrandFields, Need, Small, Large, TooLarge, FitsCall, Call, CoreFields, HasAdvanced, IsAgain}
use Rattle.trace_lane.proofs.Common.{HasGoneOn, IsLaneOn, IsLaneOf, Grip, count_by, sum_by-append, is_spent, cases_Bool, eq-eqb, script_left, calls_in, machine_at}
use Rattle.trace_lane.proofs.Common.{begin_answer, alloc, begun_by, begins, steps, errand_at, begun_count, begins_with}
use Rattle.std.specs.Prelude.{◌⊎◌, All, if◌then◌else◌}
use Rattle.std.proofs.lemmas.List.Elements.{All-nil, All-cons, All-append}
use Rattle.std.proofs.lemmas.List.{append-nil}
use Rattle.errand_steps.specs.Calls.{take as take_call}
use Rattle.sound_state.specs.Moves.{is_step}
use Rattle.sound_state.specs.Runs.{Move}
use Rattle.trace_lane.specs.Begun.{calls_of}
use Rattle.trace_lane.specs.Advances.{StaysInCall, BeganAtMost, LaneGoesOn}
use Rattle.trace_lane.specs.Paths.{IsBy, MovesLead}
use Rattle.errand_steps.specs.Steps.{State}
use Rattle.heap_geometry.specs.Need.{need_of}
use Rattle.lane_outcomes.proofs.NeedLemmas.{need-fits}
use Rattle.errand_steps.specs.declared.reply.Begun.TheVariants as begun

-- moves one after the other, and their calls and steps
pub leads-append :
    (before middle after : CoreFields) (moves more : List Move) → MovesLead before moves middle
    → MovesLead middle more after → MovesLead before (moves ++ more) after
leads-append before middle after [] more first rest = subst (λ s. MovesLead s more after) first rest
leads-append before middle after (move ∷ moves) more first rest =
    (first.0, first.1, leads-append first.0 middle after moves more first.2 rest)

pub calls-append : (caller : ℕ) (moves more : List Move) → calls_of caller (moves ++ more) ≡ calls_of caller moves ++ calls_of caller more
calls-append caller [] more = refl
calls-append caller (begins other call ∷ moves) more =
    elim (cases_Bool (eqb other caller)) [
      | inl hers ↦ rw hers (ap (λ xs. call ∷ xs) (calls-append caller moves more))
      | inr another ↦ rw another (calls-append caller moves more)
    ]
calls-append caller (steps other ∷ moves) more = calls-append caller moves more

pub calls-one : (caller : ℕ) (call : Call) → calls_of caller (begins caller call ∷ []) ≡ call ∷ []
calls-one caller call = rw (eq-eqb caller caller refl) refl

pub steps-append : (moves more : List Move) → count_by is_step (moves ++ more) ≡ count_by is_step moves + count_by is_step more
steps-append moves more = sum_by-append (λ move. if is_step move then 1 else 0) moves more

none-before : (n : ℕ) → 0 + n ≡ n
none-before n = omega arith

-- the lane stands on a machine with the calls of some moves
abbrev pub OnScriptWith : List Op → CoreFields → CoreFields → LaneState Grip → LaneState Grip → List Call → Type 0
OnScriptWith operations s t old new more = (calls : List Call) → IsLaneOn s operations old calls → IsLaneOn t operations new (calls ++ more)

-- less is left of the lane's script
abbrev pub Falls : {B : Type 0} → List Op → LaneState B → LaneState B → Type 0
Falls operations old new = script_left operations new.outcomes.items new.work < script_left operations old.outcomes.items old.work

-- the operation stays where it is
abbrev pub Stays : LaneState Grip → LaneState Grip → Type 0
Stays old new = (new.outcomes.items ≡ old.outcomes.items) × (new.work ≡ old.work)

stays-left :
    (operations : List Op) (old new : LaneState Grip) → Stays old new
    → script_left operations new.outcomes.items new.work ≡ script_left operations old.outcomes.items old.work
stays-left operations old new stays =
    ap (λ results. script_left operations results new.work) stays.0 ∙ ap (λ at. script_left operations old.outcomes.items at) stays.1

-- an advance in which nothing happens
pub advance-none : (s : CoreFields) (caller : ℕ) (operations : List Op) (p : LaneState Grip) → HasAdvanced s s caller operations p p false
advance-none s caller operations p =
    record {
      moves = [];
      leads = refl;
      by_caller = All-nil (IsBy caller);
      one_step = refl;
      script = λ calls on. subst (IsLaneOn s operations p) (sym (append-nil calls)) on;
      goes_on = inr (refl, refl, inr refl);
    }

-- the moves of an advance: a step, if it makes one, and the call that begins behind it, if one does
abbrev moves_by : ℕ → Bool → Option Call → List Move
moves_by caller false None = []
moves_by caller false (Some call) = begins caller call ∷ []
moves_by caller true None = steps caller ∷ []
moves_by caller true (Some call) = steps caller ∷ begins caller call ∷ []

abbrev StepsAtMost : ℕ → Bool → CoreFields → CoreFields → Type 0
StepsAtMost caller false old new = new ≡ old
StepsAtMost caller true old new = MovesCore old (steps caller) new

leads-by :
    (caller : ℕ) (made : Bool) (begun : Option Call) (r s t : CoreFields) → StepsAtMost caller made r s → BeganAtMost caller begun s t
    → MovesLead r (moves_by caller made begun) t
leads-by caller false None r s t stepped began = began ∙ stepped
leads-by caller false (Some call) r s t stepped began = (t, subst (λ x. MovesCore x (begins caller call) t) stepped began, refl)
leads-by caller true None r s t stepped began = (s, stepped, began)
leads-by caller true (Some call) r s t stepped began = (s, stepped, (t, began, refl))

by-caller : (caller : ℕ) (made : Bool) (begun : Option Call) → All (IsBy caller) (moves_by caller made begun)
by-caller caller false None = All-nil (IsBy caller)
by-caller caller false (Some call) = All-cons (IsBy caller) (begins caller call) [] refl (All-nil (IsBy caller))
by-caller caller true None = All-cons (IsBy caller) (steps caller) [] refl (All-nil (IsBy caller))
by-caller caller true (Some call) =
    All-cons (IsBy caller) (steps caller) (begins caller call ∷ []) refl (All-cons (IsBy caller) (begins caller call) [] refl (All-nil (IsBy caller)))

steps-by : (caller : ℕ) (made : Bool) (begun : Option Call) → count_by is_step (moves_by caller made begun) ≡ (if made then 1 else 0)
steps-by caller false None = refl
steps-by caller false (Some call) = refl
steps-by caller true None = refl
steps-by caller true (Some call) = refl

calls-by : (caller : ℕ) (made : Bool) (begun : Option Call) → calls_of caller (moves_by caller made begun) ≡ calls_in begun
calls-by caller false None = refl
calls-by caller false (Some call) = calls-one caller call
calls-by caller true None = refl
calls-by caller true (Some call) = calls-one caller call

stays-by :
    (caller : ℕ) (made : Bool) (begun : Option Call) (r t : CoreFields) → made ≡ true → IsAgain caller r.events (errand_at r.errands caller) t.events begun
    → StaysInCall caller r t (moves_by caller made begun)
stays-by caller false begun r t is again = absurd (cc)
stays-by caller true None r t is again = inl refl
stays-by caller true (Some call) r t is again =
    elim again [
      | inl none ↦ absurd (let e : Some call ≡ None = none in cc)
      | inr more ↦
          let same : call ≡ take_call more.0 = let e : Some call ≡ Some (take_call more.0) = more.1 in cc in
          inr (more.0, ap (λ (c : Call). steps caller ∷ begins caller c ∷ []) same, more.2, more.3)
    ]

-- an advance by a step or none, and a call or none behind it
advance-by :
    (caller : ℕ) (made : Bool) (begun : Option Call) (r s t : CoreFields) (operations : List Op) (old new : LaneState Grip) → StepsAtMost caller made r s
    → BeganAtMost caller begun s t → OnScriptWith operations r t old new (calls_in begun)
    → Falls operations old new ⊎ (Stays old new × (made ≡ true) × IsAgain caller r.events (errand_at r.errands caller) t.events begun)
    → HasAdvanced r t caller operations old new made
advance-by caller made begun r s t operations old new stepped began script goes = record {
  moves = moves_by caller made begun;
  leads = leads-by caller made begun r s t stepped began;
  by_caller = by-caller caller made begun;
  one_step = steps-by caller made begun;
  script = λ calls on. subst (λ more. IsLaneOn t operations new (calls ++ more)) (sym (calls-by caller made begun)) (script calls on);
  goes_on = elim goes [
    | inl falls ↦ inl falls
    | inr stays ↦ inr (stays.0.0, stays.0.1, inl (stays-by caller made begun r t stays.1 stays.2))
  ];
}

-- moves without a step are none of those that stay in a call
no-step :
    (caller : ℕ) (before after : CoreFields) (moves : List Move) → count_by is_step moves ≡ 0 → StaysInCall caller before after moves ⊎ (moves ≡ []) → moves ≡ []
no-step caller before after moves none goes =
    elim goes [
      | inl stays ↦ elim stays [
        | inl one ↦ absurd (let e : 1 ≡ 0 = sym (ap (count_by is_step) one) ∙ none in omega arith)
        | inr again ↦ absurd (let e : 1 ≡ 0 = sym (ap (count_by is_step) again.1) ∙ none in omega arith)
      ]
      | inr empty ↦ empty
    ]

-- an advance stays in its call, too, when no move is put before it
stays-on :
    (before middle after : CoreFields) (caller : ℕ) (moves more : List Move) → moves ≡ [] → MovesLead before moves middle
    → StaysInCall caller middle after more ⊎ (more ≡ [])
    → StaysInCall caller before after (moves ++ more) ⊎ (moves ++ more ≡ [])
stays-on before middle after caller moves more none leads goes =
    let same : middle ≡ before = subst (λ ms. MovesLead before ms middle) none leads in
    let whole : moves ++ more ≡ more = ap (λ ms. ms ++ more) none in
    subst (λ ms. StaysInCall caller before after ms ⊎ (ms ≡ [])) (sym whole)
    (subst (λ (s : CoreFields). StaysInCall caller s after more ⊎ (more ≡ [])) same goes)

-- an advance without a step, and then another advance
pub advance-then :
    (before middle after : CoreFields) (caller : ℕ) (operations : List Op) (old between new : LaneState Grip) (made : Bool)
    → HasAdvanced before middle caller operations old between false
    → HasAdvanced middle after caller operations between new made
    → HasAdvanced before after caller operations old new made
advance-then before middle after caller operations old between new made first second =
    let count = steps-append first.moves second.moves in
    record {
      moves = first.moves ++ second.moves;
      leads = leads-append before middle after first.moves second.moves first.leads second.leads;
      by_caller = All-append (IsBy caller) first.moves second.moves first.by_caller second.by_caller;
      one_step = count ∙ ap (λ n. n + count_by is_step second.moves) first.one_step ∙ none-before (count_by is_step second.moves) ∙ second.one_step;
      script = λ calls on.
          let later = second.script (calls ++ calls_of caller first.moves) (first.script calls on) in
          subst (IsLaneOn after operations new)
          (append_assoc calls (calls_of caller first.moves) (calls_of caller second.moves)
          ∙ ap (λ xs. calls ++ xs) (sym (calls-append caller first.moves second.moves)))
          later;
      goes_on = elim first.goes_on [
        | inl falls ↦ elim second.goes_on [
          | inl more ↦ inl (omega arith)
          | inr stays ↦ inl (let same = stays-left operations between new (stays.0, stays.1) in omega arith)
        ]
        | inr stood ↦ let same = stays-left operations old between (stood.0, stood.1) in elim second.goes_on [
          | inl more ↦ inl (omega arith)
          | inr stays ↦ inr (
            stays.0 ∙ stood.0,
            stays.1 ∙ stood.1,
            stays-on before middle after caller first.moves second.moves
                (no-step caller before middle first.moves first.one_step stood.2) first.leads stays.2,
          )
        ]
      ];
    }

-- a caller that began a call or none left all else as it was
pub record HasKept (caller : ℕ) (old new : CoreFields) : Type 0 where
  pub geometry : new.geometry ≡ old.geometry
  pub no_event : new.events ≡ old.events
  pub others : (other : ℕ) → other ≢ caller → errand_at new.errands other ≡ errand_at old.errands other

kept-same : (caller : ℕ) (c : CoreFields) → HasKept caller c c
kept-same caller c = record { geometry = refl; no_event = refl; others = λ other apart. refl }

pub calls-kept : (caller : ℕ) (begun : Option Call) (old new : CoreFields) → BeganAtMost caller begun old new → HasKept caller old new
calls-kept caller None old new same = subst (HasKept caller old) (sym same) (kept-same caller old)
calls-kept caller (Some call) old new called =
    let begun = called.moved.1 in
    record {
      geometry = called.heap;
      no_event = ap (λ (s : State). s.history) begun.after;
      others = λ other apart. ap (λ (s : State). s.errand other) begun.after ∙ begun.moves.elsewhere other apart;
    }

module _ (s t : CoreFields) (lane after : LaneState Grip) where
  -- the lane behind it stands as the caller of its own number
  as-after :
      (operations : List Op) (calls : List Call) → after.caller ≡ lane.caller → IsLaneOf (machine_at t lane.caller) operations after calls
      → IsLaneOn t operations after calls
  as-after operations calls same stands = subst (λ k. IsLaneOf (machine_at t k) operations after calls) (sym same) stands

  -- an operation begins, or has its outcome at once
  pub part-begins :
      (ready : List Event → ErrandFields → List Op → List Call → LaneState Grip → Type 0) → LaneGoesOn ready s t lane after → lane.work ≡ None
      → (seen : List Event) (e : ErrandFields) (operations : List Op) (some : List Call) → ready seen e operations some lane
      → ((calls : List Call) → IsLaneOn s operations lane calls → ready seen e operations calls lane)
      → HasAdvanced s t lane.caller operations lane after false
  part-begins ready goes between seen e operations some is all =
      let gone = goes.gone_on seen e operations some is in
      advance-by lane.caller false goes.begun s s t operations lane after refl goes.called
      (λ calls on.
      as-after operations (calls ++ calls_in goes.begun) goes.same_caller (goes.gone_on seen e operations calls (all calls on)).stands)
      (elim gone.falls [
        | inl falls ↦ inl falls
        | inr stays ↦
            let none : begun_count {B = Grip} lane.outcomes.items None ≡ length lane.outcomes.items = omega arith in
            let same : begun_count after.outcomes.items after.work ≡ length lane.outcomes.items =
            ap (λ os. begun_count os after.work) stays.0 ∙ ap (λ at. begun_count lane.outcomes.items at) (stays.1 ∙ between) ∙ none in
            let more : length lane.outcomes.items + 1 ≡ length lane.outcomes.items = sym gone.count ∙ same in absurd (omega (arith, more))
      ])

  -- a step was made, and is answered
  pub part-steps :
      (r : CoreFields) (ready : List Event → ErrandFields → List Op → List Call → LaneState Grip → Type 0) → MovesCore r (steps lane.caller) s
      → LaneGoesOn ready s t lane after → (operations : List Op) (some : List Call) → ready r.events (errand_at r.errands lane.caller) operations some lane
      → ((calls : List Call) → IsLaneOn r operations lane calls → ready r.events (errand_at r.errands lane.caller) operations calls lane)
      → HasAdvanced r t lane.caller operations lane after true
  part-steps r ready step goes operations some is all =
      let e = errand_at r.errands lane.caller in
      advance-by lane.caller true goes.begun r s t operations lane after step goes.called
      (λ calls on.
      as-after operations (calls ++ calls_in goes.begun) goes.same_caller (goes.gone_on r.events e operations calls (all calls on)).stands)
      (elim (goes.gone_on r.events e operations some is).falls [
        | inl falls ↦ inl falls
        | inr stays ↦ inr ((stays.0, stays.1), refl, stays.2)
      ])

-- over a machine after the call began
pub begins-on :
    (caller : ℕ) (call : Call) (old new : CoreFields) → MovesCore old (begins caller call) new → (seen : List Event) (e : ErrandFields)
    (operations : List Op) (calls : List Call) (lane after : LaneState Grip)
    → HasGoneOn (record (machine_at old caller) { errand = begun_by (errand_at old.errands caller) call }) seen e (Some call) operations calls lane after
    → HasGoneOn (machine_at new caller) seen e (Some call) operations calls lane after
begins-on caller call old new called seen e operations calls lane after gone =
    let to = called.moved.1 in
    let here : errand_at new.errands caller ≡ begun_by (errand_at old.errands caller) call =
    ap (λ (s : State). s.errand caller) to.after ∙ to.moves.here in
    subst (λ g. HasGoneOn (record (machine_at new caller) { geometry = g }) seen e (Some call) operations calls lane after) (sym called.heap)
    (subst
    (λ h. HasGoneOn (record (machine_at old caller) { events = h; errand = errand_at new.errands caller }) seen e (Some call) operations calls lane after)
    (sym (ap (λ (s : State). s.history) to.after))
    (subst (λ f. HasGoneOn (record (machine_at old caller) { errand = f }) seen e (Some call) operations calls lane after) (sym here) gone))

too-large : (e : ErrandFields) (n : Need) → begins_with e n ≡ begun.TooLarge → n ≡ TooLarge
too-large e (Small class) answer =
    elim (cases_Bool (is_spent e)) [
      | inl spent ↦ absurd (let a : begun.Spent ≡ begun.TooLarge = rw spent at answer in cc)
      | inr turns ↦ absurd (let a : begun.Started ≡ begun.TooLarge = rw turns at answer in cc)
    ]
too-large e (Large units) answer = absurd (cc)
too-large e TooLarge answer = refl

-- no operation of a trace asks for more words than blocks have
pub large-need : (e : ErrandFields) (call : Call) → FitsCall call → begin_answer e call ≡ begun.TooLarge → ⊥
large-need e (alloc words) most answer = need-fits words most (too-large e (need_of words) answer)
large-need e call fits answer = cc
