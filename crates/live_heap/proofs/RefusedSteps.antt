-- Which steps of a call have told its events, and why an allocation is refused.
use Rattle.std.proofs.Common.{ℕ, zero, suc, ◌≡◌, List, [], ◌∷◌, ◌++◌, Option, Some, None, All, refl, sym, ap, ◌∙◌, subst, append_assoc, append-nil, arith}
use Rattle.std.specs.Prelude.{option_to_list}
use Rattle.std.proofs.lemmas.Bool.{true≢false}
use Rattle.std.proofs.lemmas.List.Elements.{All-append}
use Rattle.heap_geometry.specs.declared.geometry.Geometry.{Geometry}
use Rattle.heap_geometry.specs.declared.need.Need.{Need}
use Rattle.heap_geometry.specs.declared.need.Need.TheVariants.{Small, Large}
use Rattle.heap_geometry.specs.Need.{need_of}
use Rattle.packed_words.specs.Head.{head_of}
use Rattle.word_table.specs.declared.name.WordName.{WordName}
use Rattle.word_table.specs.declared.name.WordName.TheVariants.{FrameHead, ListHead}
use Rattle.word_table.specs.Actions.{name_of}
use Rattle.pool_model.specs.declared.event.Event.{Event}
use Rattle.pool_model.specs.declared.event.Event.TheVariants.{Looked, Refuse}
use Rattle.pool_model.specs.Calls.{EventsOf, IsRefusing, alloc_refused, looks}
use Rattle.pool_model.specs.Histories.{own}
use Rattle.pool_model.specs.Legal.{IsFreeRun, IsLegal, IsLegalEvent, IsRefusable}
use Rattle.pool_model.specs.Pool.{pool_of}
use Rattle.pool_model.proofs.HistoryLemmas.{EachAfter-last, own-append}
use Rattle.errand_steps.specs.declared.reply.Progress.{Progress}
use Rattle.errand_steps.specs.declared.reply.Progress.TheVariants.{Done}
use Rattle.errand_steps.specs.declared.reply.Reply.{Reply}
use Rattle.errand_steps.specs.declared.reply.Reply.TheVariants as reply
use Rattle.errand_steps.specs.Begins.{IsBusy, IsIdle}
use Rattle.errand_steps.specs.Calls.{Call, alloc, begun_by}
use Rattle.errand_steps.specs.Errands.{ErrandFields, plan_of}
use Rattle.errand_steps.specs.Fits.{FitsPoint}
use Rattle.errand_steps.specs.Steps.{State, event_at, found_at, with_event}
use Rattle.errand_steps.proofs.EventLemmas.{event_own}
use Rattle.step_machine.specs.Moments.{IsMoment}
use Rattle.step_machine.proofs.MomentAnswers.{moment-caller, moment-geometry, moment-settles, moment-sound, settle-geometry}
use Rattle.live_heap.specs.declared.pass.Pass.{Pass}
use Rattle.live_heap.specs.Calls.{HasCalled, StepsOn}
use Rattle.live_heap.specs.Passes.{seen}
use Rattle.live_heap.specs.Refusals.{HasFoundEmpty, HasFoundNoFrame, HasFoundNoRun}
use Rattle.live_heap.specs.SeenSteps.{SeenStep, steps_of, steps_on}
use Rattle.live_heap.proofs.Growing.{IsBy, own-kept, own-more}
use Rattle.live_heap.proofs.LawsKept.{same-rest}
use Rattle.live_heap.proofs.Moves.{begun-caller, begun-geometry}
use Rattle.live_heap.proofs.RefusedPoints.{refusal-idle, step-finds}

-- the event that a step told, if any; and those of several, one after the other
abbrev event_told : SeenStep → Option Event
event_told s = event_at s.moment.state s.before.caller

abbrev told : List SeenStep → List Event
told [] = []
told (s ∷ ss) = option_to_list (event_told s) ++ told ss

told-more : (ss : List SeenStep) (s : SeenStep) → told (ss ++ s ∷ []) ≡ told ss ++ option_to_list (event_told s)
told-more [] s = append-nil (option_to_list (event_told s))
told-more (x ∷ xs) s =
    let e : List Event = option_to_list (event_told x) in
    ap (λ (l : List Event). e ++ l) (told-more xs s) ∙ sym (append_assoc e (told xs) (option_to_list (event_told s)))

-- a step that has told an event, with those before it and those behind it, which have told the rest
record HasTold (ss : List SeenStep) (e : Event) (es : List Event) : Type 0 where
  pub front : List SeenStep
  pub one : SeenStep
  pub rest : List SeenStep
  pub among : ss ≡ front ++ one ∷ rest
  pub tells : event_told one ≡ Some e
  pub later : told rest ≡ es

told-first : (ss : List SeenStep) (e : Event) (es : List Event) → told ss ≡ e ∷ es → HasTold ss e es
told-first [] e es is = absurd (let t : [] ≡ e ∷ es = is in cc)
told-first (s ∷ ss) e es is = from (λ all. told-first ss e es all) (event_told s) refl is
  where
    from :
        (told ss ≡ e ∷ es → HasTold ss e es) → (event : Option Event) → event_told s ≡ event → option_to_list event ++ told ss ≡ e ∷ es
        → HasTold (s ∷ ss) e es
    from further None none all =
        let t = further all in
        record { front = s ∷ t.front; one = t.one; rest = t.rest; among = ap (λ (l : List SeenStep). s ∷ l) t.among; tells = t.tells; later = t.later }
    from further (Some x) here all =
        let whole : x ∷ told ss ≡ e ∷ es = all in
        let same : x ≡ e = cc in
        let others : told ss ≡ es = cc in
        record { front = []; one = s; rest = ss; among = refl; tells = here ∙ ap Some same; later = others }

-- one of the steps has told an event that stands behind others among those told
told-behind : (ss : List SeenStep) (before : List Event) (e : Event) (es : List Event) → told ss ≡ before ++ e ∷ es → HasTold ss e es
told-behind ss [] e es is = told-first ss e es is
told-behind ss (x ∷ xs) e es is =
    let t = told-first ss x (xs ++ e ∷ es) is in
    let u = told-behind t.rest xs e es t.later in
    record {
      front = t.front ++ t.one ∷ u.front;
      one = u.one;
      rest = u.rest;
      among =
          t.among ∙ (ap (λ (l : List SeenStep). t.front ++ t.one ∷ l) u.among ∙ sym (append_assoc t.front (t.one ∷ u.front) (u.one ∷ u.rest)));
      tells = u.tells;
      later = u.later;
    }

-- a step's event is its caller's
moment-by : (s : State) (caller : ℕ) → IsBy caller (event_at s caller)
moment-by s caller = λ event is. event_own caller (s.errand caller).point (found_at s caller) event is

own-with : (caller : ℕ) (events : List Event) (event : Option Event) → IsBy caller event → own caller (with_event events event) ≡ own caller events ++ option_to_list event
own-with caller events None by = sym (append-nil (own caller events))
own-with caller events (Some e) by =
    own-append caller events (e ∷ [])
    ∙ ap (λ (l : List Event). own caller events ++ l) (subst (λ c. own c (e ∷ []) ≡ e ∷ []) (by e refl) (own-kept e))

-- behind a step its caller has one event more, where the step tells one
moment-own :
    (e f : ErrandFields) (before after : List Event) (answer : Progress) (m : IsMoment e f before after answer)
    → own e.caller after ≡ own e.caller before ++ option_to_list (event_at m.state e.caller)
moment-own e f before after answer m =
    let event = event_at m.state e.caller in
    ap (own e.caller) (sym m.now ∙ m.step.history)
    ∙ (own-with e.caller m.state.history event (moment-by m.state e.caller)
    ∙ ap (λ (l : List Event). l ++ option_to_list event) (ap (own e.caller) m.seen ∙ own-more e.caller before m.between m.not_own))

-- steps leave the caller's number and its heap
steps-caller : (n : ℕ) (e : ErrandFields) (before : List Event) (f : ErrandFields) (after : List Event) → StepsOn e before n f after → f.caller ≡ e.caller
steps-caller zero e before f after on = ap (λ (x : ErrandFields). x.caller) on.0
steps-caller (suc n) e before f after on =
    moment-caller on.0 f on.1 after on.2 on.4 ∙ steps-caller n e before on.0 on.1 on.3

steps-geometry : (n : ℕ) (e : ErrandFields) (before : List Event) (f : ErrandFields) (after : List Event) → StepsOn e before n f after → f.geometry ≡ e.geometry
steps-geometry zero e before f after on = ap (λ (x : ErrandFields). x.geometry) on.0
steps-geometry (suc n) e before f after on =
    moment-geometry on.0 f on.1 after on.2 on.4 ∙ steps-geometry n e before on.0 on.1 on.3

-- a step of the errand's caller, in the errand's heap; all steps from the errand on are such
abbrev IsBySame : ErrandFields → SeenStep → Type 0
IsBySame e s = (s.before.caller ≡ e.caller) × (s.before.geometry ≡ e.geometry)

one-all : {X : Type 0} (P : X → Type 0) (x : X) → P x → All P (x ∷ [])
one-all P x is zero d l = is
one-all P x is (suc k) d l = absurd (omega arith)

none-all : {X : Type 0} (P : X → Type 0) → All P []
none-all P k d l = absurd (omega arith)

all-at : {X : Type 0} (P : X → Type 0) (xs : List X) (x : X) (ys : List X) → All P (xs ++ x ∷ ys) → P x
all-at P [] x ys h = h 0 x (omega arith)
all-at P (y ∷ xs) x ys h = all-at P xs x ys (λ j d l. h (suc j) d (omega arith))

steps-by : (n : ℕ) (e : ErrandFields) (before : List Event) (f : ErrandFields) (after : List Event) (on : StepsOn e before n f after) → All (IsBySame e) (steps_on e before n f after on)
steps-by zero e before f after on = none-all (IsBySame e)
steps-by (suc n) e before f after (last, sight, answer, on, moment, busy) =
    All-append (IsBySame e) (steps_on e before n last sight on) _ (steps-by n e before last sight on)
    (one-all (IsBySame e) _ (steps-caller n e before last sight on, steps-geometry n e before last sight on))

-- the call goes on behind the step; it does behind all steps that didn't end it
abbrev GoesOnBehind : SeenStep → Type 0
GoesOnBehind s = IsBusy s.after

steps-busy : (n : ℕ) (e : ErrandFields) (before : List Event) (f : ErrandFields) (after : List Event) (on : StepsOn e before n f after) → All GoesOnBehind (steps_on e before n f after on)
steps-busy zero e before f after on = none-all GoesOnBehind
steps-busy (suc n) e before f after (last, sight, answer, on, moment, busy) =
    All-append GoesOnBehind (steps_on e before n last sight on) _ (steps-busy n e before last sight on) (one-all GoesOnBehind _ busy)

-- the events that a caller adds in its steps are those that these tell
steps-told :
    (n : ℕ) (e : ErrandFields) (before : List Event) (f : ErrandFields) (after : List Event) (on : StepsOn e before n f after)
    → own e.caller after ≡ own e.caller before ++ told (steps_on e before n f after on)
steps-told zero e before f after on = ap (own e.caller) on.1 ∙ sym (append-nil (own e.caller before))
steps-told (suc n) e before f after (last, sight, answer, on, moment, busy) =
    let event : List Event = option_to_list (event_at moment.state last.caller) in
    let ss = steps_on e before n last sight on in
    let mine : own e.caller after ≡ own e.caller sight ++ event =
    subst (λ c. own c after ≡ own c sight ++ event) (steps-caller n e before last sight on) (moment-own last f sight after answer moment) in
    mine
    ∙ (ap (λ (l : List Event). l ++ event) (steps-told n e before last sight on)
    ∙ (append_assoc (own e.caller before) (told ss) event
    ∙ ap (λ (l : List Event). own e.caller before ++ l) (sym (told-more ss _))))

-- the steps of a call that has ended are its caller's, and tell its events
module _ (first q : Pass) (call : Call) (steps : ℕ) (answer : Reply) (h : HasCalled first call steps answer q) where
  abbrev begun : ErrandFields
  begun = begun_by first.errand call

  abbrev all : List SeenStep
  all = steps_of first call steps answer q h

  abbrev earlier : List SeenStep
  earlier = steps_on begun (seen first) steps h.last h.sight h.on

  abbrev last-event : Option Event
  last-event = event_at h.moment.state h.last.caller

  last-caller : h.last.caller ≡ first.errand.caller
  last-caller = steps-caller steps begun (seen first) h.last h.sight h.on ∙ begun-caller first.errand call

  called-by : All (IsBySame first.errand) all
  called-by =
      let same : All (IsBySame begun) all =
      All-append (IsBySame begun) earlier _ (steps-by steps begun (seen first) h.last h.sight h.on)
      (one-all (IsBySame begun) _ (steps-caller steps begun (seen first) h.last h.sight h.on, steps-geometry steps begun (seen first) h.last h.sight h.on)) in
      λ k d l. let t = same k d l in (t.0 ∙ begun-caller first.errand call, t.1 ∙ begun-geometry first.errand call)

  called-told : told earlier ++ option_to_list last-event ≡ h.added
  called-told =
      let c = first.errand.caller in
      let last : List Event = option_to_list last-event in
      let front : own c h.sight ≡ own c (seen first) ++ told earlier =
      subst (λ k. own k h.sight ≡ own k (seen first) ++ told earlier) (begun-caller first.errand call)
      (steps-told steps begun (seen first) h.last h.sight h.on) in
      let mine : own c (seen q) ≡ own c h.sight ++ last =
      subst (λ k. own k (seen q) ≡ own k h.sight ++ last) last-caller (moment-own h.last q.errand h.sight (seen q) (Done answer) h.moment) in
      let whole : own c (seen q) ≡ own c (seen first) ++ (told earlier ++ last) =
      mine ∙ (ap (λ (l : List Event). l ++ last) front ∙ append_assoc (own c (seen first)) (told earlier) last) in
      same-rest (own c (seen first)) (told earlier ++ last) h.added (sym whole ∙ h.events)

  all-told : told all ≡ h.added
  all-told = told-more earlier _ ∙ called-told

-- the point at which a caller stands fits
moment-fits :
    (e f : ErrandFields) (before after : List Event) (answer : Progress) (m : IsMoment e f before after answer)
    → FitsPoint (m.state.errand e.caller).geometry (m.state.errand e.caller).caller (m.state.errand e.caller).point
moment-fits e f before after answer m = (m.sound.parts.1.formed.errands e.caller m.has).rule.point

-- what a step has found that told a look, or the refusal of a small need
module _ (first : Pass) (s : SeenStep) (by : IsBySame first.errand s) where
  found-empty :
      (head : WordName) (event : Event) → event_told s ≡ Some event
      → (name_of (plan_of (s.moment.state.errand s.before.caller)) ≡ head)
      × ((head_of (s.moment.state.word (name_of (plan_of (s.moment.state.errand s.before.caller))))).top ≡ 0) → HasFoundEmpty first s head event
  found-empty head event tells finds = record {
    caller = by.0;
    heap = by.1;
    on = ap (λ (x : ErrandFields). name_of (plan_of x)) (sym s.moment.here) ∙ finds.0;
    empty = subst (λ (n : WordName). (head_of (s.moment.state.word n)).top ≡ 0) finds.0 finds.1;
    tells = tells;
  }

  looked-empty : (caller class : ℕ) → event_told s ≡ Some (Looked caller class) → HasFoundEmpty first s (ListHead class) (Looked caller class)
  looked-empty caller class tells =
      found-empty (ListHead class) (Looked caller class) tells
      (step-finds _ s.moment.state _ s.before.caller (Looked caller class)
      (moment-fits s.before s.after s.seen_before s.seen_after s.answer s.moment) tells)

  refused-empty :
      (caller words class : ℕ) → need_of words ≡ Small class → event_told s ≡ Some (Refuse caller words)
      → HasFoundEmpty first s FrameHead (Refuse caller words)
  refused-empty caller words class small tells =
      found-empty FrameHead (Refuse caller words) tells
      (step-finds _ s.moment.state _ s.before.caller (Refuse caller words)
      (moment-fits s.before s.after s.seen_before s.seen_after s.answer s.moment) tells class small)

-- the events of an allocation that is refused
refused-events :
    (first q : Pass) (words steps : ℕ) (h : HasCalled first (alloc words) steps reply.Refused q)
    → IsRefusing first.errand.caller words (need_of words) h.added
refused-events first q words steps h =
    let is : Some (alloc_refused words) ≡ Some h.ended.ended.0 = h.ended.ended.1 in
    let end : alloc_refused words ≡ h.ended.ended.0 = cc in
    subst (λ x. EventsOf first.errand.caller x h.added) (sym end) h.ended.ended.2

-- a small need is refused where a step found no partial superblock, and a later one no frame
pub small-refused :
    (first q : Pass) (words class steps : ℕ) → need_of words ≡ Small class → (called : HasCalled first (alloc words) steps reply.Refused q)
    → HasFoundNoFrame first words class (steps_of first (alloc words) steps reply.Refused q called)
small-refused first q words class steps small h =
    let c = first.errand.caller in
    let refusing = subst (λ (n : Need). IsRefusing c words n h.added) small (refused-events first q words steps h) in
    let ss = steps_of first (alloc words) steps reply.Refused q h in
    let by = called-by first q (alloc words) steps reply.Refused h in
    let look = told-first ss (Looked c class) (looks c class refusing.0 ++ Refuse c words ∷ []) (all-told first q (alloc words) steps reply.Refused h ∙ refusing.1) in
    let refuse = told-behind look.rest (looks c class refusing.0) (Refuse c words) [] look.later in
    let among : ss ≡ look.front ++ look.one ∷ (refuse.front ++ refuse.one ∷ refuse.rest) =
    look.among ∙ ap (λ (l : List SeenStep). look.front ++ look.one ∷ l) refuse.among in
    let whole : ss ≡ (look.front ++ look.one ∷ refuse.front) ++ refuse.one ∷ refuse.rest =
    among ∙ sym (append_assoc look.front (look.one ∷ refuse.front) (refuse.one ∷ refuse.rest)) in
    record {
      looking = look.one;
      refusing = refuse.one;
      front = look.front;
      between = refuse.front;
      rest = refuse.rest;
      among = among;
      looked =
          looked-empty first look.one
          (all-at (IsBySame first.errand) look.front look.one look.rest (subst (All (IsBySame first.errand)) look.among by)) c class look.tells;
      refused =
          refused-empty first refuse.one
          (all-at (IsBySame first.errand) (look.front ++ look.one ∷ refuse.front) refuse.one refuse.rest (subst (All (IsBySame first.errand)) whole by))
          c words class small refuse.tells;
    }

-- no step that refuses a large need leaves its call under way
busy-never :
    (s : SeenStep) (caller words units : ℕ) → need_of words ≡ Large units → event_told s ≡ Some (Refuse caller words) → IsBusy s.after → ⊥
busy-never s caller words units large tells busy =
    let m = s.moment in
    let fits = moment-fits s.before s.after s.seen_before s.seen_after s.answer m in
    let idle = refusal-idle _ m.state _ s.before.caller caller words units fits large tells in
    let now : IsIdle s.after = subst IsIdle (sym m.step.errand.here ∙ m.there) idle in
    true≢false (sym now ∙ busy)

one-of : (event : Option Event) (e : Event) → option_to_list event ≡ e ∷ [] → event ≡ Some e
one-of None e is = absurd (let t : [] ≡ e ∷ [] = is in cc)
one-of (Some x) e is = let t : x ∷ [] ≡ e ∷ [] = is in let same : x ≡ e = cc in ap Some same

-- the refusal of a large need is the event of the last step
last-refuses :
    (ss : List SeenStep) (before : List Event) (event : Option Event) (caller words units : ℕ) → need_of words ≡ Large units → told ss ≡ before
    → before ++ option_to_list event ≡ Refuse caller words ∷ [] → All GoesOnBehind ss → event ≡ Some (Refuse caller words)
last-refuses ss [] event caller words units large tells is busy = one-of event (Refuse caller words) is
last-refuses ss (x ∷ xs) event caller words units large tells is busy =
    let all : x ∷ (xs ++ option_to_list event) ≡ Refuse caller words ∷ [] = is in
    let same : x ≡ Refuse caller words = cc in
    let t = told-first ss x xs tells in
    absurd (busy-never t.one caller words units large (t.tells ∙ ap Some same)
    (all-at GoesOnBehind t.front t.one t.rest (subst (All GoesOnBehind) t.among busy)))

-- a large need is refused where the last step found no run of so many units
pub large-refused :
    (first q : Pass) (words units steps : ℕ) → need_of words ≡ Large units → HasCalled first (alloc words) steps reply.Refused q
    → HasFoundNoRun first words units q
large-refused first q words units steps large h =
    let c = first.errand.caller in
    let m = h.moment in
    let only : h.added ≡ Refuse c words ∷ [] = subst (λ (n : Need). IsRefusing c words n h.added) large (refused-events first q words steps h) in
    let begun = begun_by first.errand (alloc words) in
    let earlier = steps_on begun (seen first) steps h.last h.sight h.on in
    let event : event_at m.state h.last.caller ≡ Some (Refuse c words) =
    last-refuses earlier (told earlier) (event_at m.state h.last.caller) c words units large refl
    (called-told first q (alloc words) steps reply.Refused h ∙ only) (steps-busy steps begun (seen first) h.last h.sight h.on) in
    let now : m.next.history ≡ m.state.history ++ Refuse c words ∷ [] = m.step.history ∙ ap (with_event m.state.history) event in
    let g = h.last.geometry in
    let legal : IsLegal g (m.state.history ++ Refuse c words ∷ []) =
    subst (IsLegal g) now (moment-sound h.last q.errand h.sight (seen q) (Done reply.Refused) m).legal in
    let refusable : IsRefusable g m.state.history c (need_of words) = (EachAfter-last (IsLegalEvent g) m.state.history (Refuse c words) legal).0.1 in
    let none : (place : ℕ) → ¬ IsFreeRun g (pool_of m.state.history) units place = subst (IsRefusable g m.state.history c) large refusable in
    let laid : q.errand.geometry ≡ g =
    ap (λ (x : ErrandFields). x.geometry) (moment-settles h.last q.errand h.sight (seen q) (Done reply.Refused) m)
    ∙ settle-geometry h.last (found_at m.state h.last.caller) in
    record {
      history = m.state.history;
      told = sym m.now ∙ now;
      none = subst (λ (k : Geometry). (place : ℕ) → ¬ IsFreeRun k (pool_of m.state.history) units place) (sym laid) none;
    }
