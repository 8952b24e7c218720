-- What the code of a step makes is the step.
use Rattle.std.proofs.Common.{ℕ, ◌≡◌, ◌≢◌, ◌<◌, refl, arith, ap, sym, ◌∙◌, subst, List, Option, length, slice_index_or, slice_set, Bool, true, false}
use Rattle.heap_geometry.specs.declared.geometry.Geometry.{Geometry}
use Rattle.word_table.specs.declared.action.Action.{Action}
use Rattle.word_table.specs.declared.action.Found.{Found}
use Rattle.word_table.specs.declared.name.WordName.{WordName}
use Rattle.word_table.specs.Actions.{name_of, after_action, found_by}
use Rattle.word_table.specs.Table.{Exists, word_index}
use Rattle.word_table.specs.Words.{word_in}
use Rattle.word_table.proofs.TableLemmas.{word_index-within}
use Rattle.pool_model.specs.declared.event.Event.{Event}
use Rattle.errand_steps.specs.declared.next.Next.{Next}
use Rattle.errand_steps.specs.declared.next.Next.TheVariants.{At, End, Turn, Retire, Pick, Unlist}
use Rattle.errand_steps.specs.declared.reply.Progress.{Progress}
use Rattle.errand_steps.specs.declared.reply.Progress.TheVariants as progress
use Rattle.errand_steps.specs.Begins.{IsBusy}
use Rattle.errand_steps.specs.Errands.{ErrandFields, one_more, plan_of, settle_of, course_of, answer_of, going_on, told}
use Rattle.errand_steps.specs.Events.{event_of}
use Rattle.sound_state.specs.Sound.{IsOwnErrand}
use Rattle.step_machine.specs.declared.machine.NextStep.{NextStep}
use Rattle.step_machine.specs.Cores.{CoreFields, IsCore, errand_at, state_of}
use Rattle.errand_steps.specs.Steps.{name_at, action_at, word_at, found_at, with_event, Step}
use Rattle.step_machine.specs.Steps.{stepped, IsNext, IsStepped}
use Rattle.step_machine.proofs.CoreLemmas.{errand-own, errand-read}
use Rattle.step_machine.proofs.StepLemmas.{core-stepped, step-stepped}

-- a step answers something else than that there was none
going-on-busy : (lost cleared : Bool) → going_on lost cleared ≢ progress.Idle
going-on-busy true cleared e = absurd cc
going-on-busy false true e = absurd cc
going-on-busy false false e = absurd cc

told-busy : (next : Next) (lost cleared : Bool) → told next lost cleared ≢ progress.Idle
told-busy (At p) lost cleared e = going-on-busy lost cleared e
told-busy (End r) lost cleared e = absurd cc
told-busy (Turn s need) lost cleared e = going-on-busy lost cleared e
told-busy (Retire s d o) lost cleared e = going-on-busy lost cleared e
told-busy (Pick s held o) lost cleared e = going-on-busy lost cleared e
told-busy (Unlist s d o) lost cleared e = going-on-busy lost cleared e

answer-busy : (e : ErrandFields) (x : Found) → answer_of e x ≢ progress.Idle
unfolding answer_of
answer-busy e x = told-busy (course_of e x) _ _

-- what the code computes of the errand that it read is what the next step will do
pub next-made :
    (c value : CoreFields) (caller : ℕ) (x : ErrandFields) (action : Action) (name : WordName) (index word : ℕ) (found : Found)
    (event : Option Event) → IsCore c → c ≡ value → caller < value.geometry.callers
    → x ≡ slice_index_or c.errands caller x → action ≡ plan_of x → Exists x.geometry (name_of action) → name ≡ name_of action
    → index ≡ word_index c.geometry name → word ≡ after_action action (word_in value.geometry value.words name)
    → found ≡ found_by action (word_in value.geometry value.words name)
    → event ≡ event_of x.caller x.point found
    → IsNext value caller (record { action = action; index = index; word = word; found = found; event = event })
next-made c value caller x action name index word found event core view below read is_action is is_name is_index is_word is_found is_event =
    let here : x ≡ errand_at value.errands caller = errand-read c value caller x core view below read in
    let own : IsOwnErrand c.geometry caller x = errand-own c value caller x core view below read in
    let geometry : x.geometry ≡ value.geometry = own.geometry ∙ ap (λ (v : CoreFields). v.geometry) view in
    let action_here : action ≡ action_at (state_of value) caller = is_action ∙ ap plan_of here in
    let name_here : name ≡ name_at (state_of value) caller = is_name ∙ ap name_of action_here in
    let w : WordName → ℕ = word_in value.geometry value.words in
    let found_here : found ≡ found_at (state_of value) caller =
    is_found ∙ (ap (λ n. found_by action (w n)) name_here ∙ ap (λ a. found_by a (word_at (state_of value) caller)) action_here) in
    let G : Geometry → Type 0 = λ g. Exists g (name_of action) in
    let A : Action → Type 0 = λ a. Exists value.geometry (name_of a) in
    record {
      there = subst A action_here (subst G geometry is);
      action = action_here;
      index = is_index ∙ (ap (λ (v : CoreFields). word_index v.geometry name) view ∙ ap (word_index value.geometry) name_here);
      word = is_word ∙ (ap (λ n. after_action action (w n)) name_here ∙ ap (λ a. after_action a (word_at (state_of value) caller)) action_here);
      found = found_here;
      event =
          is_event
          ∙ (ap (λ k. event_of k x.point found) own.number
          ∙ (ap (λ (z : ErrandFields). event_of caller z.point found) here ∙ ap (event_of caller (errand_at value.errands caller).point) found_here));
    }

-- the parts that a step makes, one after the other, are those of the machine after it
made-stepped :
    (c : CoreFields) (caller : ℕ) (n : NextStep) (x e : ErrandFields) (events : List Event) (steps : ℕ) → IsNext c caller n
    → x ≡ errand_at c.errands caller → e ≡ settle_of x n.found → events ≡ with_event c.events n.event → steps ≡ one_more c.steps
    → ◌≡◌ {A = CoreFields} (record {
      geometry = c.geometry;
      words = slice_set c.words n.index n.word;
      errands = slice_set c.errands caller e;
      events = events;
      steps = steps;
    }) (stepped c caller)
unfolding stepped
made-stepped c caller n x e events steps next here is_errand are_events are_steps =
    rw (are_steps, are_events, is_errand, here, next.index, next.word, next.found, next.event) refl

-- a step made on the lists keeps the machine's rule, and is the machine's step
pub record IsKeptStep (c : CoreFields) (caller : ℕ) (answer : Progress) (after : CoreFields) : Type 0 where
  pub core : IsCore after
  pub is : IsStepped c caller answer after

pub step-made :
    (c value : CoreFields) (caller : ℕ) (n : NextStep) (x e : ErrandFields) (answer : Progress) (events : List Event) (steps : ℕ) → IsCore c
    → c ≡ value → caller < value.geometry.callers → IsBusy (errand_at value.errands caller) → IsNext value caller n
    → x ≡ slice_index_or c.errands caller x → e ≡ settle_of x n.found → answer ≡ answer_of x n.found → events ≡ with_event c.events n.event
    → steps ≡ one_more c.steps
    → IsKeptStep value caller answer (record {
      geometry = c.geometry;
      words = slice_set c.words n.index n.word;
      errands = slice_set c.errands caller e;
      events = events;
      steps = steps;
    })
step-made c value caller n x e answer events steps core view below busy next read is_errand is_answer are_events are_steps =
    let N : CoreFields → Type 0 = λ v. IsNext v caller n in
    let B : CoreFields → Type 0 = λ v. IsBusy (errand_at v.errands caller) in
    let L : CoreFields → Type 0 = λ v. caller < v.geometry.callers in
    let next' : IsNext c caller n = subst N (sym view) next in
    let below' : caller < c.geometry.callers = subst L (sym view) below in
    let here : x ≡ errand_at c.errands caller = errand-read c c caller x core refl below' read in
    let after : CoreFields = record {
      geometry = c.geometry;
      words = slice_set c.words n.index n.word;
      errands = slice_set c.errands caller e;
      events = events;
      steps = steps;
    } in
    let exact : after ≡ stepped c caller = made-stepped c caller n x e events steps next' here is_errand are_events are_steps in
    let K : CoreFields → Type 0 = IsCore in
    let S : CoreFields → Type 0 = λ v. Step (state_of c) caller (state_of v) in
    let answers : answer ≡ answer_of (errand_at c.errands caller) (found_at (state_of c) caller) =
    is_answer ∙ (ap (λ z. answer_of z n.found) here ∙ ap (answer_of (errand_at c.errands caller)) next'.found) in
    let T : CoreFields → Type 0 = λ v. IsKeptStep v caller answer after in
    subst T view
    (record {
      core = subst K (sym exact) (core-stepped c caller core below' (subst B (sym view) busy) next'.there);
      is = record {
        step = subst S (sym exact) (step-stepped c caller core below' (subst B (sym view) busy) next'.there);
        exact = exact;
        answers = answers;
        some = λ idle. answer-busy (errand_at c.errands caller) (found_at (state_of c) caller) (sym answers ∙ idle);
      };
    })

-- the word of a next step is in the table
pub next-within :
    (c value : CoreFields) (caller : ℕ) (n : NextStep) → IsCore c → c ≡ value → IsNext value caller n → n.index < length c.words
next-within c value caller n core view next =
    let N : CoreFields → Type 0 = λ v. IsNext v caller n in
    let next' : IsNext c caller n = subst N (sym view) next in
    omega (arith, core.words, next'.index, word_index-within c.geometry (name_at (state_of c) caller) next'.there)
