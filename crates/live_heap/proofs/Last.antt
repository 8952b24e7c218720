-- The last event seen is that of the last step, where it has one.
use Rattle.std.proofs.Common.{ℕ, ◌≡◌, ◌++◌, List, [], ◌∷◌, Some, refl, sym, ap, ◌∙◌, subst}
use Rattle.std.proofs.lemmas.List.{same_from_push}
use Rattle.std.proofs.lemmas.Option.{none-some}
use Rattle.heap_geometry.specs.declared.geometry.Geometry.{Geometry}
use Rattle.pool_model.specs.declared.event.Event.{Event}
use Rattle.pool_model.specs.declared.event.Event.TheVariants.{Write, Put, Take, TakeNone}
use Rattle.pool_model.specs.Calls.{Ended, EventsOf}
use Rattle.pool_model.specs.Calls as ended
use Rattle.pool_model.specs.Histories.{EndsWith, caller_of, own}
use Rattle.pool_model.proofs.HistoryLemmas.{own-append}
use Rattle.errand_steps.specs.declared.reply.Progress.{Progress}
use Rattle.errand_steps.specs.declared.reply.Progress.TheVariants as progress
use Rattle.errand_steps.specs.declared.reply.Reply.{Reply}
use Rattle.errand_steps.specs.declared.reply.Reply.TheVariants as reply
use Rattle.errand_steps.specs.Calls.{Call, write, put, take}
use Rattle.errand_steps.specs.Errands.{ErrandFields}
use Rattle.errand_steps.specs.Steps.{State, event_at, found_at, with_event}
use Rattle.errand_steps.proofs.EventLemmas.{event_own}
use Rattle.sound_laws.specs.events.Ends.{HasEnded}
use Rattle.sound_state.specs.Answers.{IsMeant}
use Rattle.step_machine.specs.Moments.{IsMoment}
use Rattle.step_machine.proofs.MomentAnswers.{moment-caller, moment-meant}
use Rattle.live_heap.specs.declared.pass.Pass.{Pass}
use Rattle.live_heap.specs.Calls.{HasCalled}
use Rattle.live_heap.specs.Contents.{tells_last}
use Rattle.live_heap.specs.Passes.{seen}
use Rattle.live_heap.proofs.Growing.{own-kept}

pub moment-last :
    (e f : ErrandFields) (before after : List Event) (answer : Progress) (m : IsMoment e f before after answer) (event : Event)
    → event_at m.state e.caller ≡ Some event → EndsWith after event
moment-last e f before after answer m event is =
    (m.state.history, sym m.now ∙ m.step.history ∙ ap (with_event m.state.history) is)

-- where a call and its reply tell the last event, the last step has an event
answer-tells :
    (g : Geometry) (s after : State) (caller by : ℕ) (call : Call) (answer : Reply) (event : Event) → tells_last by call answer ≡ Some event
    → IsMeant g s caller answer after → (told : Event) × (event_at s caller ≡ Some told)
answer-tells g s after caller by (write p n i v) reply.Wrote event is meant = (Write caller meant.0 meant.1 meant.2, meant.3.1)
answer-tells g s after caller by (put p n k) reply.Put event is meant = (Put caller meant.0 meant.1, meant.3.1)
answer-tells g s after caller by (take k) (reply.Got p n) event is meant = (Take caller meant.0 p, meant.1.1)
answer-tells g s after caller by (take k) reply.Empty event is meant = (TakeNone caller meant.0, meant.1.1)
answer-tells g s after caller by call answer event is meant = absurd (none-some event is)

-- where a call and its reply tell the last event, it is the only one of the call
answer-added :
    (caller : ℕ) (call : Call) (answer : Reply) (event : Event) (added : List Event) → tells_last caller call answer ≡ Some event
    → HasEnded caller call answer added → added ≡ event ∷ []
answer-added caller (write p n i v) reply.Wrote event added is h =
    let end : Some (ended.wrote p i v) ≡ Some h.ended.0 = h.ended.1 in
    let same : ended.wrote p i v ≡ h.ended.0 = cc in
    let told : Write caller p i v ≡ event = let t : Some (Write caller p i v) ≡ Some event = is in cc in
    subst (λ (x : Ended). EventsOf caller x added) (sym same) h.ended.2 ∙ ap (λ (x : Event). x ∷ []) told
answer-added caller (put p n k) reply.Put event added is h =
    let end : Some (ended.put_done p k) ≡ Some h.ended.0 = h.ended.1 in
    let same : ended.put_done p k ≡ h.ended.0 = cc in
    let told : Put caller p k ≡ event = let t : Some (Put caller p k) ≡ Some event = is in cc in
    subst (λ (x : Ended). EventsOf caller x added) (sym same) h.ended.2 ∙ ap (λ (x : Event). x ∷ []) told
answer-added caller (take k) (reply.Got p n) event added is h =
    let end : Some (ended.take_got k p) ≡ Some h.ended.0 = h.ended.1 in
    let same : ended.take_got k p ≡ h.ended.0 = cc in
    let told : Take caller k p ≡ event = let t : Some (Take caller k p) ≡ Some event = is in cc in
    subst (λ (x : Ended). EventsOf caller x added) (sym same) h.ended.2 ∙ ap (λ (x : Event). x ∷ []) told
answer-added caller (take k) reply.Empty event added is h =
    let end : Some (ended.take_empty k) ≡ Some h.ended.0 = h.ended.1 in
    let same : ended.take_empty k ≡ h.ended.0 = cc in
    let told : TakeNone caller k ≡ event = let t : Some (TakeNone caller k) ≡ Some event = is in cc in
    subst (λ (x : Ended). EventsOf caller x added) (sym same) h.ended.2 ∙ ap (λ (x : Event). x ∷ []) told
answer-added caller call answer event added is h = absurd (none-some event is)

pub called-last :
    (p q : Pass) (call : Call) (steps : ℕ) (answer : Reply) (event : Event) → HasCalled p call steps answer q
    → tells_last p.errand.caller call answer ≡ Some event → EndsWith (seen q) event
called-last p q call steps answer event called is =
    let caller = p.errand.caller in
    let e = called.last in
    let m = called.moment in
    let meant = moment-meant e q.errand called.sight (seen q) (progress.Done answer) m answer refl in
    let tells = answer-tells e.geometry m.state m.next e.caller caller call answer event is meant in
    let told = tells.0 in
    let ends = moment-last e q.errand called.sight (seen q) (progress.Done answer) m told tells.1 in
    let same_caller : e.caller ≡ caller = sym (moment-caller e q.errand called.sight (seen q) (progress.Done answer) m) ∙ called.caller in
    let hers : caller_of told ≡ caller =
    event_own e.caller (m.state.errand e.caller).point (found_at m.state e.caller) told tells.1 ∙ same_caller in
    let own_last : own caller (told ∷ []) ≡ told ∷ [] = subst (λ c. own c (told ∷ []) ≡ told ∷ []) hers (own-kept told) in
    let grown : own caller ends.0 ++ told ∷ [] ≡ own caller (seen p) ++ event ∷ [] =
    ap (λ (l : List Event). own caller ends.0 ++ l) (sym own_last) ∙ sym (own-append caller ends.0 (told ∷ [])) ∙ sym (ap (own caller) ends.1)
    ∙ called.events ∙ ap (λ (l : List Event). own caller (seen p) ++ l) (answer-added caller call answer event called.added is called.ended) in
    subst (EndsWith (seen q)) (same_from_push (own caller ends.0) (own caller (seen p)) told event grown).1 ends
