-- A pass as a caller: its whole calls are those of a caller, with all that is proved of these.
use Rattle.std.proofs.Common.{ℕ, zero, suc, ◌≡◌, ◌∷◌, ◌++◌, List, [], refl, sym, ap, ◌∙◌, subst, arith, append-nil, eq-eqb, if◌then◌else◌}
use Rattle.std.proofs.lemmas.List.{append_cancel_left}
use Rattle.heap_geometry.specs.declared.need.Need.{Need}
use Rattle.pool_model.specs.declared.event.Event.{Event}
use Rattle.pool_model.specs.declared.event.Event.TheVariants.{Free}
use Rattle.pool_model.specs.Calls as ended
use Rattle.pool_model.specs.Histories.{own}
use Rattle.errand_steps.specs.declared.reply.Begun.TheVariants as begun
use Rattle.errand_steps.specs.declared.reply.Progress.TheVariants as progress
use Rattle.errand_steps.specs.declared.reply.Reply.{Reply}
use Rattle.errand_steps.specs.declared.reply.Reply.TheVariants as reply
use Rattle.errand_steps.specs.Begins.{alloc_answer, begins_with, free_begun}
use Rattle.errand_steps.specs.Calls.{Call, alloc, begun_by, free, put, read, take, write}
use Rattle.errand_steps.specs.Errands.{ErrandFields}
use Rattle.errand_steps.specs.Events.{event_of}
use Rattle.errand_steps.specs.Steps.{with_event}
use Rattle.sound_laws.specs.events.Made.{LeadsBy}
use Rattle.live_heap.specs.declared.block.Block.{Block}
use Rattle.live_heap.specs.Heaps.{HeapFields}
use Rattle.live_heap.specs.declared.pass.Pass.{Pass}
use Rattle.live_heap.specs.Answers.{IsSpentAtOnce}
use Rattle.live_heap.specs.Calls.{StepsOn}
use Rattle.live_heap.specs.Passes.{seen}
use Rattle.live_heap.specs.Whole.{IsAtRest, MadeByPass, OwnsFor, at_once, by_steps}
use Rattle.lane_engine.specs.Caches.{HasEndedAt, frees_of}
use Rattle.lane_engine.specs.Callers as callers
use Rattle.lane_engine.specs.Callers.{Caller, IsCall, MadeBy}
use Rattle.trace_lane.proofs.AddedLemmas.{HasAdded, added-none, added-then, ended-as}
use Rattle.trace_lane.proofs.AnswerLemmas.{HasMovedOn, moved-on, settled-of}
use Rattle.trace_lane.proofs.CallerLemmas.{moved-none, moved-then}
use Rattle.lane_runner.proofs.Places.{freed_of}

-- a caller with this errand that has seen these events, and the one that a pass stands for
abbrev pub standing : ErrandFields → List Event → Caller
standing e events = record { errand = e; seen = events }

abbrev pub caller_at : Pass → Caller
caller_at p = standing p.errand (seen p)

pub rests-caller : (h : HeapFields) (p : Pass) → IsAtRest h p → callers.IsAtRest h.layout (caller_at p)
rests-caller h p rests = record { served = rests.0.served; idle = rests.1 }

owns-for : (p : Pass) (call : Call) → OwnsFor p call → callers.OwnsFor (seen p) p.errand.caller call
owns-for p (alloc words) owned = tt
owns-for p (free place need) owned = owned.0
owns-for p (write place need i value) owned = owned.0
owns-for p (read place need i) owned = owned.0
owns-for p (put place need shelf) owned = owned.0
owns-for p (take shelf) owned = tt

steps-on :
    (steps : ℕ) (e f : ErrandFields) (before after : List Event) → StepsOn e before steps f after
    → callers.StepsOn (standing e before) steps (standing f after)
steps-on zero e f before after on = ap (λ x. standing x after) on.0 ∙ ap (standing e) on.1
steps-on (suc steps) e f before after (last, sight, answer, on, moment, busy) =
    (standing last sight, answer, steps-on steps e last before sight on, moment, busy)

-- an allocation for which there was no turn did not begin
spent-answer : (p q : Pass) (words : ℕ) → IsSpentAtOnce p words q → alloc_answer p.errand words ≡ begun.Spent
spent-answer p q words once =
    ap (begins_with p.errand) once.small.1
    ∙ ap (λ b. if b then begun.Spent else begun.Started) (eq-eqb p.errand.turns p.errand.geometry.turn_limit once.over)

made-caller : (p q : Pass) (call : Call) (answer : Reply) → MadeByPass p call answer q → MadeBy (caller_at p) call answer (caller_at q)
made-caller p q call answer (by_steps made) =
    let steps = made.0 in
    let called = made.1 in
    let last = called.last in
    callers.by_steps (record {
      last = standing last called.sight;
      in_call = record {
        steps = steps;
        on = steps-on steps (begun_by p.errand call) last (seen p) called.sight called.on;
        busy = (settled-of last q.errand called.sight (seen q) (progress.Done answer) called.moment).busy;
      };
      moment = called.moment;
    })
made-caller p q call answer (at_once words is_alloc is_spent once) =
    callers.at_once words is_alloc is_spent (spent-answer p q words once) (ap caller_at once.same)

-- a whole call of a pass is one of a caller
pub whole-call :
    (h : HeapFields) (p q : Pass) (call : Call) (answer : Reply) → IsAtRest h p → MadeByPass p call answer q → OwnsFor p call → IsAtRest h q
    → IsCall h.layout (caller_at p) call answer (caller_at q)
whole-call h p q call answer rests made owned ends = record {
  rested = rests-caller h p rests;
  made = made-caller p q call answer made;
  owned = owns-for p call owned;
  rests = rests-caller h q ends;
}

-- steps move a caller on, whatever call they are of
steps-moved :
    (steps : ℕ) (e f : ErrandFields) (before after : List Event) → StepsOn e before steps f after
    → (more : List Event) × HasMovedOn e f before after more
steps-moved zero e f before after on =
    ([], subst (λ (x : Caller). HasMovedOn e x.errand before x.seen []) (sym (steps-on zero e f before after on)) (moved-none e before))
steps-moved (suc steps) e f before after (last, sight, answer, on, moment, busy) =
    let first = steps-moved steps e last before sight on in
    let s = settled-of last f sight after answer moment in
    let event = with_event [] (event_of last.caller last.point s.x) in
    (first.0 ++ event, moved-then e last f before sight after first.0 event first.1 (moved-on last f sight after answer s))

-- a free begins: it changes where the caller is, and nothing else
free-begun : (e : ErrandFields) (place : ℕ) (need : Need) (events : List Event) → HasMovedOn e (begun_by e (free place need)) events events []
unfolding free_begun
free-begun e place need events = record {
  rest = [];
  seen = sym (append-nil events);
  own_rest = refl;
  own_events = sym (append-nil (own e.caller events));
  same_caller = refl;
  same_geometry = refl;
  lost = omega arith;
  at_limit = λ is. is;
}

free-added :
    (h : HeapFields) (p q : Pass) (place : ℕ) (need : Need) → HasEndedAt h p (free place need) reply.Freed q
    → HasAdded h.layout (caller_at p) (caller_at q) (Free p.errand.caller place ∷ [])
free-added h p q place need ((steps, called), ends) =
    let call = free place need in
    let e = begun_by p.errand call in
    let last = called.last in
    let caller = p.errand.caller in
    let way = steps-moved steps e last (seen p) called.sight called.on in
    let s = settled-of last q.errand called.sight (seen q) (progress.Done reply.Freed) called.moment in
    let event = with_event [] (event_of last.caller last.point s.x) in
    let begins = free-begun p.errand place need (seen p) in
    let moved = moved-then p.errand last q.errand (seen p) called.sight (seen q) way.0 event
    (moved-then p.errand e last (seen p) (seen p) called.sight [] way.0 begins way.1)
    (moved-on last q.errand called.sight (seen q) (progress.Done reply.Freed) s) in
    let same : way.0 ++ event ≡ called.added =
    append_cancel_left (own caller (seen p)) (way.0 ++ event) called.added (sym moved.own_events ∙ called.events) in
    let freed : called.added ≡ Free caller place ∷ [] = ended-as caller call reply.Freed called.added (ended.freed place) called.ended refl in
    record {
      rests = rests-caller h q ends;
      moved = subst (HasMovedOn p.errand q.errand (seen p) (seen q)) (same ∙ freed) moved;
    }

-- blocks are freed, one after the other
pub frees-added :
    (h : HeapFields) (blocks : List Block) (p q : Pass) → IsAtRest h p → LeadsBy (HasEndedAt h) p (frees_of blocks) q
    → HasAdded h.layout (caller_at p) (caller_at q) (freed_of p.errand.caller blocks)
frees-added h [] p q rests same =
    subst (λ (x : Pass). HasAdded h.layout (caller_at p) (caller_at x) []) (sym same) (added-none h.layout (caller_at p) (rests-caller h p rests))
frees-added h (block ∷ blocks) p q rests (t, one, leads) =
    let caller = p.errand.caller in
    let first = free-added h p t block.place block.need one in
    let rest = frees-added h blocks t q one.1 leads in
    added-then h.layout (caller_at p) (caller_at t) (caller_at q) (Free caller block.place ∷ []) (freed_of caller blocks) first
    (subst (λ c. HasAdded h.layout (caller_at t) (caller_at q) (freed_of c blocks)) first.moved.same_caller rest)
