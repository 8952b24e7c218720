-- A call that is made step by step is the whole call.
use Rattle.std.proofs.Common.{ℕ, zero, suc, ◌≡◌, ◌≢◌, inl, inr, refl, sym, ap, ◌∙◌, subst, arith}
use Rattle.errand_steps.specs.declared.continuation.Continuation.TheVariants.{Nothing}
use Rattle.errand_steps.specs.declared.reply.Progress.TheVariants as progress
use Rattle.errand_steps.specs.declared.reply.Reply.{Reply}
use Rattle.errand_steps.specs.declared.reply.Reply.TheVariants as reply
use Rattle.errand_steps.specs.Begins.{alloc_answer, IsIdle, put_begun, read_begun, take_begun, write_begun}
use Rattle.errand_steps.specs.Calls.{Call, alloc, begun_by, free, write, read, put, take}
use Rattle.errand_steps.specs.Errands.{ErrandFields}
use Rattle.errand_steps.specs.tables.CallStage.{StageOfCall, putting}
use Rattle.sound_laws.specs.events.Stages.{stage_of}
use Rattle.sound_laws.specs.events.UnderWay.{SoFar}
use Rattle.owned_words.specs.Leaving.{concerned, concerned_at}
use Rattle.owned_words.proofs.Concerned.{the-one}
use Rattle.heap_geometry.specs.declared.need.Need.{Need}
use Rattle.pool_model.specs.declared.event.Event.{Event}
use Rattle.std.specs.Prelude.{Contains, List, [], ◌∷◌}
use Rattle.step_machine.proofs.MomentAnswers.{moment-meant}
use Rattle.errand_steps.specs.declared.reply.Begun.{Begun}
use Rattle.errand_steps.specs.declared.reply.Begun.TheVariants as begun
use Rattle.errand_steps.specs.declared.told.Ending.{Ending}
use Rattle.errand_steps.specs.declared.told.Ending.TheVariants as ending
use Rattle.errand_steps.specs.declared.told.Stepped.{Stepped}
use Rattle.errand_steps.specs.declared.told.Stepped.TheVariants as step
use Rattle.live_heap.specs.declared.block.Block.{Block}
use Rattle.live_heap.proofs.CallsCounts.{never-idle}
use Rattle.live_heap.specs.Heaps.{HeapFields}
use Rattle.live_heap.specs.declared.pass.Pass.{Pass}
use Rattle.live_heap.specs.Answers.{HasBegun, HasStepped, progress_of, reply_of, with_lost}
use Rattle.live_heap.specs.Calls.{HasCalled, IsCalling}
use Rattle.live_heap.specs.Passes.{IsHome, IsOf, seen}
use Rattle.live_heap.specs.Steps.{EndTells, HasStarted, IsDone, IsLastStep}
use Rattle.live_heap.specs.Whole.{OwnsFor}
use Rattle.live_heap.proofs.Begun.{heap-at}
use Rattle.live_heap.proofs.CallsAnswers.{given-owns, got-owns, spent-at_once, spent-limit, step-moment, too_large-same}
use Rattle.live_heap.proofs.CallsGrow.{alloc-calling, calls-go_on, other-calling, settled-of}
use Rattle.live_heap.proofs.CallsOne.{EndsNext, end-answers, ends-one, full-tells, load-ends, missed-lost, put-ends, read-contents, second-stands, shelf-loads, store-ends, take-told, told-done, told-more}

-- a call on a block that the pass owns is under way behind its begin
pub begun-calling :
    (h : HeapFields) (p q : Pass) (call : Call) → IsOf h p → IsIdle p.errand → OwnsFor p call → HasStarted p call → HasBegun p call q → IsCalling p call 0 q
begun-calling h p q (alloc words) of idle owns started since = alloc-calling p q words since idle started
begun-calling h p q (free place need) of idle owns started since =
    other-calling p q (free place need) since idle (heap-at h p place need of owns.0) (λ words is. cc)
begun-calling h p q (write place need i v) of idle owns started since =
    other-calling p q (write place need i v) since idle (heap-at h p place need of owns.0) (λ words is. cc)
begun-calling h p q (read place need i) of idle owns started since =
    other-calling p q (read place need i) since idle (heap-at h p place need of owns.0) (λ words is. cc)
begun-calling h p q (put place need shelf) of idle owns started since =
    other-calling p q (put place need shelf) since idle (heap-at h p place need of owns.0) (λ words is. cc)
begun-calling h p q (take shelf) of idle owns started since = other-calling p q (take shelf) since idle tt (λ words is. cc)

-- a call goes on behind each step that doesn't end it
not-done : (told : Stepped Block) → ¬ IsDone told → (r : Reply) → progress_of told ≢ progress.Done r
not-done told undone r is = let d = told-done told r is in undone (d.0, d.1)

pub steps-on :
    (first : Pass) (call : Call) (steps : ℕ) (p q : Pass) (told : Stepped Block) → IsCalling first call steps p → HasStepped p q told → ¬ IsDone told
    → IsCalling first call (suc steps) q
steps-on first call steps p q told calling stepped undone =
    calls-go_on first call steps p q (progress_of told) stepped.moment (stepped.accesses, stepped.lent) calling (not-done told undone)

pub steps-end :
    (first : Pass) (call : Call) (steps : ℕ) (p q : Pass) (end : Ending Block) → IsCalling first call steps p → HasStepped p q (step.Done end)
    → HasCalled first call steps (reply_of end) q
steps-end first call steps p q end calling stepped = ends-one first call steps p q (step.Done end) end refl stepped calling

-- what the ending of a call tells beside its reply
missed-differ :
    (p q : Pass) (expected found : ℕ) → HasStepped p q (step.Done (ending.Missed expected found)) → expected ≢ found
missed-differ p q expected found stepped =
    (moment-meant p.errand q.errand (seen p) (seen q) (progress.Done (reply.Missed expected found)) stepped.moment (reply.Missed expected found) refl).2

-- a put is about its block as long as it is under way
about-put :
    (caller place shelf : ℕ) (need : Need) (at : StageOfCall) (es : List Event) → SoFar caller (put place need shelf) at es → Contains (concerned_at at) place
about-put caller place shelf need (putting p n s) es so = subst (λ k. Contains (p ∷ []) k) so.0 (the-one p)
about-put caller place shelf need at es so = absurd so

put-home :
    (h : HeapFields) (first p : Pass) (steps place : ℕ) (need : Need) (shelf : ℕ) → IsOf h p → IsCalling first (put place need shelf) steps p → IsHome p place
put-home h first p steps place need shelf of calling = λ n b found there.
    of.apart n b found
    (subst (Contains (concerned p.errand.point)) (sym there)
    (about-put first.errand.caller place shelf need (stage_of p.errand.point) calling.added calling.under_way))

pub steps-tell :
    (h : HeapFields) (first : Pass) (call : Call) (steps : ℕ) (p q : Pass) (end : Ending Block) → IsOf h first → IsOf h p → IsOf h q
    → IsCalling first call steps p → HasStepped p q (step.Done end) → EndTells call end q
steps-tell h first call steps p q (ending.Given block) was at still calling stepped =
    given-owns first call steps q h was still block (steps-end first call steps p q (ending.Given block) calling stepped)
steps-tell h first call steps p q ending.Spent was at still calling stepped =
    spent-limit first call steps q (steps-end first call steps p q ending.Spent calling stepped)
steps-tell h first (read place need i) steps p q (ending.Word word) was at still calling stepped =
    read-contents first p q place need i word steps (step.Done (ending.Word word)) refl stepped calling
steps-tell h first (put place need shelf) steps p q (ending.Full block found) was at still calling stepped =
    full-tells first p q place need shelf steps (step.Done (ending.Full block found)) block found refl stepped calling
    (put-home h first p steps place need shelf at calling)
steps-tell h first call steps p q (ending.Got block) was at still calling stepped =
    got-owns first call steps q h was still block (steps-end first call steps p q (ending.Got block) calling stepped)
steps-tell h first call steps p q (ending.Missed expected found) was at still calling stepped = missed-differ p q expected found stepped
steps-tell h first call steps p q end was at still calling stepped = tt

next-done : (p q : Pass) (told : Stepped Block) → EndsNext p.errand.point → HasStepped p q told → IsDone told
next-done p q told ends stepped =
    let s = settled-of p.errand q.errand (seen p) (seen q) (progress_of told) stepped.moment in
    let end = ends s.x in
    let d = told-done told end.0 (s.answers ∙ end-answers p.errand s.x p.errand.point end.0 refl end.1) in
    (d.0, d.1)

-- a write, a read and a put end with their first step, and a take with its second
first-point : (first p : Pass) (call : Call) → IsCalling first call 0 p → p.errand.point ≡ (begun_by first.errand call).point
first-point first p call calling = ap (λ (e : ErrandFields). e.point) calling.on.0

take-second : (first p q : Pass) (shelf : ℕ) (told : Stepped Block) → IsCalling first (take shelf) 1 p → HasStepped p q told → IsDone told
take-second first p q shelf told calling stepped =
    let on = calling.on in
    let at =
    second-stands first.errand.caller shelf first.errand on.0 p.errand on.1 (seen p) calling.added on.2 on.3.0 on.4 calling.under_way in
    elim (take-told p q shelf told at stepped) [
      | inl (block, is) ↦ (ending.Got block, is)
      | inr rest ↦
          elim rest [ inl is ↦ (ending.Empty, is) | inr (expected, found, is) ↦ (ending.Missed expected found, is) ]
    ]

pub last-done :
    (first : Pass) (call : Call) (steps : ℕ) (p q : Pass) (told : Stepped Block) → IsCalling first call steps p → IsLastStep call steps → HasStepped p q told
    → IsDone told
unfolding write_begun read_begun put_begun
last-done first (write place need i v) zero p q told calling last stepped =
    next-done p q told (subst EndsNext (sym (first-point first p (write place need i v) calling)) (λ x. (reply.Wrote, store-ends place i v Nothing x))) stepped
last-done first (read place need i) zero p q told calling last stepped =
    next-done p q told (subst EndsNext (sym (first-point first p (read place need i) calling)) (λ x. (reply.Word x.value, load-ends place i Nothing x)))
    stepped
last-done first (put place need shelf) zero p q told calling last stepped =
    next-done p q told (subst EndsNext (sym (first-point first p (put place need shelf) calling)) (put-ends shelf place need Nothing)) stepped
last-done first (write place need i v) (suc steps) p q told calling last stepped = absurd (omega (arith, last))
last-done first (read place need i) (suc steps) p q told calling last stepped = absurd (omega (arith, last))
last-done first (put place need shelf) (suc steps) p q told calling last stepped = absurd (omega (arith, last))
last-done first (take shelf) steps p q told calling last stepped =
    take-second first p q shelf told (subst (λ n. IsCalling first (take shelf) n p) last calling) stepped
last-done first call steps p q told calling last stepped = absurd last

pub take-first : (first p q : Pass) (shelf : ℕ) (told : Stepped Block) → IsCalling first (take shelf) 0 p → HasStepped p q told → told ≡ step.More
unfolding take_begun
take-first first p q shelf told calling stepped =
    let s = settled-of p.errand q.errand (seen p) (seen q) (progress_of told) stepped.moment in
    told-more told (s.answers ∙ shelf-loads p.errand shelf s.x (first-point first p (take shelf) calling))

-- a take that misses has lost an exchange, and nothing else has changed
pub take-loses :
    (first p q : Pass) (shelf expected found : ℕ) → IsIdle first.errand → IsCalling first (take shelf) 1 p
    → HasStepped p q (step.Done (ending.Missed expected found)) → q.errand ≡ with_lost first.errand
take-loses first p q shelf expected found idle calling stepped =
    let on = calling.on in
    let one = settled-of on.0 p.errand on.1 (seen p) on.2 on.4 in
    let at =
    second-stands first.errand.caller shelf first.errand on.0 p.errand on.1 (seen p) calling.added on.2 on.3.0 on.4 calling.under_way in
    missed-lost first.errand on.0 p q shelf one.x (step.Done (ending.Missed expected found)) expected found refl idle on.3.0 one.settled at stepped

-- an allocation that its begin has not started leaves the pass as it was
unstarted-as :
    (p q : Pass) (words : ℕ) (a : Begun) → alloc_answer p.errand words ≡ a → HasBegun p (alloc words) q
    → alloc_answer p.errand words ≢ begun.Started → q ≡ p
unstarted-as p q words begun.Started is since not = absurd (not is)
unstarted-as p q words begun.TooLarge is since not = too_large-same p q words is since
unstarted-as p q words begun.Spent is since not = (spent-at_once p q words is since).same

pub unstarted : (p q : Pass) (words : ℕ) → HasBegun p (alloc words) q → alloc_answer p.errand words ≢ begun.Started → q ≡ p
unstarted p q words since not = unstarted-as p q words (alloc_answer p.errand words) refl since not

-- a step of a call is told as one
pub step-moves : (p q : Pass) (told : Stepped Block) → HasStepped p q told → told ≢ step.Idle
step-moves p q told stepped is = never-idle p.errand q.errand (seen p) (seen q) (step-moment p q told step.Idle is stepped)
