-- Where a heap has one caller, frees are never interrupted, and takes never miss.
use Rattle.std.proofs.Common.{ℕ, zero, suc, true, false, ◌≡◌, ◌<◌, ◌+◌, ◌^◌, ◌-◌, inl, inr, List, [], refl, sym, ap, ◌∙◌, subst, arith}
use Rattle.std.specs.Prelude.{IsTrue}
use Rattle.std.proofs.lemmas.Bool.{cases_Bool, false≢true}
use Rattle.heap_geometry.specs.declared.geometry.Geometry.{Geometry}
use Rattle.heap_geometry.specs.declared.need.Need.{Need}
use Rattle.word_table.specs.declared.action.Found.{Found as Find}
use Rattle.word_table.specs.declared.seat.Site.{Site}
use Rattle.step_parts.specs.declared.partial.point.PartialPoint.TheVariants as partial
use Rattle.step_parts.specs.partial.Points.{seat_of_partial}
use Rattle.pool_model.specs.declared.event.Event.{Event}
use Rattle.errand_steps.specs.declared.continuation.Continuation.{Continuation}
use Rattle.errand_steps.specs.declared.continuation.Continuation.TheVariants.{Alloc}
use Rattle.errand_steps.specs.declared.point.Point.{Point}
use Rattle.errand_steps.specs.declared.point.Point.TheVariants as point
use Rattle.errand_steps.specs.declared.reply.Progress.{Progress}
use Rattle.errand_steps.specs.Begins.{IsBusy, free_begun}
use Rattle.errand_steps.specs.Calls.{alloc, free, begun_by}
use Rattle.errand_steps.specs.Continuations.{is_alloc}
use Rattle.errand_steps.specs.Errands.{ErrandFields, settle_of, counts_cleared, raised}
use Rattle.errand_steps.specs.Events.{event_of}
use Rattle.errand_steps.specs.Fits.{FitsContinuation, FitsPoint}
use Rattle.errand_steps.specs.Steps.{with_event}
use Rattle.errand_steps.specs.tables.CallStage.{StageOfCall, asking, asking_run, refused, given, freeing, freed, writing, reading, putting, taking, none}
use Rattle.sound_laws.specs.events.Stages.{stage_of}
use Rattle.sound_laws.specs.events.UnderWay.{IsUnderWay, SoFar}
use Rattle.sound_laws.proofs.events_lemmas.AnswerLemmas.{step-goes_on}
use Rattle.step_machine.specs.Moments.{IsMoment}
use Rattle.step_machine.proofs.MomentAnswers.{settle-caller}
use Rattle.live_heap.specs.declared.answers.FreeAnswer.TheVariants as free_answer
use Rattle.live_heap.specs.declared.answers.Resumed.TheVariants as resumed
use Rattle.live_heap.specs.declared.answers.Taken.TheVariants as taken
use Rattle.live_heap.specs.declared.block.Block.{Block}
use Rattle.live_heap.specs.Heaps.{HeapFields}
use Rattle.live_heap.specs.declared.pass.Pass.{Pass}
use Rattle.live_heap.specs.Answers.{FreeTells, ResumeTells, TakeTells}
use Rattle.live_heap.specs.Calls.{IsCalling, IsInterrupted, StepsOn}
use Rattle.live_heap.specs.Passes.{IsOf, seen}
use Rattle.live_heap.proofs.CallsGrow.{IsSettled, settled-of}

-- who looks at the anchor of a superblock that it takes for a partial one is in an allocation
grants-alloc :
    (g : Geometry) (caller : ℕ) (at : Site) (o : Continuation) → IsTrue (is_alloc o)
    → FitsContinuation g caller (seat_of_partial (partial.LoadGrantAnchor at)) o
    → (words : ℕ) × IsUnderWay caller (alloc words) (point.Partial (partial.LoadGrantAnchor at) o) []
grants-alloc g caller at (Alloc words) goes fits = (words, (refl, fits, (0, refl)))
grants-alloc g caller at o goes fits = absurd (false≢true goes)

-- who clears an empty superblock is in an allocation
clears-alloc :
    (g : Geometry) (caller : ℕ) (p : Point) (x : Find) → FitsPoint g caller p → counts_cleared p x ≡ true
    → (words : ℕ) × IsUnderWay caller (alloc words) p []
clears-alloc g caller point.Idle x fits cleared = absurd (false≢true cleared)
clears-alloc g caller (point.Block p o) x fits cleared = absurd (false≢true cleared)
clears-alloc g caller (point.Stack p o) x fits cleared = absurd (false≢true cleared)
clears-alloc g caller (point.Desc p o) x fits cleared = absurd (false≢true cleared)
clears-alloc g caller (point.Partial (partial.LoadGrantAnchor at) o) x fits cleared = grants-alloc g caller at o fits.goes fits.continuation
clears-alloc g caller (point.Partial p o) x fits cleared = absurd (false≢true cleared)
clears-alloc g caller (point.Large p o) x fits cleared = absurd (false≢true cleared)

-- the caller is in no allocation
abbrev IsElsewhere : ErrandFields → Type 0
IsElsewhere e = (words : ℕ) (events : List Event) → ¬ IsUnderWay e.caller (alloc words) e.point events

-- a step that clears nothing leaves the count of what was cleared
settled-cleared : (e : ErrandFields) (x : Find) → counts_cleared e.point x ≡ false → (settle_of e x).cleared ≡ e.cleared
unfolding settle_of
settled-cleared e x kept = ap (λ b. raised b e.cleared) kept

module _ (e f : ErrandFields) (before after : List Event) (answer : Progress) (m : IsMoment e f before after answer) where
  abbrev s : IsSettled e f before after answer
  s = settled-of e f before after answer m

  -- who goes on in no allocation was in none before its step
  elsewhere-before : IsBusy f → IsElsewhere f → IsElsewhere e
  elsewhere-before busy out words events way =
      let all : List Event = with_event events (event_of e.caller e.point s.x) in
      let on : IsUnderWay e.caller (alloc words) (settle_of e s.x).point all =
      step-goes_on e s.x (alloc words) events s.rule s.word s.won way (subst IsBusy s.settled busy) in
      let there : IsUnderWay (settle_of e s.x).caller (alloc words) (settle_of e s.x).point all =
      subst (λ k. IsUnderWay k (alloc words) (settle_of e s.x).point all) (sym (settle-caller e s.x)) on in
      out words all (subst (λ (d : ErrandFields). IsUnderWay d.caller (alloc words) d.point all) (sym s.settled) there)

  -- a step of a caller in no allocation has cleared nothing
  elsewhere-keeps : IsElsewhere e → f.cleared ≡ e.cleared
  elsewhere-keeps out =
      let kept : counts_cleared e.point s.x ≡ false =
      elim (cases_Bool (counts_cleared e.point s.x)) [
        | inl cleared ↦ let way = clears-alloc e.geometry e.caller e.point s.x s.rule.point cleared in absurd (out way.0 [] way.1)
        | inr other ↦ other
      ] in
      ap (λ (d : ErrandFields). d.cleared) s.settled ∙ settled-cleared e s.x kept

-- several steps of a caller that ends up in no allocation have cleared nothing
steps-keep :
    (n : ℕ) (e : ErrandFields) (before : List Event) (f : ErrandFields) (after : List Event) → StepsOn e before n f after → IsElsewhere f
    → f.cleared ≡ e.cleared
steps-keep zero e before f after on out = ap (λ (d : ErrandFields). d.cleared) on.0
steps-keep (suc n) e before f after on out =
    let earlier = elsewhere-before on.0 f on.1 after on.2 on.4 on.5 out in
    elsewhere-keeps on.0 f on.1 after on.2 on.4 earlier ∙ steps-keep n e before on.0 on.1 on.3 earlier

-- no stage of a free is one of an allocation
free-elsewhere :
    (caller other place words : ℕ) (need : Need) (stage : StageOfCall) (es fs : List Event) → SoFar caller (free place need) stage es
    → SoFar other (alloc words) stage fs → ⊥
free-elsewhere caller other place words need (asking w c looked) es fs so also = so
free-elsewhere caller other place words need (asking_run w units) es fs so also = so
free-elsewhere caller other place words need refused es fs so also = so
free-elsewhere caller other place words need (given p n) es fs so also = so
free-elsewhere caller other place words need (freeing p n) es fs so also = also
free-elsewhere caller other place words need freed es fs so also = also
free-elsewhere caller other place words need (writing p i value) es fs so also = so
free-elsewhere caller other place words need (reading p i) es fs so also = so
free-elsewhere caller other place words need (putting p n shelf) es fs so also = so
free-elsewhere caller other place words need (taking shelf) es fs so also = so
free-elsewhere caller other place words need none es fs so also = so

-- a free that begins leaves the count of what was cleared
begun-cleared : (e : ErrandFields) (place : ℕ) (need : Need) → (begun_by e (free place need)).cleared ≡ e.cleared
unfolding free_begun
begun-cleared e place need = refl

-- a free clears no superblock that it takes for a partial one
free-keeps :
    (first p : Pass) (place : ℕ) (need : Need) (steps : ℕ) → IsCalling first (free place need) steps p
    → p.errand.cleared ≡ first.errand.cleared
free-keeps first p place need steps c =
    steps-keep steps (begun_by first.errand (free place need)) (seen first) p.errand (seen p) c.on
    (λ words events way.
    free-elsewhere first.errand.caller p.errand.caller place words need (stage_of p.errand.point) c.added events c.under_way way)
    ∙ begun-cleared first.errand place need

module _ (h : HeapFields) (q : Pass) (of : IsOf h q) (one : h.layout.callers ≡ 1) where
  -- with one caller the pass has lost nothing
  lost : q.errand.lost ≡ 0
  lost = of.alone one

  below : q.errand.lost < 2 ^ 64 - 1
  below = omega (arith, lost)

  -- with one caller a free isn't interrupted
  free-over :
      (first p : Pass) (place : ℕ) (need : Need) (made tries : ℕ) → 0 < tries → p.errand.cleared ≡ first.errand.cleared
      → ¬ IsInterrupted first (free place need) made p tries q
  free-over first p place need made tries some same i =
      let sum = i.spent below in
      let kept : q.errand.cleared ≡ p.errand.cleared = free-keeps first q place need (suc i.steps) i.calling ∙ sym same in
      omega (arith, lost, sum, kept, some)

pub free-ends :
    (h : HeapFields) (p q : Pass) (block : Block) (tries : ℕ) → IsOf h q → h.layout.callers ≡ 1 → 0 < tries
    → ¬ FreeTells p block tries free_answer.Busy q
free-ends h p q block tries of one some i = free-over h q of one p p block.place block.need 0 tries some refl i

pub resumed-ends :
    (h : HeapFields) (first p q : Pass) (place : ℕ) (need : Need) (made tries : ℕ) → IsOf h q → h.layout.callers ≡ 1 → 0 < tries
    → IsCalling first (free place need) made p → ¬ ResumeTells first (free place need) made p tries resumed.Busy q
resumed-ends h first p q place need made tries of one some c i =
    free-over h q of one first p place need made tries some (free-keeps first p place need made c) i

-- with one caller no take misses
pub take-meets :
    (h : HeapFields) (p q : Pass) (shelf expected found : ℕ) → IsOf h q → h.layout.callers ≡ 1
    → ¬ TakeTells p shelf (taken.Missed expected found) q
take-meets h p q shelf expected found of one tells =
    let more = ap (λ (e : ErrandFields). e.lost) tells.2 in
    omega (arith, lost h q of one, more)

-- with one caller an allocation that is interrupted has only cleared
pub alloc-clears :
    (h : HeapFields) (first p q : Pass) (words made tries : ℕ) → IsOf h p → IsOf h q → h.layout.callers ≡ 1
    → IsInterrupted first (alloc words) made p tries q → q.errand.cleared ≡ p.errand.cleared + tries
alloc-clears h first p q words made tries of_p of one i =
    omega (arith, lost h p of_p one, lost h q of one, i.spent (below h q of one))
