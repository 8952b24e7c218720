-- Where an errand is about to put no block on a shelf: behind the begin of every other call, and behind every step.
use Rattle.std.proofs.Common.{ℕ, Bool, true, false, ◌≡◌, List, sym, ◌∙◌, ap, subst, inl, inr, arith}
use Rattle.std.specs.Prelude.{if◌then◌else◌}
use Rattle.std.proofs.lemmas.Bool.{cases_Bool}
use Rattle.heap_geometry.specs.declared.need.Need.{Need}
use Rattle.heap_geometry.specs.declared.need.Need.TheVariants as need
use Rattle.heap_geometry.specs.Need.{need_of}
use Rattle.step_parts.specs.declared.large.point.LargePoint.TheVariants as large
use Rattle.word_table.specs.declared.action.Found.{Found as Find}
use Rattle.pool_model.specs.declared.event.Event.{Event}
use Rattle.errand_steps.specs.declared.continuation.Continuation.{Continuation}
use Rattle.errand_steps.specs.declared.continuation.Continuation.TheVariants.{Nothing}
use Rattle.errand_steps.specs.declared.next.Next.{Next}
use Rattle.errand_steps.specs.declared.point.Point.{Point}
use Rattle.errand_steps.specs.declared.point.Point.TheVariants as point
use Rattle.errand_steps.specs.Begins.{alloc_begun, begins_alloc, free_begun, free_point, put_begun, read_begun, take_begun, write_begun}
use Rattle.errand_steps.specs.Calls.{Call, alloc, begun_by, free, put, read, take, write}
use Rattle.errand_steps.specs.Errands.{ErrandFields, after_list, after_turn, course_of, is_spent, point_after, settle_of}
use Rattle.errand_steps.specs.Nexts.{next_of}
use Rattle.errand_steps.specs.Points.{is_idle}
use Rattle.errand_steps.specs.tables.CallStage.{StageOfCall, none, putting}
use Rattle.sound_laws.specs.events.Stages.{stage_of}
use Rattle.sound_laws.specs.events.UnderWay.{IsUnderWay}
use Rattle.owned_words.proofs.KeptStages.{IsKept, settles-kept}
use Rattle.live_heap.specs.declared.pass.Pass.{Pass}
use Rattle.live_heap.specs.Answers.{HasBegun, IsTried}
use Rattle.live_heap.specs.Calls.{IsCalling}
use Rattle.live_heap.specs.Passes.{seen}
use Rattle.live_heap.specs.Shelves.{AllowedWords, MayLieOn, PutsByRule}
use Rattle.live_heap.proofs.CallsOne.{put-lost, put-point, put-won}

-- no block is put on a shelf at this point
abbrev NoPut : Point → Type 0
NoPut (point.Large (large.PutBlock shelf place need) o) = ⊥
NoPut p = Unit {0}

puts-nothing : (rule : AllowedWords) (seen : List Event) (e : ErrandFields) → NoPut e.point → PutsByRule rule seen e
puts-nothing rule seen e nowhere shelf place need goes is = absurd (subst NoPut is nowhere)

idle-no_put : (q : Point) → is_idle q ≡ true → NoPut q
idle-no_put (point.Large p o) idle = absurd (let no : false ≡ true = idle in cc)
idle-no_put q idle = tt

if-no_put : (e f : ErrandFields) (b : Bool) → NoPut e.point → NoPut f.point → NoPut (if b then e else f).point
if-no_put e f true one other = one
if-no_put e f false one other = other

need-no_put : (e : ErrandFields) (words : ℕ) (n : Need) → is_idle e.point ≡ true → NoPut (begins_alloc e words n).point
need-no_put e words (need.Small class) idle = if-no_put e _ (is_spent e) (idle-no_put e.point idle) tt
need-no_put e words (need.Large units) idle = tt
need-no_put e words need.TooLarge idle = idle-no_put e.point idle

free-no_put : (e : ErrandFields) (place : ℕ) (n : Need) → is_idle e.point ≡ true → NoPut (free_point e place n)
free-no_put e place (need.Small class) idle = tt
free-no_put e place (need.Large units) idle = tt
free-no_put e place need.TooLarge idle = idle-no_put e.point idle

-- the call is no put
abbrev pub IsNoPut : Call → Type 0
IsNoPut (put place need shelf) = ⊥
IsNoPut call = Unit {0}

begun-no_put : (e : ErrandFields) (call : Call) → is_idle e.point ≡ true → IsNoPut call → NoPut (begun_by e call).point
unfolding alloc_begun free_begun write_begun read_begun put_begun take_begun
begun-no_put e (alloc words) idle other = need-no_put e words (need_of words) idle
begun-no_put e (free place n) idle other = free-no_put e place n idle
begun-no_put e (write place n i value) idle other = tt
begun-no_put e (read place n i) idle other = tt
begun-no_put e (take shelf) idle other = tt
begun-no_put e (put place n shelf) idle other = absurd other

pub begun-puts :
    (rule : AllowedWords) (p b : Pass) (call : Call) → is_idle p.errand.point ≡ true → HasBegun p call b → IsNoPut call → PutsByRule rule (seen b) b.errand
begun-puts rule p b call idle begun other =
    puts-nothing rule (seen b) b.errand (subst (λ (e : ErrandFields). NoPut e.point) (sym begun.errand) (begun-no_put p.errand call idle other))

-- a put has begun with a block whose words may lie on the shelf
pub put-puts :
    (rule : AllowedWords) (p b : Pass) (place : ℕ) (n : Need) (shelf : ℕ) → HasBegun p (put place n shelf) b
    → MayLieOn rule (seen p) p.errand.caller place shelf → PutsByRule rule (seen b) b.errand
unfolding put_begun
put-puts rule p b place n shelf begun may to at other goes is =
    let there : point.Large (large.PutBlock shelf place n) Nothing ≡ point.Large (large.PutBlock to at other) goes = sym (put-point p b place n shelf begun) ∙ is in
    let same_shelf : shelf ≡ to = cc in
    let same_place : place ≡ at = cc in
    let caller : p.errand.caller ≡ b.errand.caller = sym (ap (λ (e : ErrandFields). e.caller) begun.errand) in
    let S : ℕ × ℕ × ℕ → Type 0 = λ t. MayLieOn rule (seen b) t.0 t.1 t.2 in
    subst S (λ i. (caller i, same_place i, same_shelf i)) (subst (λ (s : List Event). MayLieOn rule s p.errand.caller place shelf) (ap (λ s. s.me.0.seen) (sym begun.seat)) may)

-- a point of the stage of a put is where its block is put on the shelf
abbrev goes_at : Point → Continuation
goes_at (point.Large p o) = o
goes_at p = Nothing

at-put :
    (p : Point) (place : ℕ) (n : Need) (shelf : ℕ) → stage_of p ≡ putting place n shelf → (o : Continuation) × (p ≡ point.Large (large.PutBlock shelf place n) o)
at-put p place n shelf is = (goes_at p, grind (arith))

-- a put ends with its step
put-ends :
    (e : ErrandFields) (x : Find) (shelf place : ℕ) (n : Need) (o : Continuation) → e.point ≡ point.Large (large.PutBlock shelf place n) o
    → stage_of (settle_of e x).point ≡ none
unfolding settle_of course_of
put-ends e x shelf place n o at =
    let P : Next → StageOfCall = λ t. stage_of (point_after (after_turn e (after_list e t))) in
    elim (cases_Bool x.won) [
      | inl won ↦ ap (λ p. P (next_of p x)) at ∙ ap P (put-won shelf place n o x won)
      | inr lost ↦ ap (λ p. P (next_of p x)) at ∙ ap P (put-lost shelf place n o x lost)
    ]

-- so no step leads to a point of a put
pub settle-puts : (rule : AllowedWords) (seen : List Event) (e : ErrandFields) (x : Find) → PutsByRule rule seen (settle_of e x)
settle-puts rule seen e x shelf place n goes is =
    let kept : putting place n shelf ≡ stage_of e.point = subst (λ p. IsKept (stage_of p) (stage_of e.point)) is (settles-kept e x) in
    let at = at-put e.point place n shelf (sym kept) in
    let ended : stage_of (settle_of e x).point ≡ none = put-ends e x shelf place n at.0 at.1 in
    absurd (let no : putting place n shelf ≡ none = ap stage_of (sym is) ∙ ended in cc)

-- an allocation or a free under way is at no point of a put
at-no_put : (caller : ℕ) (call : Call) (p : Point) (es : List Event) → IsTried call → IsUnderWay caller call p es → NoPut p
at-no_put caller (alloc words) (point.Large (large.PutBlock shelf place n) o) es tried so = so
at-no_put caller (free at need) (point.Large (large.PutBlock shelf place n) o) es tried so = so
at-no_put caller call p es tried so = grind (arith)

pub calling-puts : (rule : AllowedWords) (first p : Pass) (call : Call) (steps : ℕ) → IsTried call → IsCalling first call steps p → PutsByRule rule (seen p) p.errand
calling-puts rule first p call steps tried calling =
    puts-nothing rule (seen p) p.errand (at-no_put first.errand.caller call p.errand.point calling.added tried calling.under_way)
