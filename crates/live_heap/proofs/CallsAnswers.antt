-- What calls that have ended answer.
use Rattle.std.proofs.Common.{ℕ, ◌≡◌, ◌≢◌, ◌<◌, ◌+◌, inl, inr, Some, refl, sym, ap, ◌∙◌, subst, arith}
use Rattle.std.proofs.lemmas.Bool.{cases_lt, le-leb, lt-leb}
use Rattle.heap_geometry.specs.declared.geometry.Geometry.{Geometry}
use Rattle.heap_geometry.specs.declared.limits.TheConstants.{SMALL_MOST, LARGE_MOST}
use Rattle.heap_geometry.specs.declared.need.Need.{Need}
use Rattle.heap_geometry.specs.declared.need.Need.TheVariants.{Small, Large, TooLarge}
use Rattle.heap_geometry.specs.Need.{need_of}
use Rattle.heap_geometry.proofs.NeedLemmas.{need_of-is}
use Rattle.pool_model.specs.Calls.{Ended}
use Rattle.errand_steps.specs.declared.reply.Begun.TheVariants as begun
use Rattle.errand_steps.specs.declared.reply.Progress.TheVariants as progress
use Rattle.errand_steps.specs.declared.reply.Reply.{Reply}
use Rattle.errand_steps.specs.declared.reply.Reply.TheVariants as reply
use Rattle.errand_steps.specs.declared.told.Ending.{Ending}
use Rattle.errand_steps.specs.declared.told.Ending.TheVariants as ending
use Rattle.errand_steps.specs.declared.told.Stepped.{Stepped}
use Rattle.errand_steps.specs.Begins.{alloc_answer, begins_with, alloc_begun, free_begun, write_begun, read_begun, put_begun, take_begun}
use Rattle.errand_steps.specs.Calls.{Call, alloc, free, begun_by}
use Rattle.errand_steps.specs.Errands.{ErrandFields}
use Rattle.errand_steps.proofs.SpentLemmas.{begins-at_limit}
use Rattle.sound_laws.specs.events.Ends.{end_of}
use Rattle.sound_laws.proofs.events_lemmas.BeginsLemmas.{too_large-stays, spent-begins}
use Rattle.step_machine.specs.Cores.{OwnsAfter}
use Rattle.step_machine.specs.Moments.{IsMoment}
use Rattle.step_machine.proofs.MomentAnswers.{moment-geometry, moment-given, moment-got, moment-meant}
use Rattle.live_heap.specs.declared.answers.AllocAnswer.TheVariants as alloc_answers
use Rattle.live_heap.specs.declared.block.Block.{Block}
use Rattle.live_heap.specs.Heaps.{HeapFields}
use Rattle.live_heap.specs.declared.pass.Pass.{Pass}
use Rattle.live_heap.specs.Answers.{AllocTells, FreeTells, HasBegun, HasStepped, IsAllocEnding, IsSpentAtOnce, IsTried, IsTriedEnding, ResumeTells, alloc_ended, progress_of, reply_of, resumed_ended}
use Rattle.live_heap.specs.declared.answers.FreeAnswer.TheVariants as free_answers
use Rattle.live_heap.specs.Calls.{EndsInTime, HasCalled, IsInterrupted, tries_of}
use Rattle.live_heap.specs.Passes.{IsOf, Owns, seen}
use Rattle.live_heap.proofs.LawsKept.{given-home, got-home}

-- the moment of a step that came to this
pub step-moment :
    (p q : Pass) (told same : Stepped Block) → told ≡ same → HasStepped p q told → IsMoment p.errand q.errand (seen p) (seen q) (progress_of same)
step-moment p q told same is stepped = subst (λ t. IsMoment p.errand q.errand (seen p) (seen q) (progress_of t)) is stepped.moment

-- what a call that has ended so has come to
module _ (first : Pass) (call : Call) (steps : ℕ) (q : Pass) where
  pub given-owns :
      (h : HeapFields) → IsOf h first → IsOf h q → (block : Block) → HasCalled first call steps (reply.Given block.place block.need) q → Owns q block
  given-owns h was of block called = (
    moment-given called.last q.errand called.sight (seen q) (progress.Done (reply.Given block.place block.need)) called.moment block.place block.need refl,
    given-home h first q call steps block.place block.need was of called,
  )

  pub got-has : (block : Block) → HasCalled first call steps (reply.Got block.place block.need) q → OwnsAfter (seen q) q.errand.caller block.place block.need
  got-has block called =
      moment-got called.last q.errand called.sight (seen q) (progress.Done (reply.Got block.place block.need)) called.moment block.place block.need refl

  pub got-owns : (h : HeapFields) → IsOf h first → IsOf h q → (block : Block) → HasCalled first call steps (reply.Got block.place block.need) q → Owns q block
  got-owns h was of block called = (
    got-has block called,
    got-home h first q call steps block.place block.need was of called,
  )

  pub spent-limit : HasCalled first call steps reply.Spent q → q.errand.turns ≡ q.errand.geometry.turn_limit
  spent-limit called =
      let m = called.moment in
      let r : Reply = reply.Spent in
      ap (λ (e : ErrandFields). e.turns) (sym m.there)
      ∙ (moment-meant called.last q.errand called.sight (seen q) (progress.Done r) m r refl
      ∙ ap (λ (g : Geometry). g.turn_limit) (sym (moment-geometry called.last q.errand called.sight (seen q) (progress.Done r) m)))

-- which endings an allocation, a free and either of them have
pub ending-of_alloc :
    (words : ℕ) (told : Ending Block) (end : Ended) → end_of (alloc words) (reply_of told) ≡ Some end → IsAllocEnding told
ending-of_alloc words (ending.Given block) end is = tt
ending-of_alloc words ending.Refused end is = tt
ending-of_alloc words ending.Spent end is = tt
ending-of_alloc words told end is = absurd cc

pub ending-of_free :
    (place : ℕ) (need : Need) (told : Ending Block) (end : Ended) → end_of (free place need) (reply_of told) ≡ Some end → told ≡ ending.Freed
ending-of_free place need ending.Freed end is = refl
ending-of_free place need told end is = absurd cc

tried-alloc : (told : Ending Block) → IsAllocEnding told → IsTriedEnding told
tried-alloc (ending.Given block) is = tt
tried-alloc ending.Refused is = tt
tried-alloc ending.Spent is = tt
tried-alloc told is = absurd is

tried-free : (told : Ending Block) → told ≡ ending.Freed → IsTriedEnding told
tried-free told is = subst IsTriedEnding (sym is) tt

pub ending-of_tried :
    (call : Call) (told : Ending Block) (end : Ended) → IsTried call → end_of call (reply_of told) ≡ Some end → IsTriedEnding told
ending-of_tried (alloc words) told end tried is = tried-alloc told (ending-of_alloc words told end is)
ending-of_tried (free place need) told end tried is = tried-free told (ending-of_free place need told end is)
ending-of_tried call told end tried is = absurd tried

-- a call that begins leaves the counts that tries are counted by
pub begun-tries : (e : ErrandFields) (call : Call) → tries_of (begun_by e call) ≡ tries_of e
unfolding alloc_begun free_begun write_begun read_begun put_begun take_begun
begun-tries e call = grind (arith)

-- what is so of a call counted from the pass that has begun it is so counted from the pass before that
module _ (p b : Pass) (call : Call) (tries : ℕ) (q : Pass) (since : HasBegun p call b) where
  same-tries : tries_of b.errand ≡ tries_of p.errand
  same-tries = ap tries_of since.errand ∙ begun-tries p.errand call

  pub ends-since : (r : Reply) → EndsInTime p call 0 b tries r q → EndsInTime p call 0 p tries r q
  ends-since r ends =
      record {
        steps = ends.steps;
        called = ends.called;
        few = ends.few;
        in_time = subst (λ n. tries_of ends.called.last < n + tries) same-tries ends.in_time;
      }

  pub interrupted-since : IsInterrupted p call 0 b tries q → IsInterrupted p call 0 p tries q
  interrupted-since over =
      record {
        steps = over.steps;
        calling = over.calling;
        few = over.few;
        last_tried = over.last_tried;
        in_time = subst (λ n. tries_of over.calling.on.0 < n + tries) same-tries over.in_time;
        spent = λ below. over.spent below ∙ ap (λ n. n + tries) same-tries;
      }

-- what an allocation that has ended in time tells
pub alloc-tells :
    (h : HeapFields) (p : Pass) (words tries : ℕ) (told : Ending Block) (q : Pass) → IsOf h p → IsOf h q
    → EndsInTime p (alloc words) 0 p tries (reply_of told) q → AllocTells p words tries (alloc_ended told) q
alloc-tells h p words tries (ending.Given block) q was of ends = (ends, given-owns p (alloc words) ends.steps q h was of block ends.called)
alloc-tells h p words tries ending.Refused q was of ends = ends
alloc-tells h p words tries ending.Spent q was of ends = inr (ends, spent-limit p (alloc words) ends.steps q ends.called)
alloc-tells h p words tries told q was of ends =
    absurd (let all = ends.called.ended.ended in ending-of_alloc words told all.0 all.1)

-- what a free that has ended in time tells
pub free-tells :
    (p : Pass) (block : Block) (tries : ℕ) (told : Ending Block) (q : Pass)
    → EndsInTime p (free block.place block.need) 0 p tries (reply_of told) q → FreeTells p block tries free_answers.Freed q
free-tells p block tries told q ends =
    let all = ends.called.ended.ended in
    subst (λ t. EndsInTime p (free block.place block.need) 0 p tries (reply_of t) q)
    (ending-of_free block.place block.need told all.0 all.1) ends

-- what a call that was resumed and has ended in time tells
pub resume-tells :
    (h : HeapFields) (first : Pass) (call : Call) (made : ℕ) (p : Pass) (tries : ℕ) (told : Ending Block) (q : Pass) → IsOf h first → IsOf h q
    → IsTriedEnding told → EndsInTime first call made p tries (reply_of told) q → ResumeTells first call made p tries (resumed_ended told) q
resume-tells h first call made p tries (ending.Given block) q was of tried ends = (ends, given-owns first call ends.steps q h was of block ends.called)
resume-tells h first call made p tries ending.Freed q was of tried ends = ends
resume-tells h first call made p tries ending.Refused q was of tried ends = ends
resume-tells h first call made p tries ending.Spent q was of tried ends = (ends, spent-limit first call ends.steps q ends.called)
resume-tells h first call made p tries told q was of tried ends = absurd tried

-- where a need is too large no block has so many words
need-too_large : (words : ℕ) → need_of words ≡ TooLarge → LARGE_MOST < words
unfolding need_of
need-too_large words is =
    elim (cases_lt LARGE_MOST words) [
      | inl more ↦ more
      | inr within ↦
          absurd
          (elim (cases_lt SMALL_MOST words) [
            | inr small ↦ let e = rw (le-leb words SMALL_MOST small) at is in cc
            | inl above ↦ let e = rw (lt-leb words SMALL_MOST above, le-leb words LARGE_MOST within) at is in cc
          ])
    ]

answers-too_large : (e : ErrandFields) (n : Need) → begins_with e n ≡ begun.TooLarge → n ≡ TooLarge
answers-too_large e n is = grind (arith)

pub begins-too_large : (e : ErrandFields) (words : ℕ) → alloc_answer e words ≡ begun.TooLarge → LARGE_MOST < words
begins-too_large e words is = need-too_large words (answers-too_large e (need_of words) is)

pub too_large-begins : (e : ErrandFields) (words : ℕ) → LARGE_MOST < words → alloc_answer e words ≡ begun.TooLarge
too_large-begins e words more = ap (begins_with e) (sym (need_of-is words TooLarge more))

-- an allocation that has begun nothing leaves the pass
pass-same : (p q : Pass) → q.seat ≡ p.seat → q.errand ≡ p.errand → q.out ≡ p.out → q ≡ p
pass-same p q seat errand out = λ i. record { seat = seat i; errand = errand i; out = out i }

pub too_large-same : (p q : Pass) (words : ℕ) → alloc_answer p.errand words ≡ begun.TooLarge → HasBegun p (alloc words) q → q ≡ p
too_large-same p q words is since = pass-same p q since.seat (since.errand ∙ too_large-stays p.errand words is) since.out

spent-small : (e : ErrandFields) (n : Need) → begins_with e n ≡ begun.Spent → (class : ℕ) × (n ≡ Small class)
spent-small e (Small class) is = (class, refl)
spent-small e (Large units) is = absurd (cc)
spent-small e TooLarge is = absurd (cc)

pub spent-at_once :
    (p q : Pass) (words : ℕ) → alloc_answer p.errand words ≡ begun.Spent → HasBegun p (alloc words) q → IsSpentAtOnce p words q
spent-at_once p q words is since =
    record {
      same = pass-same p q since.seat (since.errand ∙ (spent-begins p.errand words is).0) since.out;
      small = spent-small p.errand (need_of words) is;
      over = begins-at_limit p.errand words is;
    }

-- an allocation that has started asks for no more words than a block may have
pub started-within : (e : ErrandFields) (words : ℕ) → alloc_answer e words ≡ begun.Started → LARGE_MOST < words → ⊥
started-within e words is more = let both : begun.Started ≡ begun.TooLarge = sym is ∙ too_large-begins e words more in cc

pub spent-within : (e : ErrandFields) (words : ℕ) → alloc_answer e words ≡ begun.Spent → LARGE_MOST < words → ⊥
spent-within e words is more = let both : begun.Spent ≡ begun.TooLarge = sym is ∙ too_large-begins e words more in cc

pub ended-not_too_large : (told : Ending Block) → alloc_ended told ≢ alloc_answers.TooLarge
ended-not_too_large told is = grind (arith)
