-- A call that begins has added no event.
use Rattle.std.proofs.Common.{ℕ, ◌≡◌, ◌≢◌, inl, inr, [], refl, sym, ◌∙◌, arith}
use Rattle.std.proofs.lemmas.Bool.{cases_Bool, true≢false}
use Rattle.heap_geometry.specs.declared.need.Need.{Need}
use Rattle.heap_geometry.specs.declared.need.Need.TheVariants.{Small, Large, TooLarge}
use Rattle.heap_geometry.specs.Need.{need_of}
use Rattle.pool_model.specs.Calls.{IsSpending}
use Rattle.errand_steps.specs.declared.reply.Begun.TheVariants as begun
use Rattle.errand_steps.specs.Begins.{IsIdle, IsBusy, IsHeapBlock, begins_alloc, alloc_begun, free_begun, write_begun, read_begun, put_begun, take_begun, begins_with}
use Rattle.errand_steps.specs.Calls.{Call, alloc, free, write, read, put, take, begun_by}
use Rattle.errand_steps.specs.Errands.{ErrandFields, is_spent}
use Rattle.errand_steps.proofs.BeginLemmas.{frame_is, index_is}
use Rattle.sound_laws.specs.events.UnderWay.{IsUnderWay, IsAboutBlock}

alloc-begins :
    (e : ErrandFields) (words : ℕ) (need : Need) → need_of words ≡ need → IsIdle e → IsBusy (begins_alloc e words need)
    → IsUnderWay e.caller (alloc words) (begins_alloc e words need).point []
alloc-begins e words (Small class) is idle busy =
    elim (cases_Bool (is_spent e)) [
      | inl spent ↦ let still : IsBusy e = rw spent at busy in absurd (true≢false (sym idle ∙ still))
      | inr left ↦ rw left (refl, is, (0, refl))
    ]
alloc-begins e words (Large units) is idle busy = (refl, is, refl)
alloc-begins e words TooLarge is idle busy = absurd (true≢false (sym idle ∙ busy))

free-begins :
    (e : ErrandFields) (place : ℕ) (need : Need) → IsIdle e → IsHeapBlock e.geometry place need → IsBusy (free_begun e place need)
    → IsUnderWay e.caller (free place need) (free_begun e place need).point []
unfolding free_begun
free-begins e place (Small class) idle block busy =
    let stands = block.1 in
    let f = frame_is stands.0 class stands.1 place stands.3 (sym stands.4) in
    let i = index_is stands.0 class stands.1 place stands.3 (sym stands.4) in
    (rw (f, i) (sym stands.4), refl, refl)
free-begins e place (Large units) idle block busy = (refl, refl, refl)
free-begins e place TooLarge idle block busy = absurd (true≢false (sym idle ∙ busy))

pub call-begins :
    (e : ErrandFields) (call : Call) → IsIdle e → IsAboutBlock e.geometry call → IsBusy (begun_by e call)
    → IsUnderWay e.caller call (begun_by e call).point []
unfolding alloc_begun write_begun read_begun put_begun take_begun
call-begins e (alloc words) idle about busy = alloc-begins e words (need_of words) refl idle busy
call-begins e (free place need) idle about busy = free-begins e place need idle about busy
call-begins e (write place need i value) idle about busy = (refl, refl, refl, refl)
call-begins e (read place need i) idle about busy = (refl, refl, refl)
call-begins e (put place need shelf) idle about busy = (refl, refl, refl, refl)
call-begins e (take shelf) idle about busy = (refl, refl)

-- an allocation for which nothing begins leaves the errand
large-stays : (e : ErrandFields) (words : ℕ) (need : Need) → begins_with e need ≡ begun.TooLarge → begins_alloc e words need ≡ e
large-stays e words need answers = grind (arith)

spent-stays : (e : ErrandFields) (words : ℕ) (need : Need) → begins_with e need ≡ begun.Spent → begins_alloc e words need ≡ e
spent-stays e words need answers = grind (arith)

spent-small : (e : ErrandFields) (need : Need) → begins_with e need ≡ begun.Spent → IsSpending e.caller need []
spent-small e (Small class) answers = (0, refl)
spent-small e (Large units) answers = absurd (grind (arith))
spent-small e TooLarge answers = absurd (grind (arith))

pub too_large-stays : (e : ErrandFields) (words : ℕ) → begins_with e (need_of words) ≡ begun.TooLarge → alloc_begun e words ≡ e
unfolding alloc_begun
too_large-stays e words answers = large-stays e words (need_of words) answers

pub spent-begins :
    (e : ErrandFields) (words : ℕ) → begins_with e (need_of words) ≡ begun.Spent
    → (alloc_begun e words ≡ e) × IsSpending e.caller (need_of words) []
unfolding alloc_begun
spent-begins e words answers = (spent-stays e words (need_of words) answers, spent-small e (need_of words) answers)

-- an allocation that starts, and every other call, makes its caller busy
start-busy : (e : ErrandFields) (words : ℕ) (need : Need) → begins_with e need ≡ begun.Started → IsBusy (begins_alloc e words need)
start-busy e words need answers = grind (arith)

pub started-busy : (e : ErrandFields) (words : ℕ) → begins_with e (need_of words) ≡ begun.Started → IsBusy (alloc_begun e words)
unfolding alloc_begun
started-busy e words answers = start-busy e words (need_of words) answers

free-busy : (e : ErrandFields) (place : ℕ) (need : Need) → IsHeapBlock e.geometry place need → IsBusy (free_begun e place need)
unfolding free_begun
free-busy e place (Small class) block = refl
free-busy e place (Large units) block = refl
free-busy e place TooLarge block = absurd block.1

pub other-busy :
    (e : ErrandFields) (call : Call) → IsAboutBlock e.geometry call → ((words : ℕ) → call ≢ alloc words) → IsBusy (begun_by e call)
unfolding write_begun read_begun put_begun take_begun
other-busy e (alloc words) about other = absurd (other words refl)
other-busy e (free place need) about other = free-busy e place need about
other-busy e (write place need i value) about other = refl
other-busy e (read place need i) about other = refl
other-busy e (put place need shelf) about other = refl
other-busy e (take shelf) about other = refl
