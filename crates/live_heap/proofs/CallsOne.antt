-- Calls of one step, and of two.
use Rattle.std.proofs.Common.{ℕ, Bool, true, false, ◌≡◌, ◌≢◌, ◌<◌, ◌⊎◌, inl, inr, List, Some, None, refl, sym, ap, ◌∙◌, subst, arith}
use Rattle.std.specs.Prelude.{◌==◌, if◌then◌else◌, not, slice_index_or}
use Rattle.std.proofs.lemmas.Bool.{cases_Bool, true≢false, eq-eqb}
use mathlib.Core.HLevel.{is_prop→PathP}
use Rattle.heap_geometry.specs.declared.geometry.Geometry.{Geometry}
use Rattle.heap_geometry.specs.declared.need.Need.{Need}
use Rattle.heap_geometry.specs.Need.{IsNeed}
use Rattle.packed_words.specs.declared.shelf.ShelfWord.TheVariants as lies
use Rattle.packed_words.specs.Shelf.{shelf_of, shelf_word}
use Rattle.word_table.specs.Actions.{is_won}
use Rattle.word_table.specs.declared.action.Found.{Found as Find}
use Rattle.step_parts.specs.declared.large.exit.LargeExit.TheVariants as large_exit
use Rattle.step_parts.specs.declared.large.point.LargePoint.{LargePoint}
use Rattle.step_parts.specs.declared.large.point.LargePoint.TheVariants as large
use Rattle.step_parts.specs.large.Points.{after_shelf}
use Rattle.pool_model.specs.declared.event.Event.{Event}
use Rattle.pool_model.specs.declared.owner.Owner.TheVariants.{Shelf}
use Rattle.pool_model.specs.Pool.{Block as PoolBlock, block_at, pool_of}
use Rattle.errand_steps.specs.declared.continuation.Continuation.{Continuation}
use Rattle.errand_steps.specs.declared.continuation.Continuation.TheVariants.{Nothing}
use Rattle.errand_steps.specs.declared.next.Next.TheVariants as next
use Rattle.errand_steps.specs.declared.point.Point.{Point}
use Rattle.errand_steps.specs.declared.point.Point.TheVariants as point
use Rattle.errand_steps.specs.declared.reply.Offer.{Offer}
use Rattle.errand_steps.specs.declared.reply.Progress.{Progress}
use Rattle.errand_steps.specs.declared.reply.Progress.TheVariants as progress
use Rattle.errand_steps.specs.declared.reply.Reply.{Reply}
use Rattle.errand_steps.specs.declared.reply.Reply.TheVariants as reply
use Rattle.errand_steps.specs.declared.told.Ending.{Ending}
use Rattle.errand_steps.specs.declared.told.Ending.TheVariants as ending
use Rattle.errand_steps.specs.declared.told.Stepped.{Stepped}
use Rattle.errand_steps.specs.declared.told.Stepped.TheVariants as step
use Rattle.errand_steps.specs.Begins.{IsIdle, write_begun, read_begun, put_begun, take_begun}
use Rattle.errand_steps.specs.Calls.{Call, begun_by, write, read, put, take}
use Rattle.errand_steps.specs.Errands.{ErrandFields, after_list, after_turn, answer_of, counts_cleared, counts_lost, counts_won, course_of, one_more, plan_of, settle_of, told as told_by}
use Rattle.errand_steps.specs.Nexts.{leave_large, next_of}
use Rattle.errand_steps.specs.Points.{plan_point_of}
use Rattle.sound_laws.specs.events.UnderWay.{IsUnderWay}
use Rattle.sound_laws.proofs.events_lemmas.OfferLemmas.{put-offers}
use Rattle.sound_state.specs.Answers.{StandsAt}
use Rattle.sound_laws.specs.bounds.StepsLeft.{steps_left}
use Rattle.errand_steps.proofs.BegunErrands.{idle-is}
use Rattle.step_machine.specs.Cores.{OwnsAfter}
use Rattle.step_machine.specs.Moments.{IsMoment}
use Rattle.step_machine.specs.Needs.{IsNeed-prop}
use Rattle.step_machine.proofs.MomentAnswers.{moment-meant, moment-owns}
use Rattle.live_heap.specs.declared.answers.Full.{Full}
use Rattle.live_heap.specs.declared.block.Block.{Block}
use Rattle.live_heap.specs.declared.pass.Pass.{Pass}
use Rattle.live_heap.specs.Answers.{HasBegun, HasStepped, IsContents, LiesOn, PutTellsFull, progress_of, reply_of, with_lost}
use Rattle.live_heap.specs.Calls.{HasCalled, IsCalling}
use Rattle.live_heap.specs.Passes.{IsHome, Owns, seen}
use Rattle.live_heap.proofs.CallsAnswers.{step-moment}
use Rattle.live_heap.proofs.LawsKept.{stays-home}
use Rattle.live_heap.proofs.CallsCounts.{goes-further, more-undone}
use Rattle.live_heap.proofs.CallsGrow.{IsSettled, settled-of, calls-go_on, calls-end}

-- a step that ends a call tells its ending
pub told-done :
    (told : Stepped Block) (r : Reply) → progress_of told ≡ progress.Done r → (end : Ending Block) × (told ≡ step.Done end) × (reply_of end ≡ r)
told-done step.Idle r is = absurd (cc)
told-done step.More r is = absurd (cc)
told-done step.Lost r is = absurd (cc)
told-done step.Cleared r is = absurd (cc)
told-done (step.Done end) r is = (end, refl, (cc))

pub told-more : (told : Stepped Block) → progress_of told ≡ progress.More → told ≡ step.More
told-more step.Idle is = absurd (cc)
told-more step.More is = refl
told-more step.Lost is = absurd (cc)
told-more step.Cleared is = absurd (cc)
told-more (step.Done end) is = absurd (cc)

-- the ending by its reply
ended-wrote : (end : Ending Block) → reply_of end ≡ reply.Wrote → end ≡ ending.Wrote
ended-wrote ending.Wrote is = refl
ended-wrote end is = absurd (cc)

ended-word : (end : Ending Block) (word : ℕ) → reply_of end ≡ reply.Word word → end ≡ ending.Word word
ended-word (ending.Word v) word is = cc
ended-word end word is = absurd (cc)

ended-put : (end : Ending Block) → reply_of end ≡ reply.Put → end ≡ ending.Put
ended-put ending.Put is = refl
ended-put end is = absurd (cc)

ended-full : (end : Ending Block) (found : ℕ) → reply_of end ≡ reply.Full found → (block : Block) × (end ≡ ending.Full block found)
ended-full (ending.Full block v) found is = (block, let same : v ≡ found = cc in ap (ending.Full block) same)
ended-full end found is = absurd (cc)

ended-got : (end : Ending Block) (place : ℕ) (need : Need) → reply_of end ≡ reply.Got place need → (block : Block) × (end ≡ ending.Got block)
ended-got (ending.Got block) place need is = (block, refl)
ended-got end place need is = absurd (cc)

ended-empty : (end : Ending Block) → reply_of end ≡ reply.Empty → end ≡ ending.Empty
ended-empty ending.Empty is = refl
ended-empty end is = absurd (cc)

ended-missed :
    (end : Ending Block) (expected found : ℕ) → reply_of end ≡ reply.Missed expected found → end ≡ ending.Missed expected found
ended-missed (ending.Missed a b) expected found is = cc
ended-missed end expected found is = absurd (cc)

-- what a step answers that leads to an end
pub end-answers : (e : ErrandFields) (x : Find) (p : Point) (r : Reply) → e.point ≡ p → next_of p x ≡ next.End r → answer_of e x ≡ progress.Done r
unfolding answer_of course_of
end-answers e x p r at is =
    ap (λ n. told_by (after_turn e (after_list e n)) (counts_lost e.point x) (counts_cleared e.point x)) (ap (λ q. next_of q x) at ∙ is)

-- the step of a pass that ends its call
pub ends-one :
    (first : Pass) (call : Call) (steps : ℕ) (p q : Pass) (told : Stepped Block) (end : Ending Block) → told ≡ step.Done end → HasStepped p q told
    → IsCalling first call steps p → HasCalled first call steps (reply_of end) q
ends-one first call steps p q told end is stepped calling =
    (calls-end first call steps p q (progress.Done (reply_of end)) (step-moment p q told (step.Done end) is stepped) (stepped.accesses, stepped.lent) calling (reply_of end) refl).0

-- a step that leads to an end tells the ending
ends-told :
    (p q : Pass) (told : Stepped Block) (at : Point) (r : Reply) → p.errand.point ≡ at
    → (s : IsSettled p.errand q.errand (seen p) (seen q) (progress_of told)) → next_of at s.x ≡ next.End r
    → (end : Ending Block) × (told ≡ step.Done end) × (reply_of end ≡ r)
ends-told p q told at r stands s is = told-done told r (s.answers ∙ end-answers p.errand s.x at r stands is)

pub stepped-settled : (p q : Pass) (told : Stepped Block) → HasStepped p q told → IsSettled p.errand q.errand (seen p) (seen q) (progress_of told)
stepped-settled p q told stepped = settled-of p.errand q.errand (seen p) (seen q) (progress_of told) stepped.moment

-- where a pass stands that has begun a write, a read, a put or a take
write-point : (p b : Pass) (place : ℕ) (need : Need) (i v : ℕ) → HasBegun p (write place need i v) b → b.errand.point ≡ point.Large (large.StoreWord place i v) Nothing
unfolding write_begun
write-point p b place need i v since = ap (λ (e : ErrandFields). e.point) since.errand

read-point : (p b : Pass) (place : ℕ) (need : Need) (i : ℕ) → HasBegun p (read place need i) b → b.errand.point ≡ point.Large (large.LoadWord place i) Nothing
unfolding read_begun
read-point p b place need i since = ap (λ (e : ErrandFields). e.point) since.errand

pub put-point :
    (p b : Pass) (place : ℕ) (need : Need) (shelf : ℕ) → HasBegun p (put place need shelf) b
    → b.errand.point ≡ point.Large (large.PutBlock shelf place need) Nothing
unfolding put_begun
put-point p b place need shelf since = ap (λ (e : ErrandFields). e.point) since.errand

take-point : (p b : Pass) (shelf : ℕ) → HasBegun p (take shelf) b → b.errand.point ≡ point.Large (large.LoadShelf shelf) Nothing
unfolding take_begun
take-point p b shelf since = ap (λ (e : ErrandFields). e.point) since.errand

-- what follows the steps of a write, a read, a put and a take
pub store-ends : (place i v : ℕ) (o : Continuation) (x : Find) → next_of (point.Large (large.StoreWord place i v) o) x ≡ next.End reply.Wrote
unfolding next_of
store-ends place i v o x = refl

pub load-ends : (place i : ℕ) (o : Continuation) (x : Find) → next_of (point.Large (large.LoadWord place i) o) x ≡ next.End (reply.Word x.value)
unfolding next_of
load-ends place i o x = refl

pub put-won :
    (shelf place : ℕ) (need : Need) (o : Continuation) (x : Find) → x.won ≡ true
    → next_of (point.Large (large.PutBlock shelf place need) o) x ≡ next.End reply.Put
unfolding next_of
put-won shelf place need o x won = ap (λ w. leave_large (if w then large_exit.PutDone else large_exit.ShelfFull x.value) o) won

pub put-lost :
    (shelf place : ℕ) (need : Need) (o : Continuation) (x : Find) → x.won ≡ false
    → next_of (point.Large (large.PutBlock shelf place need) o) x ≡ next.End (reply.Full x.value)
unfolding next_of
put-lost shelf place need o x lost = ap (λ w. leave_large (if w then large_exit.PutDone else large_exit.ShelfFull x.value) o) lost

-- a point from which each step ends the call
abbrev pub EndsNext : Point → Type 0
EndsNext p = (x : Find) → (r : Reply) × (next_of p x ≡ next.End r)

pub put-ends : (shelf place : ℕ) (need : Need) (o : Continuation) → EndsNext (point.Large (large.PutBlock shelf place need) o)
put-ends shelf place need o x =
    elim (cases_Bool x.won) [
      | inl won ↦ (reply.Put, put-won shelf place need o x won)
      | inr lost ↦ (reply.Full x.value, put-lost shelf place need o x lost)
    ]

pub take-won :
    (shelf place : ℕ) (need : Need) (o : Continuation) (x : Find) → x.won ≡ true
    → next_of (point.Large (large.TakeBlock shelf place need) o) x ≡ next.End (reply.Got place need)
unfolding next_of
take-won shelf place need o x won =
    ap (λ w. leave_large (if w then large_exit.Got place need else large_exit.Missed (shelf_word (lies.Block place need)) x.value) o) won

pub take-lost :
    (shelf place : ℕ) (need : Need) (o : Continuation) (x : Find) → x.won ≡ false
    → next_of (point.Large (large.TakeBlock shelf place need) o) x ≡ next.End (reply.Missed (shelf_word (lies.Block place need)) x.value)
unfolding next_of
take-lost shelf place need o x lost =
    ap (λ w. leave_large (if w then large_exit.Got place need else large_exit.Missed (shelf_word (lies.Block place need)) x.value) o) lost

pub none-won :
    (shelf : ℕ) (o : Continuation) (x : Find) → x.won ≡ true → next_of (point.Large (large.ConfirmNothing shelf) o) x ≡ next.End reply.Empty
unfolding next_of
none-won shelf o x won = ap (λ w. leave_large (if w then large_exit.NothingThere else large_exit.Missed (shelf_word lies.Nothing) x.value) o) won

pub none-lost :
    (shelf : ℕ) (o : Continuation) (x : Find) → x.won ≡ false
    → next_of (point.Large (large.ConfirmNothing shelf) o) x ≡ next.End (reply.Missed (shelf_word lies.Nothing) x.value)
unfolding next_of
none-lost shelf o x lost = ap (λ w. leave_large (if w then large_exit.NothingThere else large_exit.Missed (shelf_word lies.Nothing) x.value) o) lost

-- a write has ended behind its one step, and a read
pub write-told :
    (p b q : Pass) (place : ℕ) (need : Need) (i v : ℕ) (told : Stepped Block) → HasBegun p (write place need i v) b → HasStepped b q told
    → told ≡ step.Done ending.Wrote
write-told p b q place need i v told since stepped =
    let s = stepped-settled b q told stepped in
    let d = ends-told b q told (point.Large (large.StoreWord place i v) Nothing) reply.Wrote (write-point p b place need i v since) s (store-ends place i v Nothing s.x) in
    d.1 ∙ ap step.Done (ended-wrote d.0 d.2)

pub read-told :
    (p b q : Pass) (place : ℕ) (need : Need) (i : ℕ) (told : Stepped Block) → HasBegun p (read place need i) b → HasStepped b q told
    → (word : ℕ) × (told ≡ step.Done (ending.Word word))
read-told p b q place need i told since stepped =
    let s = stepped-settled b q told stepped in
    let d = ends-told b q told (point.Large (large.LoadWord place i) Nothing) (reply.Word s.x.value) (read-point p b place need i since) s (load-ends place i Nothing s.x) in
    (s.x.value, d.1 ∙ ap step.Done (ended-word d.0 s.x.value d.2))

-- where the caller stood at its step
stands-there :
    (first : Pass) (call : Call) (steps : ℕ) (p q : Pass) (answer : Progress)
    (m : IsMoment p.errand q.errand (seen p) (seen q) answer) (at : LargePoint) (stands : StandsAt m.state p.errand.caller at)
    (c : IsCalling first call steps p) → IsUnderWay first.errand.caller call (point.Large at stands.0) c.added
stands-there first call steps p q answer m at stands c =
    subst (λ (x : Point). IsUnderWay first.errand.caller call x c.added)
    (sym (ap (λ (e : ErrandFields). e.point) m.here) ∙ stands.1) c.under_way

-- the word that was read is what the block holds there
pub read-contents :
    (p b q : Pass) (place : ℕ) (need : Need) (i word steps : ℕ) (told : Stepped Block) → told ≡ step.Done (ending.Word word) → HasStepped b q told
    → IsCalling p (read place need i) steps b → IsContents q place i word
read-contents p b q place need i word steps told is stepped calling =
    let r : Reply = reply.Word word in
    let m = step-moment b q told (step.Done (ending.Word word)) is stepped in
    let says = moment-meant b.errand q.errand (seen b) (seen q) (progress.Done r) m r refl in
    let at = stands-there p (read place need i) steps b q (progress.Done r) m (large.LoadWord says.0 says.1) says.3 calling in
    let live : block_at place (pool_of (seen q)) ≡ Some says.2 =
    subst (λ k. block_at k (pool_of (seen q)) ≡ Some says.2) at.0 (subst (λ h. block_at says.0 (pool_of h) ≡ Some says.2) m.now says.4) in
    λ block written there set.
    let same : block ≡ says.2 = let both : Some block ≡ Some says.2 = sym there ∙ live in cc in
    says.8 written (ap (λ k. slice_index_or says.2.contents k None) at.1 ∙ (ap (λ (y : PoolBlock). slice_index_or y.contents i None) (sym same) ∙ set))

-- blocks are the same that lie at one place and serve one need
pub block-same : (a b : Block) → a.place ≡ b.place → a.need ≡ b.need → a ≡ b
block-same a b place need =
    λ i. record { place = place i; need = need i; is_need = is_prop→PathP (λ j. IsNeed (need j)) (λ j. IsNeed-prop (need j)) a.is_need b.is_need i }

-- a put has ended behind its one step, or has found the shelf full
pub put-told :
    (p b q : Pass) (place : ℕ) (need : Need) (shelf : ℕ) (told : Stepped Block) → HasBegun p (put place need shelf) b → HasStepped b q told
    → (told ≡ step.Done ending.Put) ⊎ ((block : Block) × (found : ℕ) × (told ≡ step.Done (ending.Full block found)))
put-told p b q place need shelf told since stepped =
    let s = stepped-settled b q told stepped in
    let at = put-point p b place need shelf since in
    let there : Point = point.Large (large.PutBlock shelf place need) Nothing in
    elim (cases_Bool s.x.won) [
      | inl won ↦
          let d = ends-told b q told there reply.Put at s (put-won shelf place need Nothing s.x won) in
          inl (d.1 ∙ ap step.Done (ended-put d.0 d.2))
      | inr lost ↦
          let d = ends-told b q told there (reply.Full s.x.value) at s (put-lost shelf place need Nothing s.x lost) in
          let f = ended-full d.0 s.x.value d.2 in
          inr (f.0, s.x.value, d.1 ∙ ap step.Done f.1)
    ]

-- an exchange that isn't won has found another word
lost-differs : (x : Find) (expected : ℕ) → x.won ≡ (x.value == expected) → x.won ≡ false → x.value ≢ expected
lost-differs x expected is lost same = true≢false (sym (eq-eqb x.value expected same) ∙ (sym is ∙ lost))

-- the word of an empty shelf
nothing-word : shelf_word lies.Nothing ≡ 0
unfolding shelf_word
nothing-word = refl

-- what the exchange of a put says that it found
put-planned :
    (e : ErrandFields) (shelf place : ℕ) (need : Need) (o : Continuation) (word : ℕ) → e.point ≡ point.Large (large.PutBlock shelf place need) o
    → is_won (plan_of e) word ≡ (word == shelf_word lies.Nothing)
unfolding plan_point_of
put-planned e shelf place need o word at = ap (λ p. is_won (plan_point_of p) word) at

-- a word that was found on a full shelf isn't that of an empty one
full-found :
    (b q : Pass) (place : ℕ) (need : Need) (shelf : ℕ) (o : Continuation) (told : Stepped Block) (block : Block) (found : ℕ)
    → told ≡ step.Done (ending.Full block found) → b.errand.point ≡ point.Large (large.PutBlock shelf place need) o → HasStepped b q told → found ≢ 0
full-found b q place need shelf o told block found is at stepped =
    let s = stepped-settled b q told stepped in
    let there : Point = point.Large (large.PutBlock shelf place need) o in
    let says : progress_of told ≡ progress.Done (reply.Full found) = ap progress_of is in
    elim (cases_Bool s.x.won) [
      | inl won ↦
          let answers = s.answers ∙ end-answers b.errand s.x there reply.Put at (put-won shelf place need o s.x won) in
          absurd (let both : progress.Done (reply.Full found) ≡ progress.Done reply.Put = sym says ∙ answers in cc)
      | inr lost ↦
          let answers = s.answers ∙ end-answers b.errand s.x there (reply.Full s.x.value) at (put-lost shelf place need o s.x lost) in
          let same : found ≡ s.x.value =
          let both : progress.Done (reply.Full found) ≡ progress.Done (reply.Full s.x.value) = sym says ∙ answers in cc in
          λ zero.
          lost-differs s.x (shelf_word lies.Nothing) (s.won ∙ put-planned b.errand shelf place need o s.x.value at) lost
          (sym same ∙ (zero ∙ sym nothing-word))
    ]

-- a put that found a full shelf has its block back, still the pass's; and another one lies on the shelf
pub full-tells :
    (p b q : Pass) (place : ℕ) (need : Need) (shelf steps : ℕ) (told : Stepped Block) (block : Block) (found : ℕ) → told ≡ step.Done (ending.Full block found)
    → HasStepped b q told → IsCalling p (put place need shelf) steps b → IsHome b place
    → (block.place ≡ place) × (block.need ≡ need) × Owns q block × LiesOn q shelf found × (found ≢ 0)
full-tells p b q place need shelf steps told block found is stepped calling home =
    let r : Reply = reply.Full found in
    let s : HasStepped b q (step.Done (ending.Full block found)) = subst (HasStepped b q) is stepped in
    let says = moment-meant b.errand q.errand (seen b) (seen q) (progress.Done r) s.moment r refl in
    let at = stands-there p (put place need shelf) steps b q (progress.Done r) s.moment (large.PutBlock says.0 says.1 says.2) says.3 calling in
    let offer : Offer = record { place = place; need = need } in
    let back : Offer = record { place = block.place; need = block.need } in
    let same : back ≡ offer =
    let both : Some back ≡ Some offer =
    sym s.back ∙ put-offers p.errand.caller place need shelf b.errand.point calling.added calling.under_way in cc in
    let owned = moment-owns b.errand q.errand (seen b) (seen q) (progress.Done r) s.moment says.1 says.2 says.4 in
    let place_is : block.place ≡ place = ap (λ (o : Offer). o.place) same in
    let need_is : block.need ≡ need = ap (λ (o : Offer). o.need) same in
    let O : ℕ → Need → Type 0 = λ k n. OwnsAfter (seen q) q.errand.caller k n in
    let mine : O place need = subst (O place) at.1 (subst (λ k. O k says.2) at.0 owned) in
    let holds = says.5 in (
      place_is,
      need_is,
      (
        subst (O block.place) (sym need_is) (subst (λ k. O k need) (sym place_is) mine),
        stays-home b q block.place stepped.lent (subst (IsHome b) (sym place_is) home),
      ),
      (
        holds.0,
        subst (λ h. block_at holds.0.place (pool_of h) ≡ Some holds.0) s.moment.now holds.1,
        holds.2 ∙ ap Shelf at.2,
        holds.3,
      ),
      full-found b q says.1 says.2 says.0 says.3.0 told block found is (sym (ap (λ (e : ErrandFields). e.point) s.moment.here) ∙ says.3.1) stepped,
    )

pub put-full :
    (p b q : Pass) (block : Block) (shelf : ℕ) (told : Stepped Block) (full : Full) → told ≡ step.Done (ending.Full full.block full.found)
    → HasStepped b q told → IsCalling p (put block.place block.need shelf) 0 b → IsHome p block.place → PutTellsFull p block shelf full q
put-full p b q block shelf told full is stepped calling home =
    let tells = full-tells p b q block.place block.need shelf 0 told full.block full.found is stepped calling
    (stays-home p b block.place calling.lent home) in
    record {
      called = ends-one p (put block.place block.need shelf) 0 b q told (ending.Full full.block full.found) is stepped calling;
      same = block-same full.block block tells.0 tells.1;
      owned = tells.2;
      lies = tells.3;
      not_empty = tells.4;
    }

-- the first step of a take leads on
pub shelf-loads :
    (e : ErrandFields) (shelf : ℕ) (x : Find) → e.point ≡ point.Large (large.LoadShelf shelf) Nothing → answer_of e x ≡ progress.More
unfolding answer_of course_of next_of plan_point_of
shelf-loads e shelf x at =
    ap (λ p. told_by (after_turn e (after_list e (next_of p x))) (counts_lost p x) (counts_cleared p x)) at

first-more :
    (p b q : Pass) (shelf : ℕ) (told : Stepped Block) → HasBegun p (take shelf) b → HasStepped b q told → told ≡ step.More
first-more p b q shelf told since stepped =
    let s = stepped-settled b q told stepped in
    told-more told (s.answers ∙ shelf-loads b.errand shelf s.x (take-point p b shelf since))

-- the points of a take from which one step is left
abbrev pub IsAtTake : ℕ → Point → Type 0
IsAtTake shelf p =
    ((place : ℕ) × (need : Need) × (o : Continuation) × (p ≡ point.Large (large.TakeBlock shelf place need) o))
    ⊎ ((o : Continuation) × (p ≡ point.Large (large.ConfirmNothing shelf) o))

large-take :
    (g : Geometry) (caller shelf : ℕ) (p : LargePoint) (o : Continuation) (es : List Event) → IsUnderWay caller (take shelf) (point.Large p o) es
    → steps_left g (point.Large p o) < 2 → IsAtTake shelf (point.Large p o)
unfolding steps_left
large-take g caller shelf (large.TakeBlock k place need) o es so less =
    inl (place, need, o, ap (λ n. point.Large (large.TakeBlock n place need) o) so.0)
large-take g caller shelf (large.ConfirmNothing k) o es so less = inr (o, ap (λ n. point.Large (large.ConfirmNothing n) o) so.0)
large-take g caller shelf (large.LoadShelf k) o es so less = absurd (omega (arith, less))
large-take g caller shelf p o es so less = absurd so

stands-take :
    (g : Geometry) (caller shelf : ℕ) (p : Point) (es : List Event) → IsUnderWay caller (take shelf) p es → steps_left g p < 2
    → IsAtTake shelf p
stands-take g caller shelf point.Idle es so less = absurd so
stands-take g caller shelf (point.Block p o) es so less = absurd (grind (arith))
stands-take g caller shelf (point.Stack p o) es so less = absurd (grind (arith))
stands-take g caller shelf (point.Desc p o) es so less = absurd (grind (arith))
stands-take g caller shelf (point.Partial p o) es so less = absurd (grind (arith))
stands-take g caller shelf (point.Large p o) es so less = large-take g caller shelf p o es so less

load-left : (g : Geometry) (shelf : ℕ) → steps_left g (point.Large (large.LoadShelf shelf) Nothing) ≡ 2
unfolding steps_left
load-left g shelf = refl

-- behind the first step of a take one step is left
pub second-stands :
    (caller shelf : ℕ) (before e f : ErrandFields) (was now added : List Event) (answer : Progress) → e ≡ begun_by before (take shelf)
    → IsMoment e f was now answer → IsUnderWay caller (take shelf) f.point added → IsAtTake shelf f.point
unfolding take_begun
second-stands caller shelf before e f was now added answer begun m way =
    let s = settled-of e f was now answer m in
    let at : e.point ≡ point.Large (large.LoadShelf shelf) Nothing = ap (λ (d : ErrandFields). d.point) begun in
    let more : answer ≡ progress.More = s.answers ∙ shelf-loads e shelf s.x at in
    let g = e.geometry in
    let fewer = (goes-further e f was now (subst (IsMoment e f was now) more m)).fewer in
    let two : steps_left g e.point ≡ 2 = ap (steps_left g) at ∙ load-left g shelf in
    stands-take g caller shelf f.point added way (omega (arith, fewer, two))

-- a take goes on behind its first step
pub take-goes_on :
    (p b a : Pass) (shelf : ℕ) (told : Stepped Block) → HasBegun p (take shelf) b → HasStepped b a told → IsCalling p (take shelf) 0 b
    → IsCalling p (take shelf) 1 a × IsAtTake shelf a.errand.point
take-goes_on p b a shelf told since stepped calling =
    let more = first-more p b a shelf told since stepped in
    let m = step-moment b a told step.More more stepped in
    let on = calls-go_on p (take shelf) 0 b a progress.More m (stepped.accesses, stepped.lent) calling more-undone in
    (on, second-stands p.errand.caller shelf p.errand b.errand a.errand (seen b) (seen a) on.added progress.More since.errand m on.under_way)

-- how a take has ended
pub take-told :
    (a q : Pass) (shelf : ℕ) (told : Stepped Block) → IsAtTake shelf a.errand.point → HasStepped a q told
    → ((block : Block) × (told ≡ step.Done (ending.Got block))) ⊎ (told ≡ step.Done ending.Empty)
    ⊎ ((expected : ℕ) × (found : ℕ) × (told ≡ step.Done (ending.Missed expected found)))
take-told a q shelf told (inl (place, need, o, at)) stepped =
    let s = stepped-settled a q told stepped in
    let there : Point = point.Large (large.TakeBlock shelf place need) o in
    elim (cases_Bool s.x.won) [
      | inl won ↦
          let d = ends-told a q told there (reply.Got place need) at s (take-won shelf place need o s.x won) in
          let f = ended-got d.0 place need d.2 in
          inl (f.0, d.1 ∙ ap step.Done f.1)
      | inr lost ↦
          let saw = shelf_word (lies.Block place need) in
          let d = ends-told a q told there (reply.Missed saw s.x.value) at s (take-lost shelf place need o s.x lost) in
          inr (inr (saw, s.x.value, d.1 ∙ ap step.Done (ended-missed d.0 saw s.x.value d.2)))
    ]
take-told a q shelf told (inr (o, at)) stepped =
    let s = stepped-settled a q told stepped in
    let there : Point = point.Large (large.ConfirmNothing shelf) o in
    elim (cases_Bool s.x.won) [
      | inl won ↦
          let d = ends-told a q told there reply.Empty at s (none-won shelf o s.x won) in
          inr (inl (d.1 ∙ ap step.Done (ended-empty d.0 d.2)))
      | inr lost ↦
          let saw = shelf_word lies.Nothing in
          let d = ends-told a q told there (reply.Missed saw s.x.value) at s (none-lost shelf o s.x lost) in
          inr (inr (saw, s.x.value, d.1 ∙ ap step.Done (ended-missed d.0 saw s.x.value d.2)))
    ]

-- an errand whose step leads to a point and counts nothing, and one whose step loses and ends its call
at-settles :
    (e : ErrandFields) (x : Find) (p : Point) → next_of e.point x ≡ next.At p → counts_won (plan_of e) x ≡ false
    → counts_lost e.point x ≡ false → counts_cleared e.point x ≡ false → settle_of e x ≡ record e { point = p }
unfolding settle_of course_of
at-settles e x p is won lost cleared = rw (is, won, lost, cleared) refl

end-settles :
    (e : ErrandFields) (x : Find) (r : Reply) → next_of e.point x ≡ next.End r → counts_won (plan_of e) x ≡ false
    → counts_lost e.point x ≡ true → counts_cleared e.point x ≡ false → settle_of e x ≡ record e { point = point.Idle; lost = one_more e.lost }
unfolding settle_of course_of
end-settles e x r is won lost cleared = rw (is, won, lost, cleared) refl

-- where a shelf's word leads is a point
load-leads : (shelf : ℕ) (x : Find) → (p : Point) × (next_of (point.Large (large.LoadShelf shelf) Nothing) x ≡ next.At p)
unfolding next_of
load-leads shelf x = (point.Large (after_shelf shelf (shelf_of x.value)) Nothing, refl)

-- the counts of the steps of a take
record IsQuiet (p : Point) (x : Find) (loses : Bool) : Type 0 where
  pub won : counts_won (plan_point_of p) x ≡ false
  pub lost : counts_lost p x ≡ loses
  pub cleared : counts_cleared p x ≡ false

load-quiet : (shelf : ℕ) (x : Find) → IsQuiet (point.Large (large.LoadShelf shelf) Nothing) x false
unfolding plan_point_of
load-quiet shelf x = record { won = refl; lost = refl; cleared = refl }

take-quiet :
    (shelf place : ℕ) (need : Need) (o : Continuation) (x : Find) → x.won ≡ false → IsQuiet (point.Large (large.TakeBlock shelf place need) o) x true
unfolding plan_point_of
take-quiet shelf place need o x lost = record { won = rw lost refl; lost = ap not lost; cleared = refl }

none-quiet : (shelf : ℕ) (o : Continuation) (x : Find) → x.won ≡ false → IsQuiet (point.Large (large.ConfirmNothing shelf) o) x true
unfolding plan_point_of
none-quiet shelf o x lost = record { won = rw lost refl; lost = ap not lost; cleared = refl }

-- the first step of a take moves its errand on, and counts nothing
pub first-errand :
    (before e f : ErrandFields) (shelf : ℕ) (x : Find) → e ≡ begun_by before (take shelf) → f ≡ settle_of e x
    → (at : Point) × (f ≡ record before { point = at })
unfolding take_begun
first-errand before e f shelf x begun settled =
    let at : e.point ≡ point.Large (large.LoadShelf shelf) Nothing = ap (λ (d : ErrandFields). d.point) begun in
    let leads = load-leads shelf x in
    let quiet = subst (λ q. IsQuiet q x false) (sym at) (load-quiet shelf x) in (
      leads.0,
      settled
          ∙ (at-settles e x leads.0 (ap (λ q. next_of q x) at ∙ leads.1) quiet.won quiet.lost quiet.cleared
          ∙ ap (λ (d : ErrandFields). record d { point = leads.0 }) begun),
    )

-- a step that ends its call and loses leaves an idle errand with one lost exchange more
missed-errand :
    (a q : Pass) (told : Stepped Block) (r : Reply) (at : Point) (stepped : HasStepped a q told) → a.errand.point ≡ at
    → next_of at (stepped-settled a q told stepped).x ≡ next.End r → IsQuiet at (stepped-settled a q told stepped).x true
    → q.errand ≡ record a.errand { point = point.Idle; lost = one_more a.errand.lost }
missed-errand a q told r at stepped stands is quiet =
    let s = stepped-settled a q told stepped in
    let here = subst (λ p. IsQuiet p s.x true) (sym stands) quiet in
    s.settled ∙ end-settles a.errand s.x r (ap (λ p. next_of p s.x) stands ∙ is) here.won here.lost here.cleared

not-missed : (told : Stepped Block) (r : Reply) (expected found : ℕ) → told ≡ step.Done (ending.Missed expected found) → progress_of told ≡ progress.Done r → r ≡ reply.Missed expected found
not-missed told r expected found is answers =
    let both : progress.Done r ≡ progress.Done (reply.Missed expected found) = sym answers ∙ ap progress_of is in cc

second-errand :
    (a q : Pass) (shelf : ℕ) (told : Stepped Block) (expected found : ℕ) → told ≡ step.Done (ending.Missed expected found)
    → IsAtTake shelf a.errand.point → HasStepped a q told
    → q.errand ≡ record a.errand { point = point.Idle; lost = one_more a.errand.lost }
second-errand a q shelf told expected found is (inl (place, need, o, at)) stepped =
    let s = stepped-settled a q told stepped in
    let there : Point = point.Large (large.TakeBlock shelf place need) o in
    elim (cases_Bool s.x.won) [
      | inl won ↦
          let r : Reply = reply.Got place need in
          let same = not-missed told r expected found is (s.answers ∙ end-answers a.errand s.x there r at (take-won shelf place need o s.x won)) in
          absurd (cc)
      | inr lost ↦
          missed-errand a q told (reply.Missed (shelf_word (lies.Block place need)) s.x.value) there stepped at
          (take-lost shelf place need o s.x lost) (take-quiet shelf place need o s.x lost)
    ]
second-errand a q shelf told expected found is (inr (o, at)) stepped =
    let s = stepped-settled a q told stepped in
    let there : Point = point.Large (large.ConfirmNothing shelf) o in
    elim (cases_Bool s.x.won) [
      | inl won ↦
          let r : Reply = reply.Empty in
          let same = not-missed told r expected found is (s.answers ∙ end-answers a.errand s.x there r at (none-won shelf o s.x won)) in
          absurd (cc)
      | inr lost ↦
          missed-errand a q told (reply.Missed (shelf_word lies.Nothing) s.x.value) there stepped at
          (none-lost shelf o s.x lost) (none-quiet shelf o s.x lost)
    ]

-- a take that misses has lost one exchange more than before, and its errand is the same in all else
pub missed-lost :
    (before e : ErrandFields) (a q : Pass) (shelf : ℕ) (x : Find) (told : Stepped Block) (expected found : ℕ)
    → told ≡ step.Done (ending.Missed expected found) → IsIdle before → e ≡ begun_by before (take shelf) → a.errand ≡ settle_of e x
    → IsAtTake shelf a.errand.point → HasStepped a q told → q.errand ≡ with_lost before
missed-lost before e a q shelf x told expected found is idle begun settled at stepped =
    let moved = first-errand before e a.errand shelf x begun settled in
    second-errand a q shelf told expected found is at stepped
    ∙ (ap (λ (d : ErrandFields). record d { point = point.Idle; lost = one_more d.lost }) moved.1
    ∙ ap (λ (k : Point). record before { point = k; lost = one_more before.lost }) (sym (idle-is before.point idle)))

-- a take that misses leaves everything but the count of lost exchanges
pub take-missed :
    (p b a q : Pass) (shelf : ℕ) (first told : Stepped Block) (expected found : ℕ) → told ≡ step.Done (ending.Missed expected found)
    → IsIdle p.errand → HasBegun p (take shelf) b → HasStepped b a first → IsAtTake shelf a.errand.point → HasStepped a q told
    → (expected ≢ found) × (q.errand ≡ with_lost p.errand)
take-missed p b a q shelf first told expected found is idle since one at two =
    let r : Reply = reply.Missed expected found in
    let m = step-moment a q told (step.Done (ending.Missed expected found)) is two in
    let says = moment-meant a.errand q.errand (seen a) (seen q) (progress.Done r) m r refl in
    let s = stepped-settled b a first one in
    (says.2, missed-lost p.errand b.errand a q shelf s.x told expected found is idle since.errand s.settled at two)
