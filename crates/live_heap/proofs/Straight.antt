-- Calls on usable words, which are one step each.
use Rattle.std.proofs.Common.{ℕ, ◌≡◌, ◌≢◌, ◌<◌, ◌≤◌, ◌+◌, ◌*◌, ◌%◌, ◌^◌, ◌∙◌, refl, sym, ap, arith, pow_pos}
use Rattle.std.proofs.lemmas.Nat.{mul-mod_second}
use Rattle.heap_geometry.specs.declared.geometry.Geometry.{Geometry}
use Rattle.heap_geometry.specs.declared.need.Need.{Need}
use Rattle.heap_geometry.specs.declared.need.Need.TheVariants.{Small, Large, TooLarge}
use Rattle.heap_geometry.specs.Geometry.{IsChecked}
use Rattle.heap_geometry.specs.Need.{usable_words}
use Rattle.heap_geometry.proofs.NeedLemmas.{double}
use Rattle.heap_geometry.proofs.PlaceLemmas.{block-within}
use Rattle.word_table.specs.declared.action.Action.TheVariants.{Load, Store}
use Rattle.word_table.specs.declared.action.Found.{Found as Find}
use Rattle.word_table.specs.declared.name.WordName.TheVariants.{Arena}
use Rattle.word_table.specs.Counts.{arena_words, word_count}
use Rattle.word_table.specs.Table.{start_of, word_index, words_in}
use Rattle.step_parts.specs.declared.large.point.LargePoint.TheVariants as large
use Rattle.errand_steps.specs.declared.continuation.Continuation.TheVariants.{Nothing}
use Rattle.errand_steps.specs.declared.point.Point.{Point}
use Rattle.errand_steps.specs.declared.point.Point.TheVariants as point
use Rattle.errand_steps.specs.declared.reply.Progress.TheVariants.{Done}
use Rattle.errand_steps.specs.declared.reply.Reply.TheVariants as reply
use Rattle.errand_steps.specs.declared.told.Ending.{Ending}
use Rattle.errand_steps.specs.declared.told.Stepped.TheVariants as step
use Rattle.errand_steps.specs.Begins.{IsIdle, IsBusy, IsHeapBlock, write_begun, read_begun}
use Rattle.errand_steps.specs.Calls.{Call, alloc, begun_by, write, read}
use Rattle.errand_steps.specs.Errands.{ErrandFields, plan_of, settle_of, answer_of, course_of}
use Rattle.errand_steps.specs.Nexts.{next_of}
use Rattle.errand_steps.specs.Points.{plan_point_of}
use Rattle.errand_steps.specs.Offers.{offered_at}
use Rattle.errand_steps.specs.Told.{GivesBack}
use Rattle.sound_laws.specs.events.UnderWay.{IsAboutBlock}
use Rattle.sound_state.specs.Runs.{MayBegin}
use Rattle.errand_steps.proofs.BegunErrands.{idle-is}
use Rattle.live_heap.specs.declared.block.Block.{Block}
use Rattle.live_heap.specs.Heaps.{HeapFields}
use Rattle.live_heap.specs.declared.pass.Pass.{Pass}
use Rattle.live_heap.specs.Answers.{HasStepped, block_need, block_place, reply_of}
use Rattle.live_heap.specs.Calls.{HasCalled, IsCalling}
use Rattle.live_heap.specs.Going.{in_call}
use Rattle.live_heap.specs.declared.view.View.{View}
use Rattle.live_heap.specs.Pieces.{IsReady}
use Rattle.live_heap.specs.Passes.{IsOf, seen, view}
use Rattle.live_heap.specs.Sights.{IsSightOf, TakesStep, after_events, found_in}
use Rattle.live_heap.proofs.Begun.{CallsHome, begins-of}
use Rattle.live_heap.proofs.CallsGrow.{other-calling}
use Rattle.live_heap.proofs.CallsOne.{end-answers, ends-one, store-ends, load-ends}
use Rattle.live_heap.proofs.Stepped.{of-sight, still-of, took-access, took-step}

-- a usable word of a block lies in the arena
pub payload-within : (g : Geometry) (place : ℕ) (n : Need) (i : ℕ) → IsHeapBlock g place n → i < usable_words n → place + 1 + i < arena_words g
payload-within g place (Small class) i (needs, (frame, index, has, within, is)) below =
    omega (arith, block-within class index within, is, has, below)
payload-within g place (Large units) i (needs, (unit, within, is)) below = omega (arith, is, within, below)
payload-within g place TooLarge i (needs, nowhere) below = absurd nowhere

-- a block's usable words end within the arena
pub payload-end : (g : Geometry) (place : ℕ) (n : Need) → IsHeapBlock g place n → place + 1 + usable_words n ≤ arena_words g
payload-end g place (Small class) (needs, (frame, index, has, within, is)) =
    omega (arith, block-within class index within, is, has, pow_pos (class + 1))
payload-end g place (Large units) (needs, (unit, within, is)) = omega (arith, is, within, needs.0)
payload-end g place TooLarge (needs, nowhere) = absurd nowhere

-- a block's prefix word has an even number
heap-even : (g : Geometry) (place : ℕ) (n : Need) → IsHeapBlock g place n → place % 2 ≡ 0
heap-even g place (Small class) (needs, (frame, index, has, within, is)) =
    let width : 2 ^ (class + 1) % 2 ≡ 0 = omega (arith, double class) in
    let nothing : index * 0 % 2 ≡ 0 = omega arith in
    let even : index * 2 ^ (class + 1) % 2 ≡ 0 =
    sym (mul-mod_second index (2 ^ (class + 1)) 2) ∙ ap (λ k. index * k % 2) width ∙ nothing in
    omega (arith, is, even)
heap-even g place (Large units) (needs, (unit, within, is)) = omega (arith, is)
heap-even g place TooLarge (needs, nowhere) = absurd nowhere

-- so its first usable word has an odd one
pub payload-odd : (g : Geometry) (place first : ℕ) (n : Need) → IsHeapBlock g place n → first ≡ place + 1 → first % 2 ≡ 1
payload-odd g place first n own is = omega (arith, is, heap-even g place n own)

-- the arena is within the table, and its words are no more than a number of 32 bits says
pub arena-within : (g : Geometry) (k : ℕ) → k < arena_words g → k < word_count g
unfolding word_count
arena-within g k within = omega (arith, within)

pub arena-short : (g : Geometry) (k : ℕ) → IsChecked g → k < arena_words g → k < 2 ^ 32
arena-short g k checked within = omega (arith, within, checked.frames.1, checked.units.1)

-- the table begins with the arena
pub arena-index : (g : Geometry) (k : ℕ) → k ≡ word_index g (Arena k)
unfolding word_index start_of words_in
arena-index g k = let e : k ≡ 0 + k = omega arith in e

-- what the steps of a write and of a read do
pub write-plan :
    (e : ErrandFields) (place : ℕ) (n : Need) (i v : ℕ) → place + 1 + i < 2 ^ 32
    → plan_of (begun_by e (write place n i v)) ≡ Store (Arena (place + 1 + i)) v
unfolding write_begun plan_point_of
write-plan e place n i v short = ap (λ k. Store (Arena k) v) (omega (arith, short))

pub read-plan :
    (e : ErrandFields) (place : ℕ) (n : Need) (i : ℕ) → place + 1 + i < 2 ^ 32
    → plan_of (begun_by e (read place n i)) ≡ Load (Arena (place + 1 + i))
unfolding read_begun plan_point_of
read-plan e place n i short = ap (λ k. Load (Arena k)) (omega (arith, short))

pub write-busy : (e : ErrandFields) (place : ℕ) (n : Need) (i v : ℕ) → IsBusy (begun_by e (write place n i v))
unfolding write_begun
write-busy e place n i v = refl

pub read-busy : (e : ErrandFields) (place : ℕ) (n : Need) (i : ℕ) → IsBusy (begun_by e (read place n i))
unfolding read_begun
read-busy e place n i = refl

-- neither is the first to use a piece
pub write-ready : (g : Geometry) (e : ErrandFields) (place : ℕ) (n : Need) (i v : ℕ) (u : View) → IsReady g (begun_by e (write place n i v)).point u
unfolding write_begun
write-ready g e place n i v u k opens = absurd opens

pub read-ready : (g : Geometry) (e : ErrandFields) (place : ℕ) (n : Need) (i : ℕ) (u : View) → IsReady g (begun_by e (read place n i)).point u
unfolding read_begun
read-ready g e place n i u k opens = absurd opens

-- the steps of a write and of a read leave the errand as it was, and answer
pub write-settles :
    (e : ErrandFields) (place : ℕ) (n : Need) (i v : ℕ) (x : Find) → IsIdle e → e ≡ settle_of (begun_by e (write place n i v)) x
unfolding write_begun settle_of course_of next_of plan_point_of
write-settles e place n i v x idle = ap (λ (p : Point). record e { point = p }) (idle-is e.point idle)

pub read-settles :
    (e : ErrandFields) (place : ℕ) (n : Need) (i : ℕ) (x : Find) → IsIdle e → e ≡ settle_of (begun_by e (read place n i)) x
unfolding read_begun settle_of course_of next_of plan_point_of
read-settles e place n i x idle = ap (λ (p : Point). record e { point = p }) (idle-is e.point idle)

pub write-answers :
    (e : ErrandFields) (place : ℕ) (n : Need) (i v : ℕ) (x : Find) → Done reply.Wrote ≡ answer_of (begun_by e (write place n i v)) x
unfolding write_begun
write-answers e place n i v x =
    sym (end-answers (write_begun e place i v) x (point.Large (large.StoreWord place i v) Nothing) reply.Wrote refl (store-ends place i v Nothing x))

pub read-answers :
    (e : ErrandFields) (place : ℕ) (n : Need) (i : ℕ) (x : Find)
    → Done (reply.Word x.value) ≡ answer_of (begun_by e (read place n i)) x
unfolding read_begun
read-answers e place n i x =
    sym (end-answers (read_begun e place i) x (point.Large (large.LoadWord place i) Nothing) (reply.Word x.value) refl (load-ends place i Nothing x))

-- a pass in no call may make the step of a call that it may begin
pub call-sight :
    (h : HeapFields) (p : Pass) (call : Call) → IsOf h p → IsIdle p.errand → MayBegin (after_events (seen p)) p.errand.caller call → CallsHome p call
    → IsSightOf h.layout (view p) (begun_by p.errand call)
call-sight h p call of idle may home = of-sight h (in_call p call) (begins-of h p (in_call p call) call of idle may home refl refl refl)

-- a call that ends with its one step
module _
    (h : HeapFields) (p q : Pass) (call : Call) (n : ℕ) (end : Ending Block) (of : IsOf h p) (idle : IsIdle p.errand)
    (may : MayBegin (after_events (seen p)) p.errand.caller call) (home : CallsHome p call)
    (is : q.errand ≡ settle_of (begun_by p.errand call) (found_in (begun_by p.errand call) n))
    (s : TakesStep (begun_by p.errand call) n (view p) (view q)) where
  pub one-of : q.seat.region ≡ p.seat.region → q.seat.me.1 ≡ p.seat.me.1 → q.out ≡ p.out → IsOf h q
  one-of table empty out = still-of h (in_call p call) q n (begins-of h p (in_call p call) call of idle may home refl refl refl) table empty out is s

  pub one-stepped :
      Done (reply_of end) ≡ answer_of (begun_by p.errand call) (found_in (begun_by p.errand call) n)
      → GivesBack block_place block_need (offered_at (begun_by p.errand call).point) (step.Done end) → HasStepped (in_call p call) q (step.Done end)
  one-stepped answers back = record {
    moment = took-step (in_call p call) q n (Done (reply_of end)) is answers s;
    accesses = (took-access (begun_by p.errand call) (in_call p call) q n s).0;
    back = back;
    lent = s.lent;
  }

-- a call has ended with its one step in this ending, and its pass is of the heap still
pub record EndsAtOnce (h : HeapFields) (p : Pass) (call : Call) (end : Ending Block) (q : Pass) : Type 0 where
  pub of : IsOf h q
  pub calling : IsCalling p call 0 (in_call p call)
  pub stepped : HasStepped (in_call p call) q (step.Done end)
  pub called : HasCalled p call 0 (reply_of end) q

pub ends-at_once :
    (h : HeapFields) (p q : Pass) (call : Call) (n : ℕ) (end : Ending Block) → IsOf h p → IsIdle p.errand
    → MayBegin (after_events (seen p)) p.errand.caller call → CallsHome p call → IsAboutBlock p.errand.geometry call → ((words : ℕ) → call ≢ alloc words)
    → q.errand ≡ settle_of (begun_by p.errand call) (found_in (begun_by p.errand call) n)
    → Done (reply_of end) ≡ answer_of (begun_by p.errand call) (found_in (begun_by p.errand call) n)
    → GivesBack block_place block_need (offered_at (begun_by p.errand call).point) (step.Done end) → TakesStep (begun_by p.errand call) n (view p) (view q)
    → q.seat.region ≡ p.seat.region → q.seat.me.1 ≡ p.seat.me.1 → q.out ≡ p.out → EndsAtOnce h p call end q
ends-at_once h p q call n end of idle may home about other is answers back s table empty out =
    let stepped = one-stepped h p q call n end of idle may home is s answers back in
    let calling = other-calling p (in_call p call) call (record { seat = refl; errand = refl; out = refl }) idle about other in
    record {
      of = one-of h p q call n end of idle may home is s table empty out;
      calling = calling;
      stepped = stepped;
      called = ends-one p call 0 (in_call p call) q (step.Done end) end refl stepped calling;
    }
