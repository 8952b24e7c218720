-- The steps of a put and of a take, made without the errand.
use Rattle.std.proofs.Common.{ℕ, true, false, not, Option, None, Some, inl, inr, arith, ◌≡◌, ◌<◌, ◌⊎◌, ap, refl, sym, subst, ◌∙◌}
use Rattle.heap_geometry.specs.declared.geometry.Geometry.{Geometry}
use Rattle.heap_geometry.specs.declared.limits.TheConstants.{SHELVES}
use Rattle.heap_geometry.specs.declared.need.Need.{Need}
use Rattle.heap_geometry.specs.Need.{IsNeed}
use Rattle.packed_words.specs.declared.shelf.ShelfWord.{ShelfWord}
use Rattle.packed_words.specs.declared.shelf.ShelfWord.TheVariants as lies
use Rattle.packed_words.specs.Shelf.{shelf_of, shelf_word}
use Rattle.atomic_region.specs.declared.shared.Seat.{Seat}
use Rattle.word_table.specs.declared.action.Action.{Action}
use Rattle.word_table.specs.declared.action.Action.TheVariants.{Cas}
use Rattle.word_table.specs.declared.action.Found.{Found as Find}
use Rattle.word_table.specs.declared.name.WordName.TheVariants.{Shelf}
use Rattle.step_parts.specs.declared.large.point.LargePoint.{LargePoint}
use Rattle.step_parts.specs.declared.large.point.LargePoint.TheVariants as large
use Rattle.step_parts.specs.large.Points.{after_shelf, plan_large_of}
use Rattle.errand_steps.specs.declared.continuation.Continuation.TheVariants.{Nothing}
use Rattle.errand_steps.specs.declared.next.Next.TheVariants as next
use Rattle.errand_steps.specs.declared.point.Point.{Point}
use Rattle.errand_steps.specs.declared.point.Point.TheVariants as point
use Rattle.errand_steps.specs.declared.reply.Progress.TheVariants.{Done, More}
use Rattle.errand_steps.specs.declared.reply.Reply.{Reply}
use Rattle.errand_steps.specs.declared.reply.Reply.TheVariants as reply
use Rattle.errand_steps.specs.declared.told.Ending.{Ending}
use Rattle.errand_steps.specs.declared.told.Stepped.TheVariants as step
use Rattle.errand_steps.specs.Begins.{IsIdle, put_begun, take_begun}
use Rattle.errand_steps.specs.Calls.{begun_by, put, take}
use Rattle.errand_steps.specs.Errands.{ErrandFields, answer_of, counts_lost, counts_won, plan_of, raised, settle_of}
use Rattle.errand_steps.specs.Nexts.{next_of}
use Rattle.errand_steps.specs.Offers.{offered_at}
use Rattle.errand_steps.specs.Points.{plan_point_of}
use Rattle.errand_steps.specs.Told.{GivesBack}
use Rattle.errand_steps.proofs.BegunErrands.{idle-is}
use Rattle.errand_steps.proofs.StayLemmas.{ended_answer, ended_errand, stayed_errand}
use Rattle.step_machine.proofs.TellLemmas.{moment-tellable}
use Rattle.live_heap.specs.declared.answers.Taken.TheVariants as taken
use Rattle.live_heap.specs.declared.block.Block.{Block}
use Rattle.live_heap.specs.declared.pass.Pass.{Pass}
use Rattle.live_heap.specs.declared.view.View.{View}
use Rattle.live_heap.specs.Answers.{HasBegun, HasStepped, block_need, block_place, reply_of}
use Rattle.live_heap.specs.Calls.{HasCalled, IsCalling}
use Rattle.live_heap.specs.Going.{HasFound, OpensNone, at_shelf, stands_on}
use Rattle.live_heap.specs.Heaps.{HeapFields}
use Rattle.live_heap.specs.Passes.{IsHome, IsOf, Owns, view}
use Rattle.live_heap.specs.Sights.{found_in}
use Rattle.live_heap.proofs.Begun.{begins-of}
use Rattle.live_heap.proofs.CallsGrow.{other-calling}
use Rattle.live_heap.proofs.CallsOne.{IsAtTake, ends-one, none-lost, none-won, shelf-loads, take-goes_on, take-lost, take-won}
use Rattle.live_heap.proofs.Stepped.{has-stepped, still-of, took-access, took-step}

pub planned-on : (e : ErrandFields) (p : LargePoint) → plan_large_of p ≡ plan_of (at_shelf e p)
unfolding plan_point_of
planned-on e p = refl

-- a step on a shelf's word is the first to use no piece
pub put-opens : (g : Geometry) (shelf place : ℕ) (need : Need) → OpensNone g (large.PutBlock shelf place need)
put-opens g shelf place need v k opens = absurd opens

pub load-opens : (g : Geometry) (shelf : ℕ) → OpensNone g (large.LoadShelf shelf)
load-opens g shelf v k opens = absurd opens

after-opens : (g : Geometry) (shelf : ℕ) (word : Option ShelfWord) → OpensNone g (after_shelf shelf word)
after-opens g shelf None v k opens = absurd opens
after-opens g shelf (Some lies.Nothing) v k opens = absurd opens
after-opens g shelf (Some (lies.Block place need)) v k opens = absurd opens

-- the exchange of a put, by the words of an empty shelf and of one on which the block lies
pub put-plan :
    (shelf place : ℕ) (need : Need) (empty word : ℕ) → empty ≡ shelf_word lies.Nothing → word ≡ shelf_word (lies.Block place need)
    → Cas (Shelf shelf) empty word ≡ plan_large_of (large.PutBlock shelf place need)
put-plan shelf place need empty word is lies_there = ap (λ k. Cas (Shelf shelf) k word) is ∙ ap (Cas (Shelf shelf) (shelf_word lies.Nothing)) lies_there

-- where the errand of a put and of a take stands that has begun
pub put-at : (e : ErrandFields) (place : ℕ) (need : Need) (shelf : ℕ) → begun_by e (put place need shelf) ≡ at_shelf e (large.PutBlock shelf place need)
unfolding put_begun
put-at e place need shelf = refl

pub take-at : (e : ErrandFields) (shelf : ℕ) → begun_by e (take shelf) ≡ at_shelf e (large.LoadShelf shelf)
unfolding take_begun
take-at e shelf = refl

-- a pass that would stand where a put begins, or a take, is one of its heap
pub putting :
    (h : HeapFields) (p : Pass) (block : Block) (shelf : ℕ) → IsOf h p → IsIdle p.errand → Owns p block → shelf < SHELVES
    → IsOf h (stands_on p (large.PutBlock shelf block.place block.need))
putting h p block shelf of idle owned has =
    begins-of h p (stands_on p (large.PutBlock shelf block.place block.need)) (put block.place block.need shelf) of idle (record { block = owned.0 }, has)
    (λ place about. subst (IsHome p) about owned.1) refl refl (sym (put-at p.errand block.place block.need shelf))

pub taking :
    (h : HeapFields) (p : Pass) (shelf : ℕ) → IsOf h p → IsIdle p.errand → shelf < SHELVES → IsOf h (stands_on p (large.LoadShelf shelf))
taking h p shelf of idle has =
    begins-of h p (stands_on p (large.LoadShelf shelf)) (take shelf) of idle has (λ place about. absurd about) refl refl (sym (take-at p.errand shelf))

-- a count of what a step wins, by the action of its point
pub counted-as :
    (e f : ErrandFields) (p : LargePoint) (x : Find) (action : Action) → action ≡ plan_large_of p
    → f ≡ record e { won = raised (counts_won action x) e.won } → f ≡ record e { won = raised (counts_won (plan_large_of p) x) e.won }
counted-as e f p x action planned is = is ∙ ap (λ a. record e { won = raised (counts_won a x) e.won }) planned

-- an errand in no call with what a step wins counted is the one that the step leaves which ends its call
pub ends-counted :
    (e f : ErrandFields) (p : LargePoint) (x : Find) (r : Reply) → IsIdle e → next_of (point.Large p Nothing) x ≡ next.End r
    → counts_lost (point.Large p Nothing) x ≡ false → f ≡ record e { won = raised (counts_won (plan_large_of p) x) e.won }
    → f ≡ settle_of (at_shelf e p) x
ends-counted e f p x r idle ends kept is =
    let won = raised (counts_won (plan_large_of p) x) e.won in
    is
    ∙ (ap (λ (i : Point). record e { point = i; won = won }) (idle-is e.point idle)
    ∙ ended_errand (at_shelf e p) x r (plan_large_of p) won e.lost e.cleared ends (planned-on e p) refl (ap (λ b. raised b e.lost) (sym kept)) refl)

-- a pass has made the step that ends its call
module _
    (h : HeapFields) (b q : Pass) (x : Find) (end : Ending Block) (of : IsOf h b) (has : HasFound b.errand x (view b) (view q))
    (settles : q.errand ≡ settle_of b.errand x) (ends : next_of b.errand.point x ≡ next.End (reply_of end)) where
  pub shelf-of : q.seat.region ≡ b.seat.region → q.seat.me.1 ≡ b.seat.me.1 → q.out ≡ b.out → IsOf h q
  shelf-of table empty out = still-of h b q has.0 of table empty out (settles ∙ has.2) has.1

  pub shelf-stepped : GivesBack block_place block_need (offered_at b.errand.point) (step.Done end) → HasStepped b q (step.Done end)
  shelf-stepped back =
      let told : Done (reply_of end) ≡ answer_of b.errand (found_in b.errand has.0) = sym (ended_answer b.errand x (reply_of end) ends) ∙ has.3 in
      has-stepped b q (Done (reply_of end)) (step.Done end) (took-step b q has.0 (Done (reply_of end)) (settles ∙ has.2) told has.1)
      (took-access b.errand b q has.0 has.1) refl back

load-next :
    (shelf : ℕ) (x : Find) (at : LargePoint) → at ≡ after_shelf shelf (shelf_of x.value)
    → next_of (point.Large (large.LoadShelf shelf) Nothing) x ≡ next.At (point.Large at Nothing)
unfolding next_of
load-next shelf x at is = ap (λ (k : LargePoint). next.At (point.Large k Nothing)) (sym is)

load-kept : (shelf : ℕ) (x : Find) → counts_lost (point.Large (large.LoadShelf shelf) Nothing) x ≡ false
unfolding plan_point_of
load-kept shelf x = refl

load-settles :
    (e : ErrandFields) (shelf : ℕ) (x : Find) (at : LargePoint) → at ≡ after_shelf shelf (shelf_of x.value)
    → at_shelf e at ≡ settle_of (at_shelf e (large.LoadShelf shelf)) x
load-settles e shelf x at is =
    stayed_errand (at_shelf e (large.LoadShelf shelf)) x (point.Large at Nothing) (plan_large_of (large.LoadShelf shelf)) e.won e.lost e.cleared
    (load-next shelf x at is) (planned-on e (large.LoadShelf shelf)) refl (ap (λ b. raised b e.lost) (sym (load-kept shelf x))) refl

-- a take has looked at its shelf, and its errand would stand at this point now; the pass's own stands still
pub record HasLooked (h : HeapFields) (p : Pass) (shelf : ℕ) (x : Find) (at : LargePoint) (m : Pass) : Type 0 where
  pub settled : at_shelf p.errand at ≡ settle_of (at_shelf p.errand (large.LoadShelf shelf)) x
  pub of : IsOf h (stands_on m at)
  pub stepped : HasStepped (stands_on p (large.LoadShelf shelf)) (stands_on m at) step.More
  pub calling : IsCalling p (take shelf) 1 (stands_on m at)
  pub last : IsAtTake shelf (point.Large at Nothing)
  pub opens : OpensNone h.layout at

pub looked :
    (h : HeapFields) (p : Pass) (s : Seat View) (shelf : ℕ) (x : Find) (at : LargePoint) → IsOf h p → IsIdle p.errand → shelf < SHELVES
    → s.region ≡ p.seat.region → s.me.1 ≡ p.seat.me.1 → HasFound (at_shelf p.errand (large.LoadShelf shelf)) x (view p) s.me.0
    → at ≡ after_shelf shelf (shelf_of x.value) → HasLooked h p shelf x at (record { seat = s; errand = p.errand; out = p.out })
looked h p s shelf x at of idle has table empty found is =
    let b : Pass = stands_on p (large.LoadShelf shelf) in
    let a : Pass = stands_on (record { seat = s; errand = p.errand; out = p.out }) at in
    let n = found.0 in
    let settled = load-settles p.errand shelf x at is in
    let told : More ≡ answer_of b.errand (found_in b.errand n) = sym (shelf-loads b.errand shelf x refl) ∙ found.3 in
    let stepped : HasStepped b a step.More =
    has-stepped b a More step.More (took-step b a n More (settled ∙ found.2) told found.1) (took-access b.errand b a n found.1) refl tt in
    let begun : HasBegun p (take shelf) b = record { seat = refl; errand = sym (take-at p.errand shelf); out = refl } in
    let on = take-goes_on p b a shelf step.More begun stepped (other-calling p b (take shelf) begun idle tt (λ words same. cc)) in
    record {
      settled = settled;
      of = still-of h b a n (taking h p shelf of idle has) table empty refl (settled ∙ found.2) found.1;
      stepped = stepped;
      calling = on.0;
      last = on.1;
      opens = subst (OpensNone h.layout) (sym is) (after-opens h.layout shelf (shelf_of x.value));
    }

-- so its next point is the one where it takes a block, or the one where it finds again that there is none
pub take-last :
    (shelf : ℕ) (at : LargePoint) → IsAtTake shelf (point.Large at Nothing)
    → ((place : ℕ) × (need : Need) × (at ≡ large.TakeBlock shelf place need)) ⊎ (at ≡ large.ConfirmNothing shelf)
take-last shelf at (inl (place, need, o, is)) =
    inl (place, need, let both : point.Large at Nothing ≡ point.Large (large.TakeBlock shelf place need) o = is in cc)
take-last shelf at (inr (o, is)) = inr (let both : point.Large at Nothing ≡ point.Large (large.ConfirmNothing shelf) o = is in cc)

-- what follows where the second exchange of a take is won, and where it isn't
abbrev pub got_at : LargePoint → Reply
got_at (large.TakeBlock shelf place need) = reply.Got place need
got_at p = reply.Empty

abbrev pub seen_at : LargePoint → ℕ
seen_at (large.TakeBlock shelf place need) = shelf_word (lies.Block place need)
seen_at p = shelf_word lies.Nothing

pub last-won :
    (shelf : ℕ) (at : LargePoint) (x : Find) → IsAtTake shelf (point.Large at Nothing) → x.won ≡ true
    → next_of (point.Large at Nothing) x ≡ next.End (got_at at)
last-won shelf at x last won =
    elim (take-last shelf at last) [
      | inl (place, need, is) ↦
          subst (λ (k : LargePoint). next_of (point.Large k Nothing) x ≡ next.End (got_at k)) (sym is) (take-won shelf place need Nothing x won)
      | inr is ↦ subst (λ (k : LargePoint). next_of (point.Large k Nothing) x ≡ next.End (got_at k)) (sym is) (none-won shelf Nothing x won)
    ]

pub last-lost :
    (shelf : ℕ) (at : LargePoint) (x : Find) → IsAtTake shelf (point.Large at Nothing) → x.won ≡ false
    → next_of (point.Large at Nothing) x ≡ next.End (reply.Missed (seen_at at) x.value)
last-lost shelf at x last lost =
    elim (take-last shelf at last) [
      | inl (place, need, is) ↦
          subst (λ (k : LargePoint). next_of (point.Large k Nothing) x ≡ next.End (reply.Missed (seen_at k) x.value)) (sym is)
          (take-lost shelf place need Nothing x lost)
      | inr is ↦
          subst (λ (k : LargePoint). next_of (point.Large k Nothing) x ≡ next.End (reply.Missed (seen_at k) x.value)) (sym is)
          (none-lost shelf Nothing x lost)
    ]

-- a won exchange loses none
take-kept : (shelf place : ℕ) (need : Need) (x : Find) → x.won ≡ true → counts_lost (point.Large (large.TakeBlock shelf place need) Nothing) x ≡ false
unfolding plan_point_of
take-kept shelf place need x won = ap not won

none-kept : (shelf : ℕ) (x : Find) → x.won ≡ true → counts_lost (point.Large (large.ConfirmNothing shelf) Nothing) x ≡ false
unfolding plan_point_of
none-kept shelf x won = ap not won

last-kept :
    (shelf : ℕ) (at : LargePoint) (x : Find) → IsAtTake shelf (point.Large at Nothing) → x.won ≡ true → counts_lost (point.Large at Nothing) x ≡ false
last-kept shelf at x last won =
    elim (take-last shelf at last) [
      | inl (place, need, is) ↦ subst (λ (k : LargePoint). counts_lost (point.Large k Nothing) x ≡ false) (sym is) (take-kept shelf place need x won)
      | inr is ↦ subst (λ (k : LargePoint). counts_lost (point.Large k Nothing) x ≡ false) (sym is) (none-kept shelf x won)
    ]

-- a take that has looked has made its second step, and ended so
pub record HasEndedLook (h : HeapFields) (p a : Pass) (shelf : ℕ) (end : Ending Block) (q : Pass) : Type 0 where
  pub of : IsOf h q
  pub stepped : HasStepped a q (step.Done end)
  pub called : HasCalled p (take shelf) 1 (reply_of end) q

pub ends-look :
    (h : HeapFields) (p m q : Pass) (shelf : ℕ) (x y : Find) (at : LargePoint) (end : Ending Block) → HasLooked h p shelf x at m
    → HasFound (at_shelf m.errand at) y (view m) (view q) → q.errand ≡ settle_of (at_shelf m.errand at) y
    → next_of (point.Large at Nothing) y ≡ next.End (reply_of end) → GivesBack block_place block_need (offered_at (point.Large at Nothing)) (step.Done end)
    → q.seat.region ≡ m.seat.region → q.seat.me.1 ≡ m.seat.me.1 → q.out ≡ m.out → HasEndedLook h p (stands_on m at) shelf end q
ends-look h p m q shelf x y at end look found settles ends back table empty out =
    let a : Pass = stands_on m at in
    let stepped = shelf-stepped h a q y end look.of found settles ends back in
    record {
      of = shelf-of h a q y end look.of found settles ends table empty out;
      stepped = stepped;
      called = ends-one p (take shelf) 1 a q (step.Done end) end refl stepped look.calling;
    }

pub last-counted :
    (h : HeapFields) (p m : Pass) (shelf : ℕ) (x y : Find) (at : LargePoint) (f : ErrandFields) → HasLooked h p shelf x at m → IsIdle m.errand
    → y.won ≡ true → f ≡ record m.errand { won = raised (counts_won (plan_large_of at) y) m.errand.won } → f ≡ settle_of (at_shelf m.errand at) y
last-counted h p m shelf x y at f look idle won is =
    ends-counted m.errand f at y (got_at at) idle (last-won shelf at y look.last won) (last-kept shelf at y look.last won) is

-- a block that a take has got serves some need
pub got-need :
    (h : HeapFields) (p m q : Pass) (shelf : ℕ) (x y : Find) (at : LargePoint) (place : ℕ) (need : Need) → HasLooked h p shelf x at m
    → HasFound (at_shelf m.errand at) y (view m) (view q) → q.errand ≡ settle_of (at_shelf m.errand at) y
    → next_of (point.Large at Nothing) y ≡ next.End (reply.Got place need) → IsNeed need
got-need h p m q shelf x y at place need look found settles ends =
    let a : Pass = stands_on m at in
    let r : Reply = reply.Got place need in
    let told : Done r ≡ answer_of a.errand (found_in a.errand found.0) = sym (ended_answer a.errand y r ends) ∙ found.3 in
    moment-tellable _ _ _ _ _ (took-step a q found.0 (Done r) (settles ∙ found.2) told found.1)

-- one block is at one place
pub got-place : (a b : Block) → taken.Got a ≡ taken.Got b → a.place ≡ b.place
got-place a b is = let same : a ≡ b = cc in ap (λ (t : Block). t.place) same
