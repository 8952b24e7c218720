-- All blocks of a caller, wherever their words are, through its calls.
use Rattle.std.proofs.Common.{ℕ, ◌≡◌, ◌++◌, ◌↔◌, List, [], ◌∷◌, Result, Ok, Err, refl, sym, ap, subst, inl, inr, append_assoc}
use Rattle.std.specs.Prelude.{IfOk}
use Rattle.std.specs.Result.{IfErr}
use Rattle.std.proofs.lemmas.Option.{none-some}
use mathlib.Core.Option.{some-ne-none}
use Rattle.errand_steps.specs.declared.reply.Reply.{Reply}
use Rattle.errand_steps.specs.declared.reply.Reply.TheVariants as reply
use Rattle.errand_steps.specs.Begins.{IsBusy, IsIdle}
use Rattle.errand_steps.specs.Calls.{Call, alloc, free, put, take}
use Rattle.live_heap.specs.declared.answers.AllocAnswer.{AllocAnswer}
use Rattle.live_heap.specs.declared.answers.AllocAnswer.TheVariants as alloc_answer
use Rattle.live_heap.specs.declared.answers.FreeAnswer.{FreeAnswer}
use Rattle.live_heap.specs.declared.answers.FreeAnswer.TheVariants as free_answer
use Rattle.live_heap.specs.declared.answers.Full.{Full}
use Rattle.live_heap.specs.declared.answers.Resumed.{Resumed}
use Rattle.live_heap.specs.declared.answers.Resumed.TheVariants as resumed
use Rattle.live_heap.specs.declared.answers.Taken.{Taken}
use Rattle.live_heap.specs.declared.answers.Taken.TheVariants as taken
use Rattle.live_heap.specs.declared.block.Block.{Block}
use Rattle.live_heap.specs.Heaps.{HeapFields}
use Rattle.live_heap.specs.declared.pass.Pass.{Pass}
use Rattle.live_heap.specs.Answers.{AllocTells, FreeTells, IsTried, PutTellsFull, ResumeTells, TakeTells}
use Rattle.live_heap.specs.Calls.{HasCalled, IsCalling, IsInterrupted}
use Rattle.live_heap.specs.Hands.{given_by, resumed_by, returned_by, taken_by}
use Rattle.live_heap.specs.Holdings.{ChangesHand, Holds, HoldsExactly}
use Rattle.live_heap.specs.Passes.{IsOf}
use Rattle.live_heap.proofs.laws_for_builders.AllBlocks.{called-exact, order-exact}
use Rattle.live_heap.proofs.laws_for_builders.Hands.{idle-not_busy}
use Rattle.block_cache.specs.Accounts.{Began}
use Rattle.block_cache.specs.Accounts.{HasAll as HasAllHome}
use Rattle.block_cache.specs.Magazines.{Splits}
use Rattle.balloc_c.specs.Tended.{HasAll, HasAllInCall, at_home}

-- a pass that has never taken words out is of its heap, and so are its calls
pub home-of : (h : HeapFields) (p : Pass) → IsOf h p → IsOf h (at_home p)
home-of h p is =
    record {
      table = is.table;
      empty = refl;
      before = is.before;
      one = is.one;
      sight = is.sight;
      begun = is.begun;
      served = is.served;
      alone = is.alone;
      settled = is.settled;
      counted = refl;
      mine = λ n b at. absurd (some-ne-none b (sym at));
      apart = λ n b at. absurd (some-ne-none b (sym at));
      once = λ m n a b at other same. absurd (some-ne-none a (sym at));
    }

pub home-called :
    (p q : Pass) (call : Call) (steps : ℕ) (answer : Reply) → HasCalled p call steps answer q → HasCalled (at_home p) call steps answer (at_home q)
home-called p q call steps answer called =
    record {
      caller = called.caller;
      idle = called.idle;
      last = called.last;
      sight = called.sight;
      on = called.on;
      moment = called.moment;
      accesses = called.accesses;
      added = called.added;
      events = called.events;
      ended = called.ended;
      lent = refl;
    }

-- blocks whose words are home are held by it
pub home-holds : (p : Pass) (blocks : List Block) → Holds p blocks → Holds (at_home p) blocks
home-holds p [] held = tt
home-holds p (b ∷ bs) held = ((held.0.0, λ n other at. absurd (some-ne-none other (sym at))), held.1, home-holds p bs held.2)

pub home-exact : (p : Pass) (blocks : List Block) → HoldsExactly p blocks → HoldsExactly (at_home p) blocks
home-exact p blocks exact = (home-holds p blocks exact.0, exact.1)

-- a caller whose blocks are all home has them
pub all-home : (h : HeapFields) (p : Pass) (blocks : List Block) → IsOf h p → HasAllHome p blocks → HasAll h p blocks
all-home h p blocks of all =
    record {
      at_rest = λ idle. home-exact p blocks (all.at_rest idle);
      in_call = λ busy.
          let w = all.in_call busy in
          record {
            first = w.first;
            of = w.of h of;
            call = w.call;
            steps = w.steps;
            calling = w.calling;
            tried = w.tried;
            had = w.had;
            began = w.began;
            exact = home-exact w.first w.had w.exact;
          };
    }

-- a caller has all its blocks between calls, and while one waits
pub rests : (h : HeapFields) (p : Pass) (blocks : List Block) → IsIdle p.errand → HoldsExactly (at_home p) blocks → HasAll h p blocks
rests h p blocks idle exact = record { at_rest = λ still. exact; in_call = λ busy. absurd (idle-not_busy p.errand idle busy) }

waits :
    (h : HeapFields) (first p q : Pass) (blocks had : List Block) (call : Call) (made tries : ℕ) → IsOf h first
    → IsInterrupted first call made p tries q → IsTried call → Began call blocks had → HoldsExactly (at_home first) had → HasAll h q blocks
waits h first p q blocks had call made tries was i tried began exact =
    record {
      at_rest = λ idle. absurd (idle-not_busy q.errand idle i.calling.busy);
      in_call = λ busy.
          record {
            first = first;
            of = was;
            call = call;
            steps = _;
            calling = i.calling;
            tried = tried;
            had = had;
            began = began;
            exact = exact;
          };
    }

-- all blocks of a caller behind a call that has ended, also of a pass that is of the heap but for what is out
pub ended-home :
    (h : HeapFields) (p q : Pass) (call : Call) (steps : ℕ) (answer : Reply) (had has : List Block) → IsOf h (at_home p) → IsOf h q
    → HasCalled p call steps answer q → ChangesHand call answer had has → HoldsExactly (at_home p) had → HasAll h q has
ended-home h p q call steps answer had has was of called hand exact =
    rests h q has called.idle
    (called-exact h (at_home p) (at_home q) call steps answer had has was (home-of h q of) (home-called p q call steps answer called) hand exact)

pub ended-all :
    (h : HeapFields) (p q : Pass) (call : Call) (steps : ℕ) (answer : Reply) (had has : List Block) → IsOf h p → IsOf h q
    → HasCalled p call steps answer q → ChangesHand call answer had has → HoldsExactly (at_home p) had → HasAll h q has
ended-all h p q call steps answer had has was = ended-home h p q call steps answer had has (home-of h p was)

-- all blocks of a caller behind an allocation or a free, begun or resumed
resumed-all :
    (h : HeapFields) (first p q : Pass) (blocks : List Block) (call : Call) (made tries : ℕ) (answer : Resumed) → IsOf h first → IsOf h q
    → ResumeTells first call made p tries answer q → IsTried call → (had : List Block) → Began call blocks had → HoldsExactly (at_home first) had
    → HasAll h q (resumed_by answer ++ blocks)
resumed-all h first p q blocks (alloc words) made tries (resumed.Given block) was of tells tried had began exact =
    ended-all h first q (alloc words) tells.0.steps (reply.Given block.place block.need) had (block ∷ blocks) was of tells.0.called
    (block, refl, refl, ap (λ (xs : List Block). block ∷ xs) (sym began)) exact
resumed-all h first p q blocks (alloc words) made tries resumed.Freed was of tells tried had began exact =
    ended-all h first q (alloc words) tells.steps reply.Freed had blocks was of tells.called (sym began) exact
resumed-all h first p q blocks (alloc words) made tries resumed.Refused was of tells tried had began exact =
    ended-all h first q (alloc words) tells.steps reply.Refused had blocks was of tells.called (sym began) exact
resumed-all h first p q blocks (alloc words) made tries resumed.Spent was of tells tried had began exact =
    ended-all h first q (alloc words) tells.0.steps reply.Spent had blocks was of tells.0.called (sym began) exact
resumed-all h first p q blocks (alloc words) made tries resumed.Busy was of tells tried had began exact =
    waits h first p q blocks had (alloc words) made tries was tells tried began exact
resumed-all h first p q blocks (free place need) made tries (resumed.Given block) was of tells tried had began exact =
    absurd (none-some tells.0.called.ended.ended.0 tells.0.called.ended.ended.1)
resumed-all h first p q blocks (free place need) made tries resumed.Freed was of tells tried had began exact =
    ended-all h first q (free place need) tells.steps reply.Freed had blocks was of tells.called (began.block, began.lies, began.is) exact
resumed-all h first p q blocks (free place need) made tries resumed.Refused was of tells tried had began exact =
    absurd (none-some tells.called.ended.ended.0 tells.called.ended.ended.1)
resumed-all h first p q blocks (free place need) made tries resumed.Spent was of tells tried had began exact =
    absurd (none-some tells.0.called.ended.ended.0 tells.0.called.ended.ended.1)
resumed-all h first p q blocks (free place need) made tries resumed.Busy was of tells tried had began exact =
    waits h first p q blocks had (free place need) made tries was tells tried began exact
resumed-all h first p q blocks call made tries answer was of tells tried had began exact = absurd tried

-- behind an allocation
pub alloc-all :
    (h : HeapFields) (p q : Pass) (blocks : List Block) (words tries : ℕ) (answer : AllocAnswer Block) → IsIdle p.errand → IsOf h p → IsOf h q
    → AllocTells p words tries answer q → HasAll h p blocks → HasAll h q (given_by answer ++ blocks)
alloc-all h p q blocks words tries (alloc_answer.Given block) idle was of tells all =
    resumed-all h p p q blocks (alloc words) 0 tries (resumed.Given block) was of tells tt blocks refl (all.at_rest idle)
alloc-all h p q blocks words tries alloc_answer.Refused idle was of tells all =
    resumed-all h p p q blocks (alloc words) 0 tries resumed.Refused was of tells tt blocks refl (all.at_rest idle)
alloc-all h p q blocks words tries alloc_answer.TooLarge idle was of tells all = subst (λ (x : Pass). HasAll h x blocks) (sym tells) all
alloc-all h p q blocks words tries alloc_answer.Spent idle was of (inl once) all = subst (λ (x : Pass). HasAll h x blocks) (sym once.same) all
alloc-all h p q blocks words tries alloc_answer.Spent idle was of (inr later) all =
    resumed-all h p p q blocks (alloc words) 0 tries resumed.Spent was of later tt blocks refl (all.at_rest idle)
alloc-all h p q blocks words tries alloc_answer.Busy idle was of tells all =
    resumed-all h p p q blocks (alloc words) 0 tries resumed.Busy was of tells tt blocks refl (all.at_rest idle)

-- behind a free
pub free-all :
    (h : HeapFields) (p q : Pass) (block : Block) (blocks : List Block) (tries : ℕ) (answer : FreeAnswer) → IsIdle p.errand → IsOf h p → IsOf h q
    → FreeTells p block tries answer q → HasAll h p (block ∷ blocks) → HasAll h q blocks
free-all h p q block blocks tries free_answer.Freed idle was of tells all =
    resumed-all h p p q blocks (free block.place block.need) 0 tries resumed.Freed was of tells tt (block ∷ blocks)
    (record { block = block; lies = refl; serves = refl; is = refl }) (all.at_rest idle)
free-all h p q block blocks tries free_answer.Busy idle was of tells all =
    resumed-all h p p q blocks (free block.place block.need) 0 tries resumed.Busy was of tells tt (block ∷ blocks)
    (record { block = block; lies = refl; serves = refl; is = refl }) (all.at_rest idle)

-- behind a resumed call that was waiting
pub waiting-all :
    (h : HeapFields) (p q : Pass) (blocks : List Block) (tries : ℕ) (answer : Resumed) → IsBusy p.errand → IsOf h q
    → ((first : Pass) (call : Call) (made : ℕ) → IsOf h first → IsCalling first call made p → ResumeTells first call made p tries answer q)
    → HasAll h p blocks → HasAll h q (resumed_by answer ++ blocks)
waiting-all h p q blocks tries answer busy of tells all =
    let w = all.in_call busy in
    resumed-all h w.first p q blocks w.call w.steps tries answer w.of of (tells w.first w.call w.steps w.of w.calling) w.tried w.had w.began w.exact

-- behind a put, from which the block may come back
pub put-all :
    {A : Type 0} (h : HeapFields) (p q : Pass) (block : Block) (blocks : List Block) (shelf : ℕ) (answer : Result A Full) → IsIdle p.errand → IsOf h p → IsOf h q
    → IfOk answer (λ _. HasCalled p (put block.place block.need shelf) 0 reply.Put q)
    → IfErr answer (λ full. PutTellsFull p block shelf full q) → HasAll h p (block ∷ blocks) → HasAll h q (returned_by answer ++ blocks)
put-all h p q block blocks shelf (Ok _) idle was of lies back all =
    ended-all h p q (put block.place block.need shelf) 0 reply.Put (block ∷ blocks) blocks was of lies (block, refl, refl) (all.at_rest idle)
put-all h p q block blocks shelf (Err full) idle was of lies back all =
    ended-all h p q (put block.place block.need shelf) 0 (reply.Full full.found) (block ∷ blocks) (full.block ∷ blocks) was of back.called
    (ap (λ (b : Block). b ∷ blocks) back.same) (all.at_rest idle)

-- behind a take
pub take-all :
    (h : HeapFields) (p q : Pass) (blocks : List Block) (shelf : ℕ) (answer : Taken Block) → IsIdle p.errand → IsOf h p → IsOf h q → TakeTells p shelf answer q
    → HasAll h p blocks → HasAll h q (taken_by answer ++ blocks)
take-all h p q blocks shelf (taken.Got block) idle was of tells all =
    ended-all h p q (take shelf) 1 (reply.Got block.place block.need) blocks (block ∷ blocks) was of tells.0 (block, refl, refl, refl) (all.at_rest idle)
take-all h p q blocks shelf taken.Empty idle was of tells all =
    ended-all h p q (take shelf) 1 reply.Empty blocks blocks was of tells refl (all.at_rest idle)
take-all h p q blocks shelf (taken.Missed expected found) idle was of tells all =
    ended-all h p q (take shelf) 1 (reply.Missed expected found) blocks blocks was of tells.0 refl (all.at_rest idle)

-- a block of a list among others comes to the front, and goes back
moved : (held front back : List Block) (block : Block) → held ++ (front ++ block ∷ back) ≡ (held ++ front) ++ block ∷ back
moved held front back block = sym (append_assoc held front (block ∷ back))

exact-front : (p : Pass) (held front back : List Block) (block : Block)
    → HoldsExactly p (held ++ (front ++ block ∷ back)) ↔ HoldsExactly p (block ∷ (held ++ (front ++ back)))
exact-front p held front back block =
    let turned = order-exact p (held ++ front) back block in
    let right : (held ++ front) ++ back ≡ held ++ (front ++ back) = append_assoc held front back in (
      λ exact. subst (λ (xs : List Block). HoldsExactly p (block ∷ xs)) right (turned.0 (subst (HoldsExactly p) (moved held front back block) exact)),
      λ exact. subst (HoldsExactly p) (sym (moved held front back block)) (turned.1 (subst (λ (xs : List Block). HoldsExactly p (block ∷ xs)) (sym right) exact)),
    )

-- also behind a first block
behind-first : (p : Pass) (first : Block) (held front back : List Block) (block : Block)
    → HoldsExactly p (first ∷ (held ++ (front ++ block ∷ back))) ↔ HoldsExactly p (first ∷ (block ∷ (held ++ (front ++ back))))
behind-first p first held front back block =
    let turned = exact-front p (first ∷ held) front back block in
    let swapped = order-exact p (block ∷ []) (held ++ (front ++ back)) first in
    (λ exact. swapped.0 (turned.0 exact), λ exact. turned.1 (swapped.1 exact))

record HadSo (p : Pass) (call : Call) (blocks : List Block) : Type 0 where
  pub had : List Block
  pub began : Began call blocks had
  pub exact : HoldsExactly p had

-- what a caller had when it began a call that is about none of these blocks, in another order
had-front : (p : Pass) (call : Call) (held front back had : List Block) (block : Block) → Began call (held ++ (front ++ block ∷ back)) had
    → HoldsExactly p had → IsTried call → HadSo p call (block ∷ (held ++ (front ++ back)))
had-front p (free place need) held front back had block began exact tried =
    record {
      had = began.block ∷ (block ∷ (held ++ (front ++ back)));
      began = record { block = began.block; lies = began.lies; serves = began.serves; is = refl };
      exact = (behind-first p began.block held front back block).0 (subst (HoldsExactly p) began.is exact);
    }
had-front p (alloc words) held front back had block began exact tried =
    record { had = _; began = refl; exact = (exact-front p held front back block).0 (subst (HoldsExactly p) began exact) }
had-front p call held front back had block began exact tried = absurd tried

had-back : (p : Pass) (call : Call) (held front back had : List Block) (block : Block) → Began call (block ∷ (held ++ (front ++ back))) had
    → HoldsExactly p had → IsTried call → HadSo p call (held ++ (front ++ block ∷ back))
had-back p (free place need) held front back had block began exact tried =
    record {
      had = began.block ∷ (held ++ (front ++ block ∷ back));
      began = record { block = began.block; lies = began.lies; serves = began.serves; is = refl };
      exact = (behind-first p began.block held front back block).1 (subst (HoldsExactly p) began.is exact);
    }
had-back p (alloc words) held front back had block began exact tried =
    record { had = _; began = refl; exact = (exact-front p held front back block).1 (subst (HoldsExactly p) began exact) }
had-back p call held front back had block began exact tried = absurd tried

in-call : (h : HeapFields) (p : Pass) (blocks : List Block) (w : HasAllInCall h p blocks) (others : List Block) → HadSo (at_home w.first) w.call others
    → HasAllInCall h p others
in-call h p blocks w others so =
    record {
      first = w.first;
      of = w.of;
      call = w.call;
      steps = w.steps;
      calling = w.calling;
      tried = w.tried;
      had = so.had;
      began = so.began;
      exact = so.exact;
    }

-- the order of all blocks means nothing: one comes to the front, and one goes back
pub to-front : (h : HeapFields) (p : Pass) (held front back : List Block) (block : Block) → HasAll h p (held ++ (front ++ block ∷ back))
    → HasAll h p (block ∷ (held ++ (front ++ back)))
to-front h p held front back block all =
    record {
      at_rest = λ idle. (exact-front (at_home p) held front back block).0 (all.at_rest idle);
      in_call = λ busy.
          let w = all.in_call busy in
          in-call h p _ w _ (had-front (at_home w.first) w.call held front back w.had block w.began w.exact w.tried);
    }

pub from-front : (h : HeapFields) (p : Pass) (held front back : List Block) (block : Block) → HasAll h p (block ∷ (held ++ (front ++ back)))
    → HasAll h p (held ++ (front ++ block ∷ back))
from-front h p held front back block all =
    record {
      at_rest = λ idle. (exact-front (at_home p) held front back block).1 (all.at_rest idle);
      in_call = λ busy.
          let w = all.in_call busy in
          in-call h p _ w _ (had-back (at_home w.first) w.call held front back w.had block w.began w.exact w.tried);
    }

-- a block leaves the magazines, and comes to them
pub leaves-all : (h : HeapFields) (p : Pass) (held more less : List Block) (block : Block) → Splits block more less → HasAll h p (held ++ more)
    → HasAll h p (block ∷ (held ++ less))
leaves-all h p held more less block s all =
    subst (λ (xs : List Block). HasAll h p (block ∷ (held ++ xs))) (sym s.without_it)
    (to-front h p held s.front s.back block (subst (λ (xs : List Block). HasAll h p (held ++ xs)) s.with_it all))

pub comes-all : (h : HeapFields) (p : Pass) (held more less : List Block) (block : Block) → Splits block more less → HasAll h p (block ∷ (held ++ less))
    → HasAll h p (held ++ more)
comes-all h p held more less block s all =
    subst (λ (xs : List Block). HasAll h p (held ++ xs)) (sym s.with_it)
    (from-front h p held s.front s.back block (subst (λ (xs : List Block). HasAll h p (block ∷ (held ++ xs))) s.without_it all))
