-- All blocks of a caller, through its calls.
use Rattle.std.proofs.Common.{ℕ, ◌≡◌, ◌++◌, ◌∙◌, List, ◌∷◌, Result, Ok, Err, refl, sym, ap, subst, inl, inr, append_assoc}
use Rattle.std.specs.Prelude.{IfOk}
use Rattle.std.specs.Result.{IfErr}
use Rattle.std.proofs.lemmas.Option.{none-some}
use Rattle.heap_geometry.specs.declared.geometry.Geometry.{Geometry}
use Rattle.errand_steps.specs.declared.reply.Reply.{Reply}
use Rattle.errand_steps.specs.declared.reply.Reply.TheVariants as reply
use Rattle.errand_steps.specs.Begins.{IsBusy, IsIdle}
use Rattle.errand_steps.specs.Calls.{Call, alloc, free, put, take}
use Rattle.step_machine.specs.Moments.{IsServed}
use Rattle.live_heap.specs.declared.answers.AllocAnswer.{AllocAnswer}
use Rattle.live_heap.specs.declared.answers.AllocAnswer.TheVariants as alloc_answer
use Rattle.live_heap.specs.declared.answers.FreeAnswer.{FreeAnswer}
use Rattle.live_heap.specs.declared.answers.FreeAnswer.TheVariants as free_answer
use Rattle.live_heap.specs.declared.answers.Full.{Full}
use Rattle.live_heap.specs.declared.answers.Resumed.{Resumed}
use Rattle.live_heap.specs.declared.answers.Resumed.TheVariants as resumed
use Rattle.live_heap.specs.declared.answers.Taken.{Taken}
use Rattle.live_heap.specs.declared.answers.Taken.TheVariants as taken
use Rattle.live_heap.specs.declared.block.Block.{Block}
use Rattle.live_heap.specs.Heaps.{HeapFields}
use Rattle.live_heap.specs.declared.pass.Pass.{Pass}
use Rattle.live_heap.specs.Answers.{AllocTells, FreeTells, IsTried, PutTellsFull, ResumeTells, TakeTells}
use Rattle.live_heap.specs.Calls.{HasCalled, IsCalling, IsInterrupted}
use Rattle.live_heap.specs.Hands.{given_by, resumed_by, returned_by, taken_by}
use Rattle.live_heap.specs.Holdings.{ChangesHand, HoldsExactly}
use Rattle.live_heap.specs.Passes.{IsOf, seen}
use Rattle.live_heap.proofs.laws_for_builders.AllBlocks.{called-exact, order-exact}
use Rattle.live_heap.proofs.laws_for_builders.Hands.{idle-not_busy}
use Rattle.block_cache.specs.Accounts.{Began, HasAll}
use Rattle.block_cache.specs.Magazines.{Splits}

-- a caller has all its blocks between calls, and while one waits
pub rests : (p : Pass) (blocks : List Block) → IsIdle p.errand → HoldsExactly p blocks → HasAll p blocks
rests p blocks idle exact = record { at_rest = λ still. exact; in_call = λ busy. absurd (idle-not_busy p.errand idle busy) }

-- two heaps that one pass is of have the same numbers and the same memory, and so a pass that is of the one is of the other
of-other : (h k : HeapFields) (p first : Pass) → IsOf h p → IsOf h first → IsOf k p → IsOf k first
of-other h k p first one is other =
    let laid : h.layout ≡ k.layout = sym one.served.own_errand.geometry ∙ other.served.own_errand.geometry in
    record {
      table = is.table ∙ sym one.table ∙ other.table;
      empty = is.empty;
      before = is.before;
      one = is.one;
      sight = is.sight;
      begun = is.begun;
      served = subst (λ (g : Geometry). IsServed g first.errand.caller first.errand (seen first)) laid is.served;
      alone = λ alone. is.alone (ap (λ (g : Geometry). g.callers) laid ∙ alone);
      settled = is.settled;
      counted = is.counted;
      mine = is.mine;
      apart = is.apart;
      once = is.once;
    }

waits :
    (h : HeapFields) (first p q : Pass) (blocks had : List Block) (call : Call) (made tries : ℕ) → IsOf h first → IsOf h q
    → IsInterrupted first call made p tries q → IsTried call → Began call blocks had → HoldsExactly first had → HasAll q blocks
waits h first p q blocks had call made tries was of i tried began exact =
    record {
      at_rest = λ idle. absurd (idle-not_busy q.errand idle i.calling.busy);
      in_call = λ busy.
          record {
            first = first;
            of = λ k other. of-other h k q first of was other;
            call = call;
            steps = _;
            calling = i.calling;
            tried = tried;
            had = had;
            began = began;
            exact = exact;
          };
    }

-- all blocks of a caller behind a call that has ended
pub ended-all :
    (h : HeapFields) (p q : Pass) (call : Call) (steps : ℕ) (answer : Reply) (had has : List Block) → IsOf h p → IsOf h q
    → HasCalled p call steps answer q → ChangesHand call answer had has → HoldsExactly p had → HasAll q has
ended-all h p q call steps answer had has was of called hand exact =
    rests q has called.idle (called-exact h p q call steps answer had has was of called hand exact)

-- all blocks of a caller behind an allocation or a free, begun or resumed
pub resumed-all :
    (h : HeapFields) (first p q : Pass) (blocks : List Block) (call : Call) (made tries : ℕ) (answer : Resumed) → IsOf h first → IsOf h q
    → ResumeTells first call made p tries answer q → IsTried call → (had : List Block) → Began call blocks had → HoldsExactly first had
    → HasAll q (resumed_by answer ++ blocks)
resumed-all h first p q blocks (alloc words) made tries (resumed.Given block) was of tells tried had began exact =
    ended-all h first q (alloc words) tells.0.steps (reply.Given block.place block.need) had (block ∷ blocks) was of tells.0.called
    (block, refl, refl, ap (λ (xs : List Block). block ∷ xs) (sym began)) exact
resumed-all h first p q blocks (alloc words) made tries resumed.Freed was of tells tried had began exact =
    ended-all h first q (alloc words) tells.steps reply.Freed had blocks was of tells.called (sym began) exact
resumed-all h first p q blocks (alloc words) made tries resumed.Refused was of tells tried had began exact =
    ended-all h first q (alloc words) tells.steps reply.Refused had blocks was of tells.called (sym began) exact
resumed-all h first p q blocks (alloc words) made tries resumed.Spent was of tells tried had began exact =
    ended-all h first q (alloc words) tells.0.steps reply.Spent had blocks was of tells.0.called (sym began) exact
resumed-all h first p q blocks (alloc words) made tries resumed.Busy was of tells tried had began exact =
    waits h first p q blocks had (alloc words) made tries was of tells tried began exact
resumed-all h first p q blocks (free place need) made tries (resumed.Given block) was of tells tried had began exact =
    absurd (none-some tells.0.called.ended.ended.0 tells.0.called.ended.ended.1)
resumed-all h first p q blocks (free place need) made tries resumed.Freed was of tells tried had began exact =
    ended-all h first q (free place need) tells.steps reply.Freed had blocks was of tells.called (began.block, began.lies, began.is) exact
resumed-all h first p q blocks (free place need) made tries resumed.Refused was of tells tried had began exact =
    absurd (none-some tells.called.ended.ended.0 tells.called.ended.ended.1)
resumed-all h first p q blocks (free place need) made tries resumed.Spent was of tells tried had began exact =
    absurd (none-some tells.0.called.ended.ended.0 tells.0.called.ended.ended.1)
resumed-all h first p q blocks (free place need) made tries resumed.Busy was of tells tried had began exact =
    waits h first p q blocks had (free place need) made tries was of tells tried began exact
resumed-all h first p q blocks call made tries answer was of tells tried had began exact = absurd tried

-- all blocks of a caller behind an allocation
pub alloc-all :
    (h : HeapFields) (p q : Pass) (blocks : List Block) (words tries : ℕ) (answer : AllocAnswer Block) → IsIdle p.errand → IsOf h p → IsOf h q
    → AllocTells p words tries answer q → HasAll p blocks → HasAll q (given_by answer ++ blocks)
alloc-all h p q blocks words tries (alloc_answer.Given block) idle was of tells all =
    resumed-all h p p q blocks (alloc words) 0 tries (resumed.Given block) was of tells tt blocks refl (all.at_rest idle)
alloc-all h p q blocks words tries alloc_answer.Refused idle was of tells all =
    resumed-all h p p q blocks (alloc words) 0 tries resumed.Refused was of tells tt blocks refl (all.at_rest idle)
alloc-all h p q blocks words tries alloc_answer.TooLarge idle was of tells all = subst (λ (x : Pass). HasAll x blocks) (sym tells) all
alloc-all h p q blocks words tries alloc_answer.Spent idle was of (inl once) all = subst (λ (x : Pass). HasAll x blocks) (sym once.same) all
alloc-all h p q blocks words tries alloc_answer.Spent idle was of (inr later) all =
    resumed-all h p p q blocks (alloc words) 0 tries resumed.Spent was of later tt blocks refl (all.at_rest idle)
alloc-all h p q blocks words tries alloc_answer.Busy idle was of tells all =
    resumed-all h p p q blocks (alloc words) 0 tries resumed.Busy was of tells tt blocks refl (all.at_rest idle)

-- all blocks of a caller behind a free
pub free-all :
    (h : HeapFields) (p q : Pass) (block : Block) (blocks : List Block) (tries : ℕ) (answer : FreeAnswer) → IsIdle p.errand → IsOf h p → IsOf h q
    → FreeTells p block tries answer q → HasAll p (block ∷ blocks) → HasAll q blocks
free-all h p q block blocks tries free_answer.Freed idle was of tells all =
    resumed-all h p p q blocks (free block.place block.need) 0 tries resumed.Freed was of tells tt (block ∷ blocks)
    (record { block = block; lies = refl; serves = refl; is = refl }) (all.at_rest idle)
free-all h p q block blocks tries free_answer.Busy idle was of tells all =
    resumed-all h p p q blocks (free block.place block.need) 0 tries resumed.Busy was of tells tt (block ∷ blocks)
    (record { block = block; lies = refl; serves = refl; is = refl }) (all.at_rest idle)

-- all blocks of a caller behind a resumed call that was waiting
pub waiting-all :
    (h : HeapFields) (p q : Pass) (blocks : List Block) (tries : ℕ) (answer : Resumed) → IsBusy p.errand → IsOf h p → IsOf h q
    → ((first : Pass) (call : Call) (made : ℕ) → IsOf h first → IsCalling first call made p → ResumeTells first call made p tries answer q)
    → HasAll p blocks → HasAll q (resumed_by answer ++ blocks)
waiting-all h p q blocks tries answer busy here of tells all =
    let w = all.in_call busy in
    let was = w.of h here in
    resumed-all h w.first p q blocks w.call w.steps tries answer was of (tells w.first w.call w.steps was w.calling) w.tried w.had w.began w.exact

-- all blocks of a caller behind a put, from which the block may come back
pub put-all :
    {A : Type 0} (h : HeapFields) (p q : Pass) (block : Block) (blocks : List Block) (shelf : ℕ) (answer : Result A Full) → IsIdle p.errand → IsOf h p → IsOf h q
    → IfOk answer (λ _. HasCalled p (put block.place block.need shelf) 0 reply.Put q)
    → IfErr answer (λ full. PutTellsFull p block shelf full q) → HasAll p (block ∷ blocks) → HasAll q (returned_by answer ++ blocks)
put-all h p q block blocks shelf (Ok _) idle was of lies back all =
    ended-all h p q (put block.place block.need shelf) 0 reply.Put (block ∷ blocks) blocks was of lies (block, refl, refl) (all.at_rest idle)
put-all h p q block blocks shelf (Err full) idle was of lies back all =
    ended-all h p q (put block.place block.need shelf) 0 (reply.Full full.found) (block ∷ blocks) (full.block ∷ blocks) was of back.called
    (ap (λ (b : Block). b ∷ blocks) back.same) (all.at_rest idle)

-- all blocks of a caller behind a take
pub take-all :
    (h : HeapFields) (p q : Pass) (blocks : List Block) (shelf : ℕ) (answer : Taken Block) → IsIdle p.errand → IsOf h p → IsOf h q → TakeTells p shelf answer q
    → HasAll p blocks → HasAll q (taken_by answer ++ blocks)
take-all h p q blocks shelf (taken.Got block) idle was of tells all =
    ended-all h p q (take shelf) 1 (reply.Got block.place block.need) blocks (block ∷ blocks) was of tells.0 (block, refl, refl, refl) (all.at_rest idle)
take-all h p q blocks shelf taken.Empty idle was of tells all =
    ended-all h p q (take shelf) 1 reply.Empty blocks blocks was of tells refl (all.at_rest idle)
take-all h p q blocks shelf (taken.Missed expected found) idle was of tells all =
    ended-all h p q (take shelf) 1 (reply.Missed expected found) blocks blocks was of tells.0 refl (all.at_rest idle)

-- all blocks of a caller in lists that are joined otherwise
pub regroup : (p : Pass) (xs ys zs : List Block) → HasAll p (xs ++ (ys ++ zs)) → HasAll p (xs ++ ys ++ zs)
regroup p xs ys zs all = subst (HasAll p) (sym (append_assoc xs ys zs)) all

-- a block of a list among others comes to the front, and goes back
to-front :
    (p : Pass) (held front back : List Block) (block : Block) → HoldsExactly p (held ++ (front ++ block ∷ back))
    → HoldsExactly p (block ∷ (held ++ (front ++ back)))
to-front p held front back block exact =
    subst (λ (xs : List Block). HoldsExactly p (block ∷ xs)) (append_assoc held front back)
    ((order-exact p (held ++ front) back block).0 (subst (HoldsExactly p) (sym (append_assoc held front (block ∷ back))) exact))

from-front :
    (p : Pass) (held front back : List Block) (block : Block) → HoldsExactly p (block ∷ (held ++ (front ++ back)))
    → HoldsExactly p (held ++ (front ++ block ∷ back))
from-front p held front back block exact =
    subst (HoldsExactly p) (append_assoc held front (block ∷ back))
    ((order-exact p (held ++ front) back block).1 (subst (λ (xs : List Block). HoldsExactly p (block ∷ xs)) (sym (append_assoc held front back)) exact))

-- a block that leaves the others comes to the front, and one that comes to them goes back
pub leaves-all :
    (p : Pass) (held more less : List Block) (block : Block) → Splits block more less → IsIdle p.errand → HasAll p (held ++ more)
    → HasAll p (block ∷ (held ++ less))
leaves-all p held more less block s idle all =
    rests p (block ∷ (held ++ less)) idle
    (subst (λ (xs : List Block). HoldsExactly p (block ∷ (held ++ xs))) (sym s.without_it)
    (to-front p held s.front s.back block (subst (λ (xs : List Block). HoldsExactly p (held ++ xs)) s.with_it (all.at_rest idle))))

pub comes-all :
    (p : Pass) (held more less : List Block) (block : Block) → Splits block more less → IsIdle p.errand → HasAll p (block ∷ (held ++ less))
    → HasAll p (held ++ more)
comes-all p held more less block s idle all =
    rests p (held ++ more) idle
    (subst (λ (xs : List Block). HoldsExactly p (held ++ xs)) (sym s.with_it)
    (from-front p held s.front s.back block
    (subst (λ (xs : List Block). HoldsExactly p (block ∷ (held ++ xs))) s.without_it (all.at_rest idle))))
