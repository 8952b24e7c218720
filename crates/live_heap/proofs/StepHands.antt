-- A hand behind the end of any call, and behind each step of one.
use Rattle.std.proofs.Common.{ℕ, suc, ◌≡◌, ◌≢◌, List, ◌++◌, sym, subst}
use Rattle.std.specs.Prelude.{All}
use Rattle.std.proofs.lemmas.Option.{none-some}
use Rattle.errand_steps.specs.declared.reply.Reply.TheVariants as reply
use Rattle.errand_steps.specs.declared.told.Ending.{Ending}
use Rattle.errand_steps.specs.declared.told.Ending.TheVariants as ending
use Rattle.errand_steps.specs.declared.told.Stepped.{Stepped}
use Rattle.errand_steps.specs.declared.told.Stepped.TheVariants as step
use Rattle.errand_steps.specs.Begins.{IsBusy}
use Rattle.errand_steps.specs.Calls.{Call, alloc, free, write, read, put, take}
use Rattle.step_machine.specs.Keeping.{LeavesPlace}
use Rattle.live_heap.specs.declared.block.Block.{Block}
use Rattle.live_heap.specs.Heaps.{HeapFields}
use Rattle.live_heap.specs.declared.pass.Pass.{Pass}
use Rattle.live_heap.specs.Answers.{HasStepped, IsTried, reply_of}
use Rattle.live_heap.specs.Calls.{HasCalled, IsCalling}
use Rattle.live_heap.specs.Hands.{IsHand, brought_by, brought_in}
use Rattle.live_heap.specs.Holdings.{Holds}
use Rattle.live_heap.specs.Passes.{IsOf}
use Rattle.live_heap.specs.Steps.{EndTells, IsDone}
use Rattle.live_heap.proofs.CallsAnswers.{given-owns, got-owns}
use Rattle.live_heap.proofs.Holding.{brought-hand, ended-hand, holds-all, idle-free, plus-nothing}
use Rattle.live_heap.proofs.LawsKept.{called-given, called-got}
use Rattle.live_heap.proofs.StepByStep.{steps-end, steps-on, steps-tell}

module _ (h : HeapFields) (p q : Pass) (blocks : List Block) (of : IsOf h p) (held : Holds p blocks) (still : IsOf h q) where
  -- a put that found a full shelf has its block back
  full-hand :
      (call : Call) (steps : ℕ) (block : Block) (found : ℕ) → All (λ block. LeavesPlace call block.place) blocks
      → HasCalled p call steps (reply.Full found) q → EndTells call (ending.Full block found) q → IsHand h q (blocks ++ brought_by (ending.Full block found))
  full-hand (put place need shelf) steps block found leaves called tells =
      brought-hand h q blocks block called.idle tells.2
      (subst (λ k. All (λ other. other.place ≢ k) blocks) (sym tells.0) leaves)
      (ended-hand h p q blocks (put place need shelf) steps (reply.Full found) of still called leaves held)
  full-hand (alloc words) steps block found leaves called tells = absurd (none-some called.ended.ended.0 called.ended.ended.1)
  full-hand (free place need) steps block found leaves called tells = absurd (none-some called.ended.ended.0 called.ended.ended.1)
  full-hand (write place need i v) steps block found leaves called tells = absurd (none-some called.ended.ended.0 called.ended.ended.1)
  full-hand (read place need i) steps block found leaves called tells = absurd (none-some called.ended.ended.0 called.ended.ended.1)
  full-hand (take shelf) steps block found leaves called tells = absurd (none-some called.ended.ended.0 called.ended.ended.1)

  -- what the end of a call brings is in the hand, with what the call left there
  pub done-hand :
      (call : Call) (steps : ℕ) (end : Ending Block) → All (λ block. LeavesPlace call block.place) blocks → HasCalled p call steps (reply_of end) q
      → EndTells call end q → IsHand h q (blocks ++ brought_by end)
  done-hand call steps (ending.Given block) leaves called tells =
      brought-hand h q blocks block called.idle (given-owns p call steps q h of still block called)
      (holds-all p (λ other. other.place ≢ block.place)
      (λ other owns. called-given h p q call steps block.place block.need other of still called owns) blocks held)
      (ended-hand h p q blocks call steps (reply.Given block.place block.need) of still called leaves held)
  done-hand call steps (ending.Got block) leaves called tells =
      brought-hand h q blocks block called.idle (got-owns p call steps q h of still block called)
      (holds-all p (λ other. other.place ≢ block.place)
      (λ other owns. called-got h p q call steps block.place block.need other of still called owns) blocks held)
      (ended-hand h p q blocks call steps (reply.Got block.place block.need) of still called leaves held)
  done-hand call steps (ending.Full block found) leaves called tells = full-hand call steps block found leaves called tells
  done-hand call steps told leaves called tells =
      plus-nothing h q blocks (ended-hand h p q blocks call steps (reply_of told) of still called leaves held)

  -- an allocation or a free that has begun waits with the blocks in the hand
  pub begun-hand : (call : Call) → All (λ block. LeavesPlace call block.place) blocks → IsTried call → IsCalling p call 0 q → IsHand h q blocks
  begun-hand call leaves tried calling =
      record {
        of = still;
        holds = λ idle. absurd (idle-free q.errand idle calling.busy);
        waits = λ busy.
            record { first = p; of = of; holds = held; call = call; steps = 0; calling = calling; tried = tried; leaves = leaves };
      }

module _ (h : HeapFields) (p q : Pass) (blocks : List Block) (hand : IsHand h p blocks) (busy : IsBusy p.errand) (still : IsOf h q) where
  -- a call under way waits on behind a step that doesn't end it
  waits-on : (told : Stepped Block) → HasStepped p q told → ¬ IsDone told → IsHand h q blocks
  waits-on told stepped undone =
      let w = hand.waits busy in
      let calling = steps-on w.first w.call w.steps p q told w.calling stepped undone in
      record {
        of = still;
        holds = λ idle. absurd (idle-free q.errand idle calling.busy);
        waits = λ _.
            record {
              first = w.first;
              of = w.of;
              holds = w.holds;
              call = w.call;
              steps = suc w.steps;
              calling = calling;
              tried = w.tried;
              leaves = w.leaves;
            };
      }

  pub stepped-hand : (told : Stepped Block) → HasStepped p q told → IsHand h q (blocks ++ brought_in told)
  stepped-hand (step.Done end) stepped =
      let w = hand.waits busy in
      done-hand h w.first q blocks w.of w.holds still w.call w.steps end w.leaves
      (steps-end w.first w.call w.steps p q end w.calling stepped) (steps-tell h w.first w.call w.steps p q end w.of hand.of still w.calling stepped)
  stepped-hand step.Idle stepped = plus-nothing h q blocks (waits-on step.Idle stepped (λ (end, is). absurd (let e : step.Idle ≡ step.Done end = is in cc)))
  stepped-hand step.More stepped = plus-nothing h q blocks (waits-on step.More stepped (λ (end, is). absurd (let e : step.More ≡ step.Done end = is in cc)))
  stepped-hand step.Lost stepped = plus-nothing h q blocks (waits-on step.Lost stepped (λ (end, is). absurd (let e : step.Lost ≡ step.Done end = is in cc)))
  stepped-hand step.Cleared stepped = plus-nothing h q blocks (waits-on step.Cleared stepped (λ (end, is). absurd (let e : step.Cleared ≡ step.Done end = is in cc)))
