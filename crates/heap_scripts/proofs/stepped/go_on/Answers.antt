use Rattle.std.proofs.Common.{◌≡◌, ◌++◌, [], append-nil, sym, subst}
use Rattle.errand_steps.specs.declared.told.Ending.{Ending}
use Rattle.errand_steps.specs.declared.told.Stepped.{Stepped}
use Rattle.errand_steps.specs.declared.told.Stepped.TheVariants as step
use Rattle.errand_steps.specs.Begins.{IsBusy}
use Rattle.live_heap.specs.declared.block.Block.{Block}
use Rattle.live_heap.specs.Answers.{HasStepped}
use Rattle.live_heap.specs.Hands.{IsHand, brought_in}
use Rattle.live_heap.specs.Steps.{IsDone}
use Rattle.heap_scripts.proofs.stepped.go_on.Goals as goal
use Rattle.heap_scripts.proofs.stepped.go_on.Goals.{in-More, in-Lost, in-Cleared}

pub loop-init : goal.loop-init
loop-init c = record { hand = c.requires.hand; busy = c.requires.busy; room = c.requires.room }

pub unreachable-requires : goal.unreachable-requires
unreachable-requires c =
    c.calls_go_step_by_step.ensures.moves c.loop.pass c.step.new.pass c.step.result (c.step.ensures.busy c.loop.invariant.busy) c.in-Idle.is

pub loop-preserved : goal.loop-preserved
loop-preserved c =
    let i = c.loop.invariant in
    let w = i.hand.waits i.busy in
    let stepped : HasStepped c.loop.pass c.step.new.pass c.step.result = c.step.ensures.busy i.busy in
    let on : (same : Stepped Block) → c.step.result ≡ same → ¬ IsDone same → IsHand c.args.heap.now c.step.new.pass (c.loop.blocks.items ++ brought_in same) × IsBusy c.step.new.pass.errand =
    λ same is undone.
    let told = subst (HasStepped c.loop.pass c.step.new.pass) is stepped in (
      c.hands_go_through_steps.ensures.stepped c.args.heap.now c.loop.pass c.step.new.pass c.loop.blocks.items same i.hand i.busy c.step.ensures.of told,
      (c.calls_go_step_by_step.ensures.goes_on w.first w.call w.steps c.loop.pass c.step.new.pass same w.calling told undone).busy,
    ) in
    let both : IsHand c.args.heap.now c.step.new.pass (c.loop.blocks.items ++ []) × IsBusy c.step.new.pass.errand =
    elim c.match-step.branch [
      | in-More w ↦ on step.More w.in-More.is (λ (end, is). absurd (let e : step.More ≡ step.Done end = is in cc))
      | in-Lost w ↦ on step.Lost w.in-Lost.is (λ (end, is). absurd (let e : step.Lost ≡ step.Done end = is in cc))
      | in-Cleared w ↦ on step.Cleared w.in-Cleared.is (λ (end, is). absurd (let e : step.Cleared ≡ step.Done end = is in cc))
    ] in
    record {
      hand = subst (IsHand c.args.heap.now c.step.new.pass) (append-nil c.loop.blocks.items) both.0;
      busy = both.1;
      room = i.room;
    }

pub returns-in-Done : goal.returns-in-Done
returns-in-Done c =
    let i = c.loop.invariant in
    subst (IsHand c.args.heap.now c.step.new.pass) (sym c.take_ending.ensures)
    (c.hands_go_through_steps.ensures.stepped c.args.heap.now c.loop.pass c.step.new.pass c.loop.blocks.items (step.Done c.in-Done.ending) i.hand
    i.busy c.step.ensures.of (subst (HasStepped c.loop.pass c.step.new.pass) c.in-Done.is (c.step.ensures.busy i.busy)))

pub returns-then-left-eq0 : goal.returns-then-left-eq0
returns-then-left-eq0 c = c.loop.invariant.hand

pub returns : goal.returns
returns c = c.loop.invariant.hand
